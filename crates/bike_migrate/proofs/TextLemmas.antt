-- What the statements do to a database.
use Rattle.std.proofs.Common.{◌≡◌, ℕ, Bool, true, false, List, [], ◌∷◌, ◌++◌, map, length, take, drop, get_or, zero, suc, ◌+◌, ◌<◌, ◌≤◌, arith, codes, ℤ, pos, None, Ok}
use Rattle.std.proofs.Common.{refl, sym, ap, ap₂, subst, ◌∙◌, inl, inr}
use Rattle.std.specs.List.{list_all, range_with_len, zip}
use Rattle.std.proofs.lemmas.List.{length-map, get_or-map}
use Rattle.std.proofs.lemmas.Simd.{map-map}
use Rattle.std.proofs.lemmas.List.FromFn.{fill_by_all}
use Rattle.std.proofs.lemmas.Bool.{and_parts, cases_eq}
use Rattle.std.specs.Array.{IsFromFnResultFrom}
use Rattle.std.specs.Fn.{Called}
use denote.Param.Members.{Mut}
use Rattle.sqlite_value.specs.declared.value.Value.{Value}
use Rattle.sqlite_value.specs.declared.value.Value.TheVariants.{Null, Int, Text}
use Rattle.sqlite_value.specs.declared.value.ValueRef.{ValueRef}
use Rattle.sqlite_value.specs.declared.value.ValueRef.TheVariants as lent
use Rattle.sqlite_value.specs.Value.{owned}
use Rattle.sqlite_value.specs.Order.{Row, column}
use Rattle.sqlite_tied.specs.Compute.{everything}
use Rattle.sqlite_sql.specs.Query.{Query}
use Rattle.sqlite_sql.specs.Term.{col}
use Rattle.sqlite_schema.specs.declared.schema.Column.{Column}
use Rattle.sqlite_schema.specs.declared.schema.Kind.{Kind}
use Rattle.sqlite_schema.specs.declared.schema.Kind.TheVariants.{Integer, Text as Words}
use Rattle.sqlite_schema.specs.declared.schema.Schema.{Schema}
use Rattle.sqlite_schema.specs.declared.command.Command.{Command}
use Rattle.sqlite_schema.specs.declared.command.Command.TheVariants.{CreateTable}
use Rattle.sqlite_schema.specs.declared.command.Source.TheVariants.{Values}
use Rattle.sqlite_resolve.specs.Compile.{first}
use Rattle.sqlite.specs.Calls.{IsWrite}
use Rattle.sqlite.specs.Effect.{Database, IsDatabase}
use Rattle.sqlite.specs.Given.{IsPlain}
use Rattle.sqlite.specs.Listing.{understood}
use Rattle.sqlite.specs.State.{State, Writes, Executes, ExecutesIn, ExecutesInside}
use Rattle.sqlite.specs.Values.{bound, bound_value}
use Rattle.sqlite.proofs.Callers.{command_of, statement_of, runs_as}
use Rattle.bike_sql.specs.Inserts.{IsInsert}
use Rattle.bike_sql.proofs.InsertLaws.{insert_is}
use Rattle.bike_sql.specs.Inside.{IsWriteIn}
use Rattle.bike_sql.specs.Drops.{IsDrop}
use Rattle.bike_sql.proofs.DropTextLemmas.{drop_means}
use Rattle.bike_sql.specs.Layout.{Layout, table_of}
use Rattle.bike_sql.specs.Queries.{table_query, key_tests, by_columns}
use Rattle.bike_sql.specs.Stands.{Stands}
use Rattle.bike_sql.proofs.CallLaws.{Does}
use Rattle.bike_sql.proofs.CastLemmas.{suits, suit_all}
use Rattle.bike_sql.proofs.IndexLaw.{IsOnlyIndex}
use Rattle.bike_sql.proofs.SetLaw.{some_terms}
use Rattle.bike_sql.proofs.TextLemmas.{IsUpdate, update_means, IsSelect}
use Rattle.bike_sql.proofs.SelectLaws.{every_column, ordered_rows, rows_with}
use Rattle.bike_sql.proofs.KeyLemmas.{IsKeyAt}
use Rattle.bike_sql.proofs.WriteLaws.{row_put, row_updated, row_terms, width}
use Rattle.bike_book.specs.declared.columns.stations.TheConstants as stations
use Rattle.bike_book.specs.declared.version.TheConstants.{NEWEST}
use Rattle.bike_book.specs.Tables.{TableName, Meta, Stations, Riders, History, MoreNames, keys_of}
use Rattle.bike_book.specs.Rows.{number_value}
use Rattle.bike_book.specs.Writes.{Add}
use Rattle.bike_schema.specs.Calls.{WasFree}
use Rattle.bike_schema.specs.Layouts.{layout_of, name_of}
use Rattle.bike_schema.specs.Makes.{Puts}
use Rattle.bike_schema.specs.Tables.{IsOurs, tables_of, is_parent}
use Rattle.bike_schema.proofs.KeyLemmas.{unique_key}
use Rattle.bike_schema.proofs.InsertTexts.{insert_text}
use Rattle.bike_schema.proofs.MakeFacts.{text_of, declared, index_only, each_told}
use Rattle.bike_schema.proofs.MakeTexts.{IsOnlyCreate, understood_as}
use Rattle.bike_schema.proofs.MakesLemmas.{adds_row, sets_columns}
use Rattle.bike_recognition.specs.Recognition.{TableStands}
use Rattle.bike_recognition.specs.declared.earlier_versions.earlier.Earlier.TheVariants.{First, Second, Third}
use Rattle.bike_sql.specs.Answer.{HasOneAnswer}
use Rattle.bike_sql.specs.View.{rows_where}
use Rattle.bike_recognition.specs.EarlierVersions.Counts.{counts_name, counts_layout, HasCounts, old_counts}
use Rattle.bike_recognition.specs.EarlierVersions.Earlier.{stations_layout, with_text}
use Rattle.bike_recognition.specs.EarlierVersions.Riders.{riders_name, riders_layout, completed_rider}
use Rattle.bike_migrate.specs.Raised.{MakesTable, MakesIndex, station_names, version_names, rider_names, request_names, request_row, WritesOnly, DropsTable, version_write}
use Rattle.bike_migrate.specs.Stations.{may_hold, IsStationRow, IsRiderRow, IsRequestRow, AsksRows}
use Rattle.bike_schema.proofs.MakeLemmas.{adds}
use Rattle.bike_schema.proofs.GrowthLemmas.{still_unnamed, made_stands, made_empty, all_stay}
use Rattle.bike_sql.proofs.IndexLaw as index
use Rattle.bike_schema.specs.declared.indexes.TheConstants.{MORE_NAMES_BY_LANGUAGE, MORE_NAMES_BY_THING, HISTORY_BY_KEY}
use Rattle.bike_schema.specs.Indexes.{TableIndex, more_names_by_language, more_names_by_thing, history_by_key}
use Rattle.bike_schema.proofs.IndexLemmas.{Tells, index_added, index_there}
use Rattle.bike_migrate.proofs.SpareLemmas.{spares_less, among_rest, spares_making, spares_indexing, spares_inserting, spares_updating, spares_dropping}
use Rattle.bike_migrate.proofs.KeptStaysLemmas.{kept_beside, kept_indexed, kept_written}
use Rattle.bike_migrate.proofs.KeptTexts.{kept_drops}
use Rattle.bike_migrate.proofs.LyingDropLaw.{lying_dropped}
use Rattle.bike_sql.proofs.DropLaw.{still_free}
use Rattle.bike_recognition.specs.Wanted.{Lies}
use Rattle.bike_recognition.specs.EarlierVersions.Kept.{kept_name, kept_layout, KeptLies}

-- ---- texts that write

means_writes : (s : Schema) (text : List ℕ) (k : Command) → command_of (understood s text) ≡ k → IsWrite k → IsWriteIn s text
means_writes s text k means write c is = subst IsWrite (sym means ∙ ap command_of is) write

-- ---- CREATE

pub create_writes : (t : TableName) (s : Schema) → IsWriteIn s (text_of t)
create_writes t s c is = subst IsWrite (sym (understood_as (text_of t) (declared t).only s c is).makes) tt

create_write : (text : List ℕ) → IsOnlyCreate text (first text) → (old new : State) (count : ℕ) → Executes text [] old new (Ok count) → Writes old new None CreateTable text [] count
unfolding ExecutesIn
create_write text only old new count h =
    let bare = understood_as text only old.now.schema h.0 h.1.is in
    let is : command_of (understood old.now.schema text) ≡ CreateTable = ap command_of h.1.is ∙ bare.makes in
    let plain : IsPlain (understood old.now.schema text) = subst IsPlain (sym h.1.is) (bare.shows, bare.timeless) in
    let whole : statement_of text (understood old.now.schema text) ≡ text = ap (statement_of text) h.1.is ∙ bare.whole in
    subst (λ t. Writes old new None CreateTable t [] count) whole (runs_as text [] old new old.now.schema refl CreateTable is plain count h)

pub creates : (t : TableName) (old new : State) → is_parent old.now.schema (name_of t) ≡ false → (count : ℕ) → Executes (text_of t) [] old new (Ok count) → MakesTable t old.now new.now
creates t old new unnamed count ran =
    let it = adds (text_of t) (layout_of t) (declared t) old new count ran in
    let spared = spares_making (text_of t) old new count (create_write (text_of t) (declared t).only old new count ran) in
    record {
      sound = it.sound;
      stands = made_stands (layout_of t) old.now new.now it (keys_of t) unnamed;
      no_rows = made_empty (layout_of t) old.now new.now it (keys_of t) unnamed;
      unnamed = still_unnamed (layout_of t) old.now new.now it;
      stays = all_stay (layout_of t) old.now new.now it;
      spares = spared;
      kept = kept_beside (layout_of t) old.now new.now it spared;
    }

-- ---- CREATE INDEX

-- the statements that make the indexes of further names, by their languages and by what they name, and that of the history
abbrev pub language_text : List ℕ
language_text = MORE_NAMES_BY_LANGUAGE.now

abbrev pub thing_text : List ℕ
thing_text = MORE_NAMES_BY_THING.now

abbrev pub by_key_text : List ℕ
by_key_text = HISTORY_BY_KEY.now

pub language_only : IsOnlyIndex (first language_text)
language_only = index_only.1.1.1.0

pub thing_only : IsOnlyIndex (first thing_text)
thing_only = index_only.1.1.1.1.0

pub by_key_only : IsOnlyIndex (first by_key_text)
by_key_only = index_only.1.1.1.1.1.0

pub index_writes : (text : List ℕ) → IsOnlyIndex (first text) → (s : Schema) → IsWriteIn s text
index_writes text only s c is = subst IsWrite (sym (index.understood_as text only s c is).makes.1) tt

-- the index is made, and nothing else
makes_index : (text : List ℕ) (i : TableIndex) → IsOnlyIndex (first text) → Tells text i → (old new : State) → Stands old.now (keys_of i.table) (layout_of i.table) → (count : ℕ)
    → Executes text [] old new (Ok count) → MakesIndex i old.now new.now
makes_index text i only tells old new was count ran =
    let it = index_added (name_of i.table) text tells.only old new count ran in
    let made = index.index_made text only old new count ran in
    let spared = spares_indexing (name_of i.table) text old.now new.now it in
    record {
      indexes = made;
      has = index_there text i tells old.now new.now was.at was.tree was.has it;
      spares = spared;
      kept = kept_indexed old.now new.now made spared;
    }

pub makes_language : (old new : State) → TableStands MoreNames old.now → (count : ℕ) → Executes language_text [] old new (Ok count) → MakesIndex more_names_by_language old.now new.now
makes_language = makes_index language_text more_names_by_language language_only each_told.1.1.1.0

pub makes_thing : (old new : State) → TableStands MoreNames old.now → (count : ℕ) → Executes thing_text [] old new (Ok count) → MakesIndex more_names_by_thing old.now new.now
makes_thing = makes_index thing_text more_names_by_thing thing_only each_told.1.1.1.1.0

pub makes_by_key : (old new : State) → TableStands History old.now → (count : ℕ) → Executes by_key_text [] old new (Ok count) → MakesIndex history_by_key old.now new.now
makes_by_key = makes_index by_key_text history_by_key by_key_only each_told.1.1.1.1.1.0

-- ---- UPDATE of the version and the sums

abbrev version_text : List ℕ
version_text = codes "UPDATE meta SET version = ?2, cash = ?3, revenue = ?3 WHERE one = ?1"

abbrev version_query : Query
version_query = table_query 0 (key_tests 0 (0 ∷ [])) [] (col 1 0 ∷ col 1 0 ∷ some_terms (layout_of Meta) ((2, 1) ∷ (4, 2) ∷ (5, 2) ∷ []))

updates_version : IsUpdate version_query (layout_of Meta) version_text
unfolding everything
updates_version = (λ tree. (refl, refl, refl), refl)

pub version_writes : (db : Database) → IsOurs db → IsWriteIn db.schema version_text
version_writes db ours = let it = ours.has Meta in means_writes db.schema version_text _ (update_means version_query (layout_of Meta) version_text updates_version db.schema it.at it.tree it.has).0 tt

pub sets_version : Does IsOurs (λ db. WasFree version_write (tables_of db)) (Puts (version_write ∷ [])) version_text (number_value 1 ∷ number_value NEWEST ∷ number_value 0 ∷ [])
unfolding everything
sets_version = sets_columns Meta _ _ (row_updated (unique_key Meta) 0 ((2, 1) ∷ (4, 2) ∷ (5, 2) ∷ []) _ (λ tree. (refl, refl, refl), refl) refl refl refl (λ r. refl) (λ r. refl))

-- they are set, and nothing else
pub version_set : (old new : State) → IsOurs old.now → (count : ℕ) → ExecutesInside 0 version_text (number_value 1 ∷ number_value NEWEST ∷ number_value 0 ∷ []) old new (Ok count)
    → WritesOnly version_names (version_write ∷ []) old.now new.now
version_set old new ours count ran =
    let it = ours.has Meta in
    let made = (sets_version.does old new ours (Ok count) ran).0.makes in
    let spared = spares_updating (layout_of Meta) (keys_of Meta) old new it version_text _ count _ (update_means version_query (layout_of Meta) version_text updates_version old.now.schema it.at it.tree it.has) ran.0 in
    record { makes = made; spares = spared; kept = kept_written version_names (version_write ∷ []) old.now new.now made spared refl }

-- ---- INSERT of a station

abbrev station_text : List ℕ
station_text = insert_text Stations

inserts_station : (s : Schema) (tree : ℕ) → IsInsert s (table_of (layout_of Stations) tree) (first station_text) (Values (row_terms (layout_of Stations)) (width (layout_of Stations)))
unfolding everything
inserts_station s tree = (refl, refl, refl, λ base. refl)

pub station_writes : (db : Database) → IsOurs db → IsWriteIn db.schema station_text
station_writes db ours =
    let it = ours.has Stations in
    means_writes db.schema station_text _ (insert_is db.schema it.at (table_of (layout_of Stations) it.tree) it.has station_text (Values (row_terms (layout_of Stations)) (width (layout_of Stations)))
    (inserts_station db.schema it.tree)).0 tt

-- what it may hold, a column stores as it is
kind_suits : (k : Kind) (v : Value) → may_hold k v ≡ true → suits k v ≡ true
kind_suits Integer Null h = refl
kind_suits Integer (Int n) h = refl
kind_suits Words Null h = refl
kind_suits Words (Text t) h = refl
kind_suits k v h = absurd (let e = h in cc)

-- the first columns of a row as they are, and behind them what suits the other columns
all_suit : (cs rest : List Column) (row tail : Row) (n : ℕ)
    → list_all (λ (x : ℕ × Kind). may_hold x.1 (column row x.0)) (zip (range_with_len n (length (map (λ c. c.kind) (cs ++ rest)))) (map (λ c. c.kind) (cs ++ rest))) ≡ true
    → suit_all rest tail ≡ true → suit_all (cs ++ rest) (map (column row) (range_with_len n (length cs)) ++ tail) ≡ true
all_suit [] rest row tail n h suit = suit
all_suit (c ∷ cs) rest row tail n h suit = let both = and_parts (may_hold c.kind (column row n)) _ h in rw (kind_suits c.kind (column row n) both.0) (all_suit cs rest row tail (n + 1) both.1 suit)

abbrev columns : List Column
columns = (layout_of Stations).columns

station_suits : (text : List ℕ) (row : Row) → IsStationRow row → suit_all columns (with_text text row) ≡ true
station_suits text row it = all_suit (take stations.BY_TYPE columns) (drop stations.BY_TYPE columns) row (Text text ∷ []) 0 it refl

-- .. reads that leave the reader as it is give these values in order ..
module _ {F : Type 0} {g : Mut F (ℕ × Unit {0}) ValueRef} (value : ℕ → Value) (f : F) (reads : (i : ℕ) (y : ValueRef) (q : F) → Called g f (i, tt) y q → (q ≡ f) × (owned y ≡ value i))
    (values : List ValueRef) where
  value_is : (n i : ℕ) → IsFromFnResultFrom g f values i n → (k : ℕ) (d : ValueRef) → i ≤ k → k < i + n → owned (get_or values k d) ≡ value k
  value_is zero i each k d from to = absurd (omega (arith, from, to))
  value_is (suc n) i (q, y, at, called, rest) k d from to = elim (cases_eq k i) [
    | inl same ↦ rw same (ap owned (at.1 d) ∙ (reads i y q called).1)
    | inr other ↦ value_is n (i + 1) (subst (λ h. IsFromFnResultFrom g h values (i + 1) n) (reads i y q called).0 rest) k d (omega (arith, from, other)) (omega (arith, to))
  ]

  pub values_are : length values ≡ stations.COLUMNS → IsFromFnResultFrom g f values 0 stations.COLUMNS → bound values ≡ map bound_value (map value (range_with_len 0 stations.COLUMNS))
  values_are long each =
      fill_by_all (λ at. bound_value (value at)) (bound values) stations.COLUMNS Null (length-map values _ ∙ long)
      (λ k within. get_or-map _ values k lent.Null _ (omega (arith, long, within)) ∙ ap bound_value (value_is stations.COLUMNS 0 each k lent.Null (omega arith) (omega (arith, within))))
      ∙ sym (map-map bound_value value (range_with_len 0 stations.COLUMNS))

-- .. and a call binds it as it is
bound_same : (k : Kind) (v : Value) → suits k v ≡ true → bound_value v ≡ v
bound_same Integer Null h = refl
bound_same Integer (Int n) h = refl
bound_same Words Null h = refl
bound_same Words (Text t) h = refl
bound_same k v h = absurd (let e = h in cc)

bound_all : (cs : List Column) (vs : Row) → suit_all cs vs ≡ true → map bound_value vs ≡ vs
bound_all [] [] h = refl
bound_all (c ∷ cs) (v ∷ vs) h = let both = and_parts (suits c.kind v) (suit_all cs vs) h in ap₂ ◌∷◌ (bound_same c.kind v both.0) (bound_all cs vs both.1)
bound_all cs vs h = absurd (let e = h in cc)

pub station_bound : (text : List ℕ) (row : Row) → IsStationRow row → map bound_value (with_text text row) ≡ with_text text row
station_bound text row it = bound_all columns (with_text text row) (station_suits text row it)

pub adds_station : (text : List ℕ) (row : Row) → IsStationRow row → Does IsOurs (λ db. WasFree (Add Stations (with_text text row)) (tables_of db))
    (Puts (Add Stations (with_text text row) ∷ [])) station_text (with_text text row)
unfolding everything
adds_station text row it = let suit = station_suits text row it in adds_row Stations (row_put (unique_key Stations) inserts_station refl suit (λ rows. refl))

-- the station is added, and nothing else
pub station_added : (text : List ℕ) (row : Row) → IsStationRow row → (old new : State) → IsOurs old.now → (count : ℕ) → ExecutesInside 0 station_text (with_text text row) old new (Ok count)
    → WritesOnly station_names (Add Stations (with_text text row) ∷ []) old.now new.now
station_added text row suits old new ours count ran =
    let it = ours.has Stations in
    let values = Values (row_terms (layout_of Stations)) (width (layout_of Stations)) in
    let made = ((adds_station text row suits).does old new ours (Ok count) ran).0.makes in
    let spared = spares_less station_names (name_of Stations ∷ []) old.now new.now (among_rest (name_of Meta) (name_of Stations ∷ []))
    (spares_inserting (layout_of Stations) (keys_of Stations) old new it station_text (with_text text row) count (width (layout_of Stations)) (row_terms (layout_of Stations))
    (insert_is old.now.schema it.at (table_of (layout_of Stations) it.tree) it.has station_text values (inserts_station old.now.schema it.tree)) ran.0) in
    record { makes = made; spares = spared; kept = kept_written station_names (Add Stations (with_text text row) ∷ []) old.now new.now made spared refl }

-- ---- INSERT of a rider

abbrev pub rider_text : List ℕ
rider_text = insert_text Riders

inserts_rider : (s : Schema) (tree : ℕ) → IsInsert s (table_of (layout_of Riders) tree) (first rider_text) (Values (row_terms (layout_of Riders)) (width (layout_of Riders)))
unfolding everything
inserts_rider s tree = (refl, refl, refl, λ base. refl)

pub rider_writes : (db : Database) → IsOurs db → IsWriteIn db.schema rider_text
rider_writes db ours =
    let it = ours.has Riders in
    means_writes db.schema rider_text _ (insert_is db.schema it.at (table_of (layout_of Riders) it.tree) it.has rider_text (Values (row_terms (layout_of Riders)) (width (layout_of Riders)))
    (inserts_rider db.schema it.tree)).0 tt

-- the row of the rider of a number
abbrev pub copied_rider : ℤ → Row → Row
copied_rider rider row = Int rider ∷ column row 1 ∷ column row 2 ∷ Int (pos 0) ∷ Null ∷ []

rider_suits : (rider : ℤ) (row : Row) → IsRiderRow row → suit_all (layout_of Riders).columns (copied_rider rider row) ≡ true
rider_suits rider row it =
    let first = and_parts (may_hold Integer (column row 0)) _ it in
    let second = and_parts (may_hold Integer (column row 1)) _ first.1 in
    let third = and_parts (may_hold Integer (column row 2)) _ second.1 in
    rw (kind_suits Integer (column row 1) second.0, kind_suits Integer (column row 2) third.0) refl

rider_bound : (rider : ℤ) (row : Row) → IsRiderRow row → map bound_value (copied_rider rider row) ≡ copied_rider rider row
rider_bound rider row it = bound_all (layout_of Riders).columns (copied_rider rider row) (rider_suits rider row it)

-- a call that binds the number, the row's other columns, 0 and NULL binds that row
pub rider_values : (rider n : ℤ) (a b : Value) (row : Row) → n ≡ rider → a ≡ column row 1 → b ≡ column row 2 → IsRiderRow row
    → ◌≡◌ {A = Row} (Int n ∷ bound_value a ∷ bound_value b ∷ Int (pos 0) ∷ Null ∷ []) (copied_rider rider row)
rider_values rider n a b row p i j it = rw (p, i, j) (rider_bound rider row it)

pub adds_rider : (rider : ℤ) (row : Row) → IsRiderRow row → Does IsOurs (λ db. WasFree (Add Riders (copied_rider rider row)) (tables_of db))
    (Puts (Add Riders (copied_rider rider row) ∷ [])) rider_text (copied_rider rider row)
unfolding everything
adds_rider rider row it = let suit = rider_suits rider row it in adds_row Riders (row_put (unique_key Riders) inserts_rider refl suit (λ rows. refl))

-- the rider is added, and nothing else
pub rider_added : (rider : ℤ) (row : Row) → column row 0 ≡ Int rider → IsRiderRow row → (old new : State) → IsOurs old.now → (count : ℕ)
    → ExecutesInside 0 rider_text (copied_rider rider row) old new (Ok count) → WritesOnly rider_names (Add Riders (completed_rider row) ∷ []) old.now new.now
rider_added rider row number suits old new ours count ran =
    let it = ours.has Riders in
    let values = Values (row_terms (layout_of Riders)) (width (layout_of Riders)) in
    let made = ((adds_rider rider row suits).does old new ours (Ok count) ran).0.makes in
    let spared = spares_inserting (layout_of Riders) (keys_of Riders) old new it rider_text (copied_rider rider row) count (width (layout_of Riders)) (row_terms (layout_of Riders))
    (insert_is old.now.schema it.at (table_of (layout_of Riders) it.tree) it.has rider_text values (inserts_rider old.now.schema it.tree)) ran.0 in
    let same : copied_rider rider row ≡ completed_rider row = ap (λ v. v ∷ column row 1 ∷ column row 2 ∷ Int (pos 0) ∷ Null ∷ []) (sym number) in
    subst (λ r. WritesOnly rider_names (Add Riders r ∷ []) old.now new.now) same
    (record { makes = made; spares = spared; kept = kept_written rider_names (Add Riders (copied_rider rider row) ∷ []) old.now new.now made spared refl })

-- ---- INSERT of a request

abbrev pub request_text : List ℕ
request_text = insert_text History

inserts_request : (s : Schema) (tree : ℕ) → IsInsert s (table_of (layout_of History) tree) (first request_text) (Values (row_terms (layout_of History)) (width (layout_of History)))
unfolding everything
inserts_request s tree = (refl, refl, refl, λ base. refl)

pub request_writes : (db : Database) → IsOurs db → IsWriteIn db.schema request_text
request_writes db ours =
    let it = ours.has History in
    means_writes db.schema request_text _ (insert_is db.schema it.at (table_of (layout_of History) it.tree) it.has request_text (Values (row_terms (layout_of History)) (width (layout_of History)))
    (inserts_request db.schema it.tree)).0 tt

-- the columns of its texts
abbrev text_columns : List Column
text_columns = drop 2 (layout_of History).columns

texts_suit : (row : Row) → IsRequestRow row → suit_all text_columns (map (column row) (range_with_len 0 4)) ≡ true
texts_suit row it = all_suit text_columns [] row [] 0 it refl

request_suits : (number : ℕ) (row : Row) → IsRequestRow row → suit_all (layout_of History).columns (request_row (number, row)) ≡ true
request_suits number row it = texts_suit row it

pub request_bound : (number : ℕ) (row : Row) → IsRequestRow row → map bound_value (request_row (number, row)) ≡ request_row (number, row)
request_bound number row it = bound_all (layout_of History).columns (request_row (number, row)) (request_suits number row it)

-- a call that binds the number, moment 0 and the row's columns binds that row
pub request_values : (number : ℕ) (n : ℤ) (a b c d : Value) (row : Row) → n ≡ pos number → a ≡ column row 0 → b ≡ column row 1 → c ≡ column row 2 → d ≡ column row 3 → IsRequestRow row
    → ◌≡◌ {A = Row} (Int n ∷ Int (pos 0) ∷ bound_value a ∷ bound_value b ∷ bound_value c ∷ bound_value d ∷ []) (request_row (number, row))
request_values number n a b c d row p i j k l it = rw (p, i, j, k, l) (request_bound number row it)

pub adds_request : (number : ℕ) (row : Row) → IsRequestRow row → Does IsOurs (λ db. WasFree (Add History (request_row (number, row))) (tables_of db))
    (Puts (Add History (request_row (number, row)) ∷ [])) request_text (request_row (number, row))
unfolding everything
adds_request number row it = let suit = texts_suit row it in adds_row History (row_put (unique_key History) inserts_request refl suit (λ rows. refl))

-- the request is added, and nothing else
pub request_added : (number : ℕ) (row : Row) → IsRequestRow row → (old new : State) → IsOurs old.now → (count : ℕ) → ExecutesInside 0 request_text (request_row (number, row)) old new (Ok count)
    → WritesOnly request_names (Add History (request_row (number, row)) ∷ []) old.now new.now
request_added number row suits old new ours count ran =
    let it = ours.has History in
    let values = Values (row_terms (layout_of History)) (width (layout_of History)) in
    let made = ((adds_request number row suits).does old new ours (Ok count) ran).0.makes in
    let spared = spares_inserting (layout_of History) (keys_of History) old new it request_text (request_row (number, row)) count (width (layout_of History)) (row_terms (layout_of History))
    (insert_is old.now.schema it.at (table_of (layout_of History) it.tree) it.has request_text values (inserts_request old.now.schema it.tree)) ran.0 in
    record { makes = made; spares = spared; kept = kept_written request_names (Add History (request_row (number, row)) ∷ []) old.now new.now made spared refl }

-- ---- DROP

-- a table that stands lies there
pub lies : {keys : ℕ} {layout : Layout} {db : Database} → Stands db keys layout → Lies db layout
lies was = record { at = was.at; tree = was.tree; has = was.has; unreferred = was.unreferred; apart = (was.keyed.spread, was.keyed.numbered) }

pub drop_writes : (text : List ℕ) (layout : Layout) → IsDrop (first text) layout.name → (db : Database) → Lies db layout → IsWriteIn db.schema text
drop_writes text layout is db was c understood_is = elim (drop_means db.schema was.at layout.name was.has.found text is) [
  | inl means ↦ means_writes db.schema text _ means.0.0 tt c understood_is
  | inr refused ↦ absurd (let both = sym refused ∙ understood_is in cc)
]

pub drops : (text : List ℕ) (layout : Layout) → IsDrop (first text) layout.name → (old new : State) → IsDatabase old.now → Lies old.now layout → (count : ℕ) → Executes text [] old new (Ok count)
    → DropsTable layout.name old.now new.now
drops text layout is old new sound was count ran =
    let it = lying_dropped text layout is old new sound was count ran in
    record {
      sound = it.sound;
      gone = it.free;
      frees = still_free layout.name was.tree old.now new.now it;
      others = it.others;
      spares = spares_dropping layout old.now new.now was.at was.tree was.has it;
    }

abbrev pub drop_kept_text : List ℕ
drop_kept_text = codes "DROP TABLE kept"

pub drop_kept_writes : (db : Database) → KeptLies db → IsWriteIn db.schema drop_kept_text
drop_kept_writes db it = by it.keyed it.lies
  where
    by : (keyed : Bool) → Lies db (kept_layout keyed) → IsWriteIn db.schema drop_kept_text
    by true was = drop_writes drop_kept_text (kept_layout true) kept_drops db was
    by false was = drop_writes drop_kept_text (kept_layout false) kept_drops db was

pub drops_kept : (old new : State) → IsDatabase old.now → KeptLies old.now → (count : ℕ) → Executes drop_kept_text [] old new (Ok count) → DropsTable kept_name old.now new.now
drops_kept old new sound it count ran = by it.keyed it.lies
  where
    by : (keyed : Bool) → Lies old.now (kept_layout keyed) → DropsTable kept_name old.now new.now
    by true was = drops drop_kept_text (kept_layout true) kept_drops old new sound was count ran
    by false was = drops drop_kept_text (kept_layout false) kept_drops old new sound was count ran

abbrev pub drop_counts_text : List ℕ
drop_counts_text = codes "DROP TABLE counts"

pub counts_drops : IsDrop (first drop_counts_text) counts_name
unfolding everything
counts_drops = (refl, refl)

abbrev pub drop_riders_text : List ℕ
drop_riders_text = codes "DROP TABLE riders"

pub riders_drops : IsDrop (first drop_riders_text) riders_name
unfolding everything
riders_drops = (refl, refl)

pub first_drops : IsDrop (first (codes "DROP TABLE stations")) (codes "stations")
unfolding everything
first_drops = (refl, refl)

pub second_drops : IsDrop (first (codes "DROP TABLE stations_2")) (codes "stations_2")
unfolding everything
second_drops = (refl, refl)

pub third_drops : IsDrop (first (codes "DROP TABLE stations_3")) (codes "stations_3")
unfolding everything
third_drops = (refl, refl)

-- ---- SELECT of a station's counts

counts_key : IsKeyAt 2 counts_layout (1 ∷ 2 ∷ [])
counts_key = record { first = λ row. refl }

abbrev pub counts_text : List ℕ
counts_text = codes "SELECT * FROM counts WHERE station_id = ?1 ORDER BY station_id, type_id"

counts_selects : IsSelect (table_query 0 (key_tests 0 (1 ∷ [])) (by_columns (1 ∷ 2 ∷ [])) (every_column counts_layout)) counts_layout counts_text
unfolding everything
counts_selects = (λ tree. refl, refl)

pub asks_counts : (station : List ℕ) (db : Database) → HasCounts db → HasOneAnswer db counts_text (Text station ∷ []) (rows_where (0 ∷ []) (Text station ∷ []) (old_counts db))
asks_counts station db was = rows_with counts_key was 0 (0 ∷ []) counts_selects refl (λ r. refl)

-- ---- SELECT of all old stations

first_key : IsKeyAt 1 (stations_layout First) (1 ∷ [])
first_key = record { first = λ row. refl }

second_key : IsKeyAt 1 (stations_layout Second) (1 ∷ [])
second_key = record { first = λ row. refl }

third_key : IsKeyAt 1 (stations_layout Third) (1 ∷ [])
third_key = record { first = λ row. refl }

first_selects : IsSelect (table_query 0 [] (by_columns (1 ∷ [])) (every_column (stations_layout First))) (stations_layout First) (codes "SELECT * FROM stations ORDER BY station_id")
unfolding everything
first_selects = (λ tree. refl, refl)

second_selects : IsSelect (table_query 0 [] (by_columns (1 ∷ [])) (every_column (stations_layout Second))) (stations_layout Second) (codes "SELECT * FROM stations_2 ORDER BY station_id")
unfolding everything
second_selects = (λ tree. refl, refl)

pub first_asks : AsksRows (stations_layout First) (codes "SELECT * FROM stations ORDER BY station_id")
first_asks db was = ordered_rows first_key was first_selects

pub second_asks : AsksRows (stations_layout Second) (codes "SELECT * FROM stations_2 ORDER BY station_id")
second_asks db was = ordered_rows second_key was second_selects

third_selects : IsSelect (table_query 0 [] (by_columns (1 ∷ [])) (every_column (stations_layout Third))) (stations_layout Third) (codes "SELECT * FROM stations_3 ORDER BY station_id")
unfolding everything
third_selects = (λ tree. refl, refl)

pub third_asks : AsksRows (stations_layout Third) (codes "SELECT * FROM stations_3 ORDER BY station_id")
third_asks db was = ordered_rows third_key was third_selects

-- ---- SELECT of all old riders

abbrev pub riders_text : List ℕ
riders_text = codes "SELECT * FROM riders ORDER BY rider"

riders_key : IsKeyAt 1 riders_layout (0 ∷ [])
riders_key = record { first = λ row. refl }

riders_selects : IsSelect (table_query 0 [] (by_columns (0 ∷ [])) (every_column riders_layout)) riders_layout riders_text
unfolding everything
riders_selects = (λ tree. refl, refl)

pub asks_riders : AsksRows riders_layout riders_text
asks_riders db was = ordered_rows riders_key was riders_selects
