-- The newest tables as they are made, and as they are filled.
use Rattle.std.proofs.Common.{◌≡◌, ℕ, Bool, true, false, not, List, [], ◌∷◌, if◌then◌else◌, IsTrue, is_none, refl, ap, ◌∙◌}
use Rattle.std.proofs.Math.Path.{fun_ext}
use Rattle.std.proofs.lemmas.Bool.{and_parts, not-true, both_ways}
use Rattle.sqlite_value.specs.Order.{Row}
use Rattle.sqlite_schema.specs.declared.schema.Schema.{Schema}
use Rattle.sqlite_schema.specs.Names.{table_named}
use Rattle.sqlite.specs.Effect.{Database, IsDatabase}
use Rattle.bike_sql.specs.Stands.{rows_of, Stands, Indexes}
use Rattle.bike_book.specs.Tables.{TableName, keys_of, rows_in, tables_by, Meta, System, Plans, Segments, Types, Regions, Stations, Docks, Bikes, Trucks, Riders, Rentals, Orders, Entries}
use Rattle.bike_book.specs.Tables.{History, MoreNames, Books}
use Rattle.bike_schema.specs.Layouts.{layout_of, name_of}
use Rattle.bike_schema.specs.Makes.{OthersStay}
use Rattle.std.specs.List.{list_all, list_any}
use Rattle.bike_schema.specs.Tables.{names_parent, is_parent, is_unused}
use Rattle.bike_recognition.specs.declared.earlier_versions.earlier.Earlier.{Earlier}
use Rattle.bike_recognition.specs.declared.earlier_versions.earlier.Earlier.TheVariants.{First, Second, Third}
use Rattle.bike_recognition.specs.EarlierVersions.Earlier.{IsAt, HasTablesAt, has_regions, has_names, newer_names, tables_at}
use Rattle.bike_recognition.specs.Recognition.{TableStands}
use Rattle.bike_schema.specs.Indexes.{HasIndex, more_names_by_language, more_names_by_thing, history_by_key}
use Rattle.bike_migrate.specs.Raised.{AllStay, KeptStays, StayUnnamed, AreUnnamed, HasNameIndexes, HasNewIndexes, MakesTable, MakesIndex, MakesIndexes, MakesNames, MakesHistory, MakesStations}
use Rattle.bike_migrate.specs.Raised.{MakesLater, MakesMore, emptied, MakesTables}
use Rattle.bike_migrate.specs.Spared.{Spares}
use Rattle.bike_migrate.proofs.SpareLemmas.{spares_then, index_spared}

-- ---- one table after another

pub stay_both : (a b c : Database) → AllStay a b → AllStay b c → AllStay a c
stay_both a b c first second keys layout was =
    let one = first keys layout was in
    let two = second keys layout one.stands in
    record { stands = two.stands; rows = two.rows ∙ one.rows }

-- one index after another
pub names_stand : (a b : Database) → Indexes a b → TableStands MoreNames a → TableStands MoreNames b
names_stand a b made was = (made.stays (keys_of MoreNames) (layout_of MoreNames) was).stands

pub indexed_both : (a b c : Database) → MakesIndex more_names_by_language a b → MakesIndex more_names_by_thing b c → MakesIndexes a c
indexed_both a b c first second = record {
  indexes = record { tables = second.indexes.tables ∙ first.indexes.tables; sound = second.indexes.sound; stays = stay_both a b c first.indexes.stays second.indexes.stays };
  has = record { by_language = index_spared [] b c more_names_by_language second.spares refl first.has; by_thing = second.has };
  spares = spares_then [] a b c first.spares second.spares;
  kept = λ was. second.kept (first.kept was);
}

-- a table that was made stands, empty, where all that stood stays
record IsEmpty (db : Database) (t : TableName) : Type 0 where
  stands : Stands db (keys_of t) (layout_of t)
  no_rows : rows_of (keys_of t) (name_of t) db ≡ []

empty_stays : (old new : Database) (t : TableName) → AllStay old new → IsEmpty old t → IsEmpty new t
empty_stays old new t stay it = let s = stay (keys_of t) (layout_of t) it.stands in record { stands = s.stands; no_rows = s.rows ∙ it.no_rows }

made_empty : (t : TableName) (old new : Database) → MakesTable t old new → IsEmpty new t
made_empty t old new it = record { stands = it.stands; no_rows = it.no_rows }

unnamed_indexed : (a b : Database) → Indexes a b → StayUnnamed a b
unnamed_indexed a b made name none = ap (list_any (names_parent name)) made.tables ∙ none

pub history_stands : (a b : Database) → MakesTable History a b → TableStands History b
history_stands a b made = made.stands

pub makes_names : (a b c : Database) → MakesTable MoreNames a b → MakesIndexes b c → MakesNames a c
makes_names a b c names index =
    let n = empty_stays b c MoreNames index.indexes.stays (made_empty MoreNames a b names) in
    record {
      sound = index.indexes.sound;
      names = n.stands;
      no_names = n.no_rows;
      indexes = index.has;
      unnamed = λ name none. unnamed_indexed b c index.indexes name (names.unnamed name none);
      stays = stay_both a b c names.stays index.indexes.stays;
      spares = spares_then [] a b c names.spares index.spares;
      kept = λ was. index.kept (names.kept was);
    }

pub makes_history : (a b c : Database) → MakesTable History a b → MakesIndex history_by_key b c → MakesHistory a c
makes_history a b c history index =
    let h = empty_stays b c History index.indexes.stays (made_empty History a b history) in
    record {
      sound = index.indexes.sound;
      history = h.stands;
      no_history = h.no_rows;
      index = index.has;
      unnamed = λ name none. unnamed_indexed b c index.indexes name (history.unnamed name none);
      stays = stay_both a b c history.stays index.indexes.stays;
      spares = spares_then [] a b c history.spares index.spares;
      kept = λ was. index.kept (history.kept was);
    }

-- ---- the names are free

unnamed_of : (s : Schema) (name : List ℕ) → is_unused s name ≡ true → is_parent s name ≡ false
unnamed_of s name unused = not-true (is_parent s name) (and_parts (is_none (table_named s name)) (not (is_parent s name)) unused).1

all_unnamed : (names : List (List ℕ)) (db : Database) → list_all (is_unused db.schema) names ≡ true → AreUnnamed names db
all_unnamed [] db h = tt
all_unnamed (name ∷ names) db h = let both = and_parts (is_unused db.schema name) (list_all (is_unused db.schema) names) h in (unnamed_of db.schema name both.0, all_unnamed names db both.1)

pub newer_unnamed : (e : Earlier) (db : Database) → IsAt e db → AreUnnamed (newer_names e) db
newer_unnamed e db it = all_unnamed (newer_names e) db it.free

-- .. still, as others were made
pub still_unnamed_all : (names : List (List ℕ)) (a b : Database) → StayUnnamed a b → AreUnnamed names a → AreUnnamed names b
still_unnamed_all [] a b stay none = tt
still_unnamed_all (name ∷ names) a b stay none = (stay name none.0, still_unnamed_all names a b stay none.1)

-- ---- all newest tables

module _ (old new : Database) where
  -- the table has the rows that it had at the earlier version
  record Becomes (t : TableName) (rows : List Row) : Type 0 where
    stands : Stands new (keys_of t) (layout_of t)
    rows_are : rows_of (keys_of t) (name_of t) new ≡ rows

  still : (t : TableName) → AllStay old new → Stands old (keys_of t) (layout_of t) → Becomes t (rows_of (keys_of t) (name_of t) old)
  still t stay was = let s = stay (keys_of t) (layout_of t) was in record { stands = s.stands; rows_are = s.rows }

  made : (t : TableName) → IsEmpty new t → Becomes t []
  made t it = record { stands = it.stands; rows_are = it.no_rows }

  abbrev rows_none : Earlier → TableName → List Row
  rows_none e t = rows_in (emptied (tables_at e old)) t

  others_stay : AllStay old new → OthersStay old new
  others_stay stay keys layout other was = stay keys layout was

  whole : (e : Earlier) → IsDatabase new → AllStay old new → HasNewIndexes e new.schema → Spares [] old new → KeptStays old new → ((t : TableName) → Becomes t (rows_none e t)) → MakesTables e old new
  whole e sound stay indexes spares kept each = record {
    sound = sound;
    has = λ t. (each t).stands;
    tables = ap tables_by (fun_ext (λ t. (each t).rows_are));
    indexes = indexes;
    others = others_stay stay;
    spares = spares;
    kept = kept;
  }

  -- the tables that every earlier version lacks stand, with no rows
  record AreEmpty : Type 0 where
    history : IsEmpty new History
    stations : IsEmpty new Stations
    riders : IsEmpty new Riders
    books : IsEmpty new Books

  module _ (e : Earlier) (has : HasTablesAt e old) (stay : AllStay old new) where
    -- a table that only some versions have
    at_some : (t : TableName) (there : Bool) → (IsTrue there → Stands old (keys_of t) (layout_of t)) → (there ≡ false → IsEmpty new t)
        → Becomes t (if there then rows_of (keys_of t) (name_of t) old else [])
    at_some t true was lacks = still t stay (was refl)
    at_some t false was lacks = made t (lacks refl)

    each : AreEmpty → (has_regions e ≡ false → IsEmpty new Regions) → (has_names e ≡ false → IsEmpty new MoreNames) → (t : TableName) → Becomes t (rows_none e t)
    each empty regions names Meta = still Meta stay ((has Meta).stands refl)
    each empty regions names System = still System stay ((has System).stands refl)
    each empty regions names Plans = still Plans stay ((has Plans).stands refl)
    each empty regions names Segments = still Segments stay ((has Segments).stands refl)
    each empty regions names Types = still Types stay ((has Types).stands refl)
    each empty regions names Regions = at_some Regions (has_regions e) (has Regions).stands regions
    each empty regions names Stations = made Stations empty.stations
    each empty regions names Docks = still Docks stay ((has Docks).stands refl)
    each empty regions names Bikes = still Bikes stay ((has Bikes).stands refl)
    each empty regions names Trucks = still Trucks stay ((has Trucks).stands refl)
    each empty regions names Riders = made Riders empty.riders
    each empty regions names Rentals = still Rentals stay ((has Rentals).stands refl)
    each empty regions names Orders = still Orders stay ((has Orders).stands refl)
    each empty regions names Entries = still Entries stay ((has Entries).stands refl)
    each empty regions names History = made History empty.history
    each empty regions names MoreNames = at_some MoreNames (has_names e) (has MoreNames).stands names
    each empty regions names Books = made Books empty.books

  -- what is known of those without an index, once they are made ..
  record ArePlain (mid : Database) : Type 0 where
    sound : IsDatabase new
    stations : IsEmpty new Stations
    riders : IsEmpty new Riders
    books : IsEmpty new Books
    stays : AllStay mid new
    spares : Spares [] mid new
    kept : KeptStays mid new

  are_plain : (mid : Database) → MakesStations mid new → ArePlain mid
  are_plain a (b, stations, (c, riders, books)) =
      let last = stay_both b c new riders.stays books.stays in
      record {
        sound = books.sound;
        stations = empty_stays b new Stations last (made_empty Stations a b stations);
        riders = empty_stays c new Riders books.stays (made_empty Riders b c riders);
        books = made_empty Books c new books;
        stays = stay_both a b new stations.stays last;
        spares = spares_then [] a b new stations.spares (spares_then [] b c new riders.spares books.spares);
        kept = λ was. books.kept (riders.kept (stations.kept was));
      }

  -- .. and of all that every version lacks
  record AreLater (mid : Database) : Type 0 where
    sound : IsDatabase new
    empty : AreEmpty
    by_key : HasIndex new.schema history_by_key
    stays : AllStay mid new
    spares : Spares [] mid new
    kept : KeptStays mid new

  are_later : (mid : Database) → MakesLater mid new → AreLater mid
  are_later mid (between, first, second) =
      let it = are_plain between second in
      record {
        sound = it.sound;
        empty = record {
          history = empty_stays between new History it.stays (record { stands = first.history; no_rows = first.no_history });
          stations = it.stations;
          riders = it.riders;
          books = it.books;
        };
        by_key = index_spared [] between new history_by_key it.spares refl first.index;
        stays = stay_both mid between new first.stays it.stays;
        spares = spares_then [] mid between new first.spares it.spares;
        kept = λ was. it.kept (first.kept was);
      }

  pub makes_third : HasTablesAt Third old → MakesLater old new → MakesTables Third old new
  makes_third has later =
      let it = are_later old later in
      whole Third it.sound it.stays (record { names = λ bounds. absurd (both_ways false refl bounds); requests = it.by_key }) it.spares it.kept
      (each Third has it.stays it.empty (λ never. absurd (both_ways true never refl)) (λ never. absurd (both_ways true never refl)))

  -- .. and of those that the first two lack
  record AreMore (mid : Database) : Type 0 where
    later : (between : Database) × AreLater between
    names : IsEmpty new MoreNames
    indexes : HasNameIndexes new.schema
    stays : AllStay mid new
    spares : Spares [] mid new
    kept : KeptStays mid new

  are_more : (mid : Database) → MakesMore mid new → AreMore mid
  are_more mid (between, first, second) =
      let it = are_later between second in
      record {
        later = (between, it);
        names = empty_stays between new MoreNames it.stays (record { stands = first.names; no_rows = first.no_names });
        indexes = record {
          by_language = index_spared [] between new more_names_by_language it.spares refl first.indexes.by_language;
          by_thing = index_spared [] between new more_names_by_thing it.spares refl first.indexes.by_thing;
        };
        stays = stay_both mid between new first.stays it.stays;
        spares = spares_then [] mid between new first.spares it.spares;
        kept = λ was. it.kept (first.kept was);
      }

  pub makes_second : HasTablesAt Second old → MakesMore old new → MakesTables Second old new
  makes_second has more =
      let it = are_more old more in
      let later = it.later.1 in
      whole Second later.sound it.stays (record { names = λ bounds. it.indexes; requests = later.by_key }) it.spares it.kept
      (each Second has it.stays later.empty (λ never. absurd (both_ways true never refl)) (λ lacks. it.names))

  pub makes_first : (mid : Database) → HasTablesAt First old → MakesTable Regions old mid → MakesMore mid new → MakesTables First old new
  makes_first mid has regions more =
      let it = are_more mid more in
      let later = it.later.1 in
      let stay = stay_both old mid new regions.stays it.stays in
      whole First later.sound stay (record { names = λ bounds. it.indexes; requests = later.by_key }) (spares_then [] old mid new regions.spares it.spares) (λ was. it.kept (regions.kept was))
      (each First has stay later.empty (λ lacks. empty_stays mid new Regions it.stays (made_empty Regions old mid regions)) (λ lacks. it.names))
