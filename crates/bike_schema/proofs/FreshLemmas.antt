-- The tables as they are made: empty but for the one row of `meta`.
use Rattle.std.proofs.Common.{◌≡◌, ℕ, pos, not, true, false, List, [], ◌∷◌, map, slice_get, is_some, is_none, refl, sym, ap, subst, ◌∙◌}
use Rattle.std.specs.List.{AllByRecursion, list_all}
use Rattle.std.specs.FinMap as fin
use Rattle.std.specs.declared.cmp.Ordering.{Ordering}
use Rattle.std.proofs.Math.Path.{fun_ext}
use Rattle.std.proofs.lemmas.Bool.{and_parts, not-true}
use Rattle.std.proofs.lemmas.List.Folds.{list_all-append, list_all-map}
use Rattle.sqlite_schema.specs.Names.{table_named}
use Rattle.sqlite_value.specs.Order.{Row}
use Rattle.sqlite_trees.specs.declared.store.Store.{Ghosts}
use Rattle.sqlite_resolve.specs.Compile.{first}
use Rattle.sqlite_tied.specs.Compute.{everything}
use Rattle.sqlite.specs.Effect.{Database, IsDatabase}
use Rattle.sqlite.specs.Held.{Held, state}
use Rattle.bike_sql.specs.Stands.{rows_of, Stands}
use Rattle.bike_sql.proofs.RowListLemmas.{no_list}
use Rattle.bike_sql.proofs.IndexLaw.{IsOnlyIndex, index_made}
use Rattle.bike_sql.proofs.CallLaws.{Does}
use Rattle.bike_sql.proofs.WriteLaws.{Inserts, row_put}
use Rattle.bike_operator.specs.Operator.{no_operator}
use Rattle.bike_book.specs.Tables.{TableName, Tables, keys_of, rows_in, tables_by, with_rows, Meta, System, Plans, Segments, Types, Regions, Stations, Docks, Bikes, Trucks, Riders, Rentals, Orders}
use Rattle.bike_book.specs.Tables.{Entries, History, MoreNames, Books}
use Rattle.bike_book.specs.Rows.{meta_row}
use Rattle.bike_book.specs.Stored.{none_listed, tables_for, stored_plan, plans_segments, stored_type, stored_region, stored_station, stored_dock, stored_bike, stored_truck, stored_rider}
use Rattle.bike_book.specs.Stored.{stored_name}
use Rattle.bike_book.specs.declared.version.TheConstants.{NEWEST}
use Rattle.bike_schema.specs.Layouts.{layout_of, name_of, every_table}
use Rattle.bike_schema.specs.Tables.{IsOurs, tables_of, is_parent, is_unused, HasNone, other_names}
use Rattle.bike_schema.specs.Indexes.{HasIndexes, every_index}
use Rattle.bike_schema.specs.Makes.{Continues, Puts}
use Rattle.bike_schema.specs.Calls.{WasFree}
use Rattle.bike_book.specs.Writes.{tables_after}
use Rattle.bike_schema.specs.Creates.{RanAll, table_texts, index_texts, first_write, Creates}
use Rattle.bike_schema.proofs.TableLemmas.{of_every, every_true}
use Rattle.bike_schema.proofs.KeyLemmas.{unique_key}
use Rattle.bike_schema.proofs.MakesLemmas.{continues_then, adds_row}
use Rattle.bike_schema.proofs.InsertTexts.{insert_text}
use Rattle.bike_schema.proofs.MakeFacts.{text_of, declared, index_only, each_told}
use Rattle.bike_schema.proofs.IndexLemmas.{all_there}
use Rattle.bike_schema.proofs.MakeLemmas.{adds}
use Rattle.bike_schema.proofs.GrowthLemmas.{AllStay, still_unnamed, made_stands, made_empty, all_stay}

-- ---- the empty tables

-- The table stands, with no rows.
record IsEmpty (db : Database) (t : TableName) : Type 0 where
  stands : Stands db (keys_of t) (layout_of t)
  no_rows : rows_of (keys_of t) (name_of t) db ≡ []

-- no foreign key names one of the tables
abbrev AreUnnamed : Database → Type 0
AreUnnamed db = (t : TableName) → is_parent db.schema (name_of t) ≡ false

-- Of these tables each was made, and what stood before stays.
record AreMade (ts : List TableName) (old new : Database) : Type 0 where
  empty : AllByRecursion (IsEmpty new) ts
  unnamed : AreUnnamed new
  stay : AllStay old new

empty_stays : (old new : Database) (t : TableName) → AllStay old new → IsEmpty old t → IsEmpty new t
empty_stays old new t stay it = let s = stay (keys_of t) (layout_of t) it.stands in record { stands = s.stands; no_rows = s.rows ∙ it.no_rows }

stay_both : (a b c : Database) → AllStay a b → AllStay b c → AllStay a c
stay_both a b c first second keys layout was =
    let one = first keys layout was in
    let two = second keys layout one.stands in
    record { stands = two.stands; rows = two.rows ∙ one.rows }

none_change : (db : Database) → AllStay db db
none_change db keys layout was = record { stands = was; rows = refl }

module _ {S : Type 0} (g : Ghosts S) where
  made_all : (ts : List TableName) (a c : Held S) → RanAll g (map text_of ts) a c → AreUnnamed (state g a).now → AreMade ts (state g a).now (state g c).now
  made_all [] a c same unnamed = subst (λ h. AreMade [] (state g a).now (state g h).now) same (record { empty = tt; unnamed = unnamed; stay = none_change (state g a).now })
  made_all (t ∷ ts) a c (mid, ran, rest) unnamed =
      let old = (state g a).now in
      let new = (state g mid).now in
      let end = (state g c).now in
      let layout = layout_of t in
      let it = adds (text_of t) layout (declared t) (state g a) (state g mid) ran.0 ran.1.0 in
      let more = made_all ts mid c rest (λ u. still_unnamed layout old new it (name_of u) (unnamed u)) in
      let made : IsEmpty new t = record { stands = made_stands layout old new it (keys_of t) (unnamed t); no_rows = made_empty layout old new it (keys_of t) (unnamed t) } in
      record {
        empty = (empty_stays new end t more.stay made, more.empty);
        unnamed = more.unnamed;
        stay = stay_both old new end (all_stay layout old new it) more.stay;
      }

  indexed_all : (texts : List (List ℕ)) (a c : Held S) → AllByRecursion (λ text. IsOnlyIndex (first text)) texts → RanAll g texts a c → AllStay (state g a).now (state g c).now
  indexed_all [] a c only same = subst (λ h. AllStay (state g a).now (state g h).now) same (none_change (state g a).now)
  indexed_all (text ∷ texts) a c only (mid, ran, rest) =
      stay_both (state g a).now (state g mid).now (state g c).now (index_made text only.0 (state g a) (state g mid) ran.0 ran.1.0).stays (indexed_all texts mid c only.1 rest)

  all_continue : (texts : List (List ℕ)) → is_some (slice_get texts 0) ≡ true → (a c : Held S) → RanAll g texts a c → Continues (state g a) (state g c)
  all_continue [] some a c ran = absurd (cc)
  all_continue (text ∷ []) some a c (mid, ran, same) = subst (λ h. Continues (state g a) (state g h)) same ran.1.1
  all_continue (text ∷ next ∷ texts) some a c (mid, ran, rest) = continues_then (state g a) (state g mid) (state g c) ran.1.1 (all_continue (next ∷ texts) refl mid c rest)

  -- the database obeys its schema after the last of them
  indexed_sound : (texts : List (List ℕ)) → is_some (slice_get texts 0) ≡ true → (a c : Held S) → AllByRecursion (λ text. IsOnlyIndex (first text)) texts → RanAll g texts a c
      → IsDatabase (state g c).now
  indexed_sound [] some a c only ran = absurd (cc)
  indexed_sound (text ∷ []) some a c only (mid, ran, same) = subst (λ h. IsDatabase (state g h).now) same (index_made text only.0 (state g a) (state g mid) ran.0 ran.1.0).sound
  indexed_sound (text ∷ next ∷ texts) some a c only (mid, ran, rest) = indexed_sound (next ∷ texts) refl mid c only.1 rest

-- ---- names that are free

none_named : (db : Database) → HasNone db.schema → AreUnnamed db
none_named db none t =
    let unused = is_unused db.schema in
    let ours = (and_parts (list_all unused (map name_of every_table)) (list_all unused other_names) (sym (list_all-append unused (map name_of every_table) other_names) ∙ none)).0 in
    let one = every_true (λ u. unused (name_of u)) (sym (list_all-map unused name_of every_table) ∙ ours) t in
    not-true (is_parent db.schema (name_of t)) (and_parts (is_none (table_named db.schema (name_of t))) (not (is_parent db.schema (name_of t))) one).1

-- ---- the row of `meta`

abbrev pub first_row : Row
first_row = meta_row NEWEST 0 (pos 0) (pos 0)

inserts : Inserts 1 (layout_of Meta) (insert_text Meta) first_row
unfolding everything
inserts = row_put (unique_key Meta) (λ s tree. (refl, refl, refl, λ base. refl)) refl refl (λ rows. refl)

pub adds_meta : Does (IsOurs) (λ db. WasFree first_write (tables_of db)) (Puts (first_write ∷ [])) (insert_text Meta) first_row
adds_meta = adds_row Meta inserts

-- ---- the tables of the operator of which nothing was asked

none_in : {K X : Type 0} (R : K → K → Ordering) → fin.entries (fin.empty {X = X} {R = R}) ≡ []
none_in {K} {X} R = no_list _ (sym (fin.len-entries (fin.empty {X = X} {R = R})) ∙ fin.len-empty R X)

abbrev first_tables : Tables
first_tables = with_rows Meta (first_row ∷ []) (tables_by (λ t. []))

first_rows : (t : TableName) → rows_in first_tables t ≡ rows_in (tables_for no_operator none_listed) t
first_rows Meta = refl
first_rows System = refl
first_rows Plans = sym (ap (map stored_plan) (none_in _))
first_rows Segments = sym (ap plans_segments (none_in _))
first_rows Types = sym (ap (map stored_type) (none_in _))
first_rows Regions = sym (ap (map stored_region) (none_in _))
first_rows Stations = sym (ap (map (stored_station no_operator)) (none_in _))
first_rows Docks = sym (ap (map (stored_dock no_operator.broken)) (none_in _))
first_rows Bikes = sym (ap (map stored_bike) (none_in _))
first_rows Trucks = sym (ap (map stored_truck) (none_in _))
first_rows Riders = sym (ap (map (stored_rider [])) (none_in _))
first_rows Rentals = refl
first_rows Orders = refl
first_rows Entries = refl
first_rows History = refl
first_rows MoreNames = sym (ap (map stored_name) (none_in _))
first_rows Books = refl

-- ---- all of it

module _ {S : Type 0} (g : Ghosts S) (a b c : Held S) (none : HasNone (state g a).now.schema) (tables : RanAll g table_texts a b) (indexes : RanAll g index_texts b c) where
  -- the tables stand, empty, and the database obeys its schema
  stays : AllStay (state g b).now (state g c).now
  stays = indexed_all g index_texts b c index_only indexes

  made : AreMade every_table (state g a).now (state g b).now
  made = made_all g every_table a b tables (none_named (state g a).now none)

  empty : (t : TableName) → IsEmpty (state g c).now t
  empty t = empty_stays (state g b).now (state g c).now t stays (of_every (IsEmpty (state g b).now) made.empty t)

  indexed : HasIndexes (state g c).now.schema
  indexed = all_there g index_texts every_index b c each_told (λ t. let it = (of_every (IsEmpty (state g b).now) made.empty t).stands in (it.at, it.tree, it.has)) indexes

  pub are_ours : IsOurs (state g c).now
  are_ours = record { sound = indexed_sound g index_texts refl b c index_only indexes; has = λ t. (empty t).stands }

  pub creates : (d : Held S) → Puts (first_write ∷ []) (state g c) (state g d) → Creates (state g a) (state g d)
  creates d it =
      let none_yet : tables_of (state g c).now ≡ tables_by (λ t. []) = ap tables_by (fun_ext (λ t. (empty t).no_rows)) in
      let continued = continues_then (state g a) (state g b) (state g c) (all_continue g table_texts refl a b tables) (all_continue g index_texts refl b c indexes) in
      record {
        continues = continues_then (state g a) (state g c) (state g d) continued it.continues;
        fresh = record {
          sound = it.makes.sound;
          has = it.makes.has;
          tables = it.makes.tables ∙ ap (tables_after first_write) none_yet ∙ ap tables_by (fun_ext first_rows);
          indexes = subst HasIndexes (sym it.makes.schema) indexed;
          others = λ keys layout other stands.
              let kept = stay_both (state g a).now (state g b).now (state g c).now made.stay stays keys layout stands in
              let last = it.makes.others keys layout other kept.stands in
              record { stands = last.stands; rows = last.rows ∙ kept.rows };
        };
      }
