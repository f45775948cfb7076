-- Facts of every table, from one that each table has a place.
use Rattle.std.proofs.Common.{◌≡◌, ◌||◌, Bool, true, false, not, List, [], ◌∷◌, slice_get, Some, refl, sym, ap, ◌∙◌}
use Rattle.std.specs.List.{AllByRecursion, list_any, list_all}
use Rattle.std.proofs.lemmas.Bool.{and_parts, or_parts, eqb-true}
use Rattle.sqlite_value.specs.Order.{Row}
use Rattle.bike_sql.specs.Stands.{is_same_text}
use Rattle.bike_sql.proofs.RowListLemmas.{same_some, all_at}
use Rattle.bike_book.specs.Tables.{TableName, table_place, is_table, rows_in, tables_by, Meta, System, Plans, Segments, Types, Regions, Stations, Docks, Bikes, Trucks, Riders, Rentals, Orders}
use Rattle.bike_book.specs.Tables.{Entries, History, MoreNames, Books}
use Rattle.bike_schema.specs.Layouts.{name_of, every_table}

-- ---- a line for each table

pub at_place : (t : TableName) → slice_get every_table (table_place t) ≡ Some t
at_place Meta = refl
at_place System = refl
at_place Plans = refl
at_place Segments = refl
at_place Types = refl
at_place Regions = refl
at_place Stations = refl
at_place Docks = refl
at_place Bikes = refl
at_place Trucks = refl
at_place Riders = refl
at_place Rentals = refl
at_place Orders = refl
at_place Entries = refl
at_place History = refl
at_place MoreNames = refl
at_place Books = refl

pub rows_in_by : (rows : TableName → List Row) (t : TableName) → rows_in (tables_by rows) t ≡ rows t
rows_in_by rows Meta = refl
rows_in_by rows System = refl
rows_in_by rows Plans = refl
rows_in_by rows Segments = refl
rows_in_by rows Types = refl
rows_in_by rows Regions = refl
rows_in_by rows Stations = refl
rows_in_by rows Docks = refl
rows_in_by rows Bikes = refl
rows_in_by rows Trucks = refl
rows_in_by rows Riders = refl
rows_in_by rows Rentals = refl
rows_in_by rows Orders = refl
rows_in_by rows Entries = refl
rows_in_by rows History = refl
rows_in_by rows MoreNames = refl
rows_in_by rows Books = refl

-- ---- what follows

-- tables at one place are one table
pub same_table : (t u : TableName) → is_table t u ≡ true → t ≡ u
same_table t u same = same_some (sym (at_place t) ∙ ap (slice_get every_table) (eqb-true (table_place t) (table_place u) same) ∙ at_place u)

-- what holds of each table in the list holds of every table
pub of_every : (P : TableName → Type 0) → AllByRecursion P every_table → (t : TableName) → P t
of_every P all t = all_at P every_table (table_place t) t all (at_place t)

each_true : (test : TableName → Bool) (ts : List TableName) → list_all test ts ≡ true → AllByRecursion (λ t. test t ≡ true) ts
each_true test [] h = tt
each_true test (t ∷ ts) h = let both = and_parts (test t) (list_all test ts) h in (both.0, each_true test ts both.1)

each_false : (test : TableName → Bool) (ts : List TableName) → list_any test ts ≡ false → AllByRecursion (λ t. test t ≡ false) ts
each_false test [] h = tt
each_false test (t ∷ ts) h = let both = or_parts (test t) (list_any test ts) h in (both.0, each_false test ts both.1)

pub every_true : (test : TableName → Bool) → list_all test every_table ≡ true → (t : TableName) → test t ≡ true
every_true test all = of_every (λ t. test t ≡ true) (each_true test every_table all)

pub every_false : (test : TableName → Bool) → list_any test every_table ≡ false → (t : TableName) → test t ≡ false
every_false test none = of_every (λ t. test t ≡ false) (each_false test every_table none)

-- two tables have two names
abbrev are_apart : TableName → TableName → Bool
are_apart t u = is_table t u || not (is_same_text (name_of u) (name_of t))

all_apart : list_all (λ t. list_all (are_apart t) every_table) every_table ≡ true
all_apart = refl

pub names_apart : (t u : TableName) → is_table t u ≡ false → is_same_text (name_of u) (name_of t) ≡ false
names_apart t u other =
    let apart : are_apart t u ≡ true = every_true (are_apart t) (every_true (λ x. list_all (are_apart x) every_table) all_apart t) u in
    by (is_table t u) (is_same_text (name_of u) (name_of t)) other apart
  where
    by : (one same : Bool) → one ≡ false → (one || not same) ≡ true → same ≡ false
    by one false h k = refl
    by true true h k = h
    by false true h k = sym k
