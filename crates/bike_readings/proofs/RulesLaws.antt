-- The laws of the rules, from rows to tables and to the tables in a database.
use Rattle.std.proofs.Common.{◌≡◌, ℕ, List, [], map, slice_index_or, Option, Some, None, refl, sym, ap, ◌∙◌, subst}
use Rattle.std.specs.Prelude.{unwrap_or, option_map, option_and_then, slice_get}
use Rattle.std.specs.Ordering.{nat_cmp, ordering_reverse}
use Rattle.std.specs.declared.cmp.Ordering.{Ordering}
use Rattle.std.specs.declared.cmp.Ordering.TheVariants.{Less, Equal, Greater}
use Rattle.std.specs.Cmp.{ranked}
use Rattle.sqlite_value.specs.Order.{Row, row_cmp}
use Rattle.sqlite_value.proofs.OrderLemmas.{row_cmp_total}
use Rattle.sqlite_schema.specs.declared.schema.Table.{Table}
use Rattle.sqlite_schema.specs.Names.{table_named}
use Rattle.sqlite.specs.Effect.{Database}
use Rattle.bike_sql.specs.View.{rows_in, columns_of}
use Rattle.bike_sql.specs.Stands.{rows_of}
use Rattle.bike_sql.proofs.OrderLemmas.{Rises, rises}
use Rattle.bike_sql.proofs.TreeLemmas.{by_key_total}
use Rattle.bike_operator.specs.Operator.{Operator}
use Rattle.bike_book.specs.Tables.{TableName, Tables, rows_in as rows_in_tables, tables_by, keys_of, table_place, Meta, System, Plans, Segments, Types, Regions, Stations, Docks, Bikes, Trucks, Riders}
use Rattle.bike_book.specs.Tables.{Rentals, Orders, Entries, History, MoreNames, Books}
use Rattle.bike_book.specs.Stored.{tables_for}
use Rattle.sqlite_trees.specs.Tree.{Trees}
use Rattle.bike_schema.specs.Layouts.{every_table, name_of}
use Rattle.bike_schema.specs.Tables.{tables_of}
use Rattle.bike_schema.specs.Stands.{Stores}
use Rattle.bike_readings.specs.ReadOff.{operator_of, listed_of}
use Rattle.bike_readings.specs.Rules.{AllGood, IsGoodKey, IsFirstBad, AreOf}
use Rattle.bike_readings.specs.Laws.{GoodAreOf, OfAreGood, OfIsReadOff, BadAreOfNone, OneVerdict, StoredInOrder, StoredGood, StoredReadOff, StoredBad}
use Rattle.bike_readings.proofs.RowRules.{AreGoodKeys, keys_good, rows_good, lacks_none}
use Rattle.bike_readings.proofs.GoodRows.{all_rows_good, none_lacking}
use Rattle.bike_readings.proofs.ReadOffBack.{operator_back, listed_back}
use Rattle.bike_readings.proofs.ReadSound.{are_of}

-- ---- of tables

pub good_are_of : GoodAreOf
good_are_of t up good = are_of t up (rows_good (operator_of t) t up good) (lacks_none (operator_of t) t good)

pub of_is_read_off : OfIsReadOff
of_is_read_off t s m of = (ap operator_of of.tables ∙ operator_back s m of.sound of.listing, ap listed_of of.tables ∙ listed_back s m of.sound of.listing)

pub of_are_good : OfAreGood
of_are_good t s m of = subst AllGood (sym of.tables) good where
  keys : AreGoodKeys s (tables_for s m)
  keys = keys_good s (tables_for s m) (all_rows_good s m of.sound of.listing) (none_lacking s m of.sound of.listing)

  good : AllGood (tables_for s m)
  good = subst (λ (o : Operator). AreGoodKeys o (tables_for s m)) (sym (operator_back s m of.sound of.listing)) keys

pub bad_are_of_none : BadAreOfNone
bad_are_of_none t bad verdict s m of = verdict.bad (of_are_good t s m of bad.0 bad.1)

-- ---- one verdict

-- the table at a place
pub table_at : ℕ → TableName
table_at place = slice_index_or every_table place Meta

pub its_own : (name : TableName) → table_at (table_place name) ≡ name
unfolding table_at
its_own Meta = refl
its_own System = refl
its_own Plans = refl
its_own Segments = refl
its_own Types = refl
its_own Regions = refl
its_own Stations = refl
its_own Docks = refl
its_own Bikes = refl
its_own Trucks = refl
its_own Riders = refl
its_own Rentals = refl
its_own Orders = refl
its_own Entries = refl
its_own History = refl
its_own MoreNames = refl
its_own Books = refl

module _ (t : Tables) (a b : TableName) (k l : Row) (first : IsFirstBad t a k) (other : IsFirstBad t b l) where
  same_table : (o : Ordering) → o ≡ nat_cmp (table_place a) (table_place b) → a ≡ b
  same_table Less e = absurd (first.bad (other.earlier a k (ranked (table_place a) (table_place b) Less e)))
  same_table Equal e = sym (its_own a) ∙ ap table_at (ranked (table_place a) (table_place b) Equal e) ∙ its_own b
  same_table Greater e = absurd (other.bad (first.earlier b l (ranked (table_place a) (table_place b) Greater e)))

  same_key : a ≡ b → (o : Ordering) → row_cmp k l ≡ o → row_cmp k l ≡ Equal
  same_key same Less e = absurd (first.bad (subst (λ (n : TableName). IsGoodKey t n k) (sym same) (other.before k e)))
  same_key same Equal e = e
  same_key same Greater e =
      let back : row_cmp l k ≡ Less = row_cmp_total.antisymm l k ∙ ap ordering_reverse e in
      absurd (other.bad (subst (λ (n : TableName). IsGoodKey t n l) same (first.before l back)))

pub one_verdict : OneVerdict
one_verdict t a k first = (
  λ all. first.bad (all a k),
  λ b l other.
      let table = same_table t a b k l first other (nat_cmp (table_place a) (table_place b)) refl in
      (table, same_key t a b k l first other table (row_cmp k l) refl),
)

-- ---- of the tables in a database

-- the rows of a table that is found, or none
rows_rise : (keys : ℕ) (trees : Trees) (o : Option Table) → Rises (by_key_total keys) (unwrap_or (option_map (λ table. rows_in keys table trees) o) [])
rows_rise keys trees None = tt
rows_rise keys trees (Some table) = rises (by_key_total keys) (map (columns_of table) (trees table.tree))

-- a table is what the function gives of its name
pub rows_by : (rows : TableName → List Row) (name : TableName) → rows_in_tables (tables_by rows) name ≡ rows name
rows_by rows Meta = refl
rows_by rows System = refl
rows_by rows Plans = refl
rows_by rows Segments = refl
rows_by rows Types = refl
rows_by rows Regions = refl
rows_by rows Stations = refl
rows_by rows Docks = refl
rows_by rows Bikes = refl
rows_by rows Trucks = refl
rows_by rows Riders = refl
rows_by rows Rentals = refl
rows_by rows Orders = refl
rows_by rows Entries = refl
rows_by rows History = refl
rows_by rows MoreNames = refl
rows_by rows Books = refl

pub stored_in_order : StoredInOrder
stored_in_order db name =
    subst (Rises (by_key_total (keys_of name))) (sym (rows_by (λ n. rows_of (keys_of n) (name_of n) db) name))
    (rows_rise (keys_of name) db.trees (option_and_then (slice_get db.schema.tables) (table_named db.schema (name_of name))))

pub stored_good : StoredGood
stored_good db has good =
    let of = good_are_of (tables_of db) (stored_in_order db) good in
    record { has = has; sound = of.sound; listed = listed_of (tables_of db); listing = of.listing; tables = of.tables }

stored_of : (db : Database) (s : Operator) (stands : Stores db s) → AreOf (tables_of db) s stands.listed
stored_of db s stands = record { sound = stands.sound; listing = stands.listing; tables = stands.tables }

pub stored_read_off : StoredReadOff
stored_read_off db s stands = (of_are_good (tables_of db) s stands.listed (stored_of db s stands), (of_is_read_off (tables_of db) s stands.listed (stored_of db s stands)).0)

pub stored_bad : StoredBad
stored_bad db bad verdict s stands = bad_are_of_none (tables_of db) bad verdict s stands.listed (stored_of db s stands)
