-- When a database stands for an operator at a version.
use Rattle.std.specs.Prelude.{◌≡◌, ℕ, pos, ◌≤◌, List, [], ◌∷◌, codes, Option, Some, None, IsTrue}
use Rattle.std.specs.FinMap as fin
use Rattle.sqlite_trees.specs.Tree.{Trees}
use Rattle.sqlite_schema.specs.declared.schema.Schema.{Schema}
use Rattle.sqlite_value.specs.declared.value.Value.{Value}
use Rattle.sqlite_value.specs.declared.value.Value.TheVariants.{Int, Text}
use Rattle.sqlite_value.specs.Order.{Row}
use Rattle.sqlite.specs.Effect.{Database, IsDatabase}
use Rattle.bike_operator.specs.Operator.{Operator, Station}
use Rattle.bike_operator.specs.Sound.{IsSound}
use Rattle.bike_book.specs.Tables.{Tables}
use Rattle.bike_book.specs.Rows.{number_value}
use Rattle.bike_book.specs.Stored.{Listed, IsListing, tables_for}
use Rattle.bike_schema.specs.Stands.{StandsFor}
use Rattle.bike_recognition.specs.declared.earlier_versions.earlier.Earlier.{Earlier}
use Rattle.bike_recognition.specs.declared.earlier_versions.earlier.TheConstants.{MOST_DOCKS_BEFORE}
use Rattle.bike_recognition.specs.EarlierVersions.Earlier.{number_of, bounds_docks, tables_at, IsAt}

-- one, app, version, now (seconds), cash, revenue: such a version books the operator's sums in the last two
abbrev pub old_meta_row : ℕ → ℕ → Value → Value → Row
old_meta_row version now cash revenue =
    Int (pos 1) ∷ Text (codes "bikeshare") ∷ number_value version ∷ number_value now ∷ cash ∷ revenue ∷ []

-- The tables of the operator, with the version's number in meta's row. What stands there for the sums tells nothing:
-- they are those of its entries.
abbrev pub tables_for_at : Earlier → Operator → Listed → Value → Value → Tables
tables_for_at e s m cash revenue =
    record (tables_for s m) { meta = old_meta_row (number_of e) m.since cash revenue ∷ [] }

-- no station has more docks than the versions allow that bound them
abbrev pub HasFewDocks : Operator → Type 0
HasFewDocks s = (id : List ℕ) (x : Station) → fin.get s.stations id ≡ Some x → x.row.docks ≤ MOST_DOCKS_BEFORE

-- At an earlier version the tables are those of the operator, who is sound, with rows for these docks.
-- Its requests were accepted at moment 0, as far as such a version tells, in the order in which they were kept.
pub record StoresAt (e : Earlier) (db : Database) (s : Operator) : Type 0 where
  pub is_at : IsAt e db
  pub sound : IsSound s
  pub few_docks : IsTrue (bounds_docks e) → HasFewDocks s
  pub listed : Listed
  pub listing : IsListing s listed
  pub cash : Value
  pub revenue : Value
  pub tables : tables_at e db ≡ tables_for_at e s listed cash revenue

-- THE DATABASE STANDS FOR THE OPERATOR at a version: an earlier one, or, where none is named, the newest
abbrev pub StandsForAt : Option Earlier → Database → Operator → Type 0
StandsForAt None db s = StandsFor db s
StandsForAt (Some e) db s = IsDatabase db × StoresAt e db s

-- the same of stored trees, which hold their own schema
abbrev pub TreesStandForAt : Option Earlier → Operator → Trees → Type 0
TreesStandForAt v s trees = (schema : Schema) × StandsForAt v (record { schema = schema; trees = trees }) s
