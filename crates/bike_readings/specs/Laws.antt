-- The laws of the rules.
use Rattle.std.specs.Prelude.{◌≡◌, Some, None}
use Rattle.std.specs.declared.cmp.Ordering.TheVariants.{Equal}
use Rattle.sqlite_value.specs.Order.{Row, row_cmp}
use Rattle.sqlite.specs.Effect.{Database}
use Rattle.bike_operator.specs.Operator.{Operator}
use Rattle.bike_book.specs.Tables.{TableName, Tables}
use Rattle.bike_book.specs.Stored.{Listed}
use Rattle.bike_schema.specs.Tables.{tables_of, HasTables}
use Rattle.bike_schema.specs.Stands.{Stores}
use Rattle.bike_readings.specs.ReadOff.{operator_of, listed_of}
use Rattle.bike_readings.specs.Rules.{AreInOrder, IsFirstBad, IsVerdict, AreOf}

-- ---- of tables

-- Tables in order whose keys are all good are those of the operator that is read off them.
abbrev pub GoodAreOf : Type 0
GoodAreOf = (t : Tables) → AreInOrder t → IsVerdict t None → AreOf t (operator_of t) (listed_of t)

-- All keys of the tables of an operator are good,
abbrev pub OfAreGood : Type 0
OfAreGood = (t : Tables) (s : Operator) (m : Listed) → AreOf t s m → IsVerdict t None

-- and what is read off them is the operator.
abbrev pub OfIsReadOff : Type 0
OfIsReadOff = (t : Tables) (s : Operator) (m : Listed) → AreOf t s m → (operator_of t ≡ s) × (listed_of t ≡ m)

-- Where a key is bad, the tables are those of no operator.
abbrev pub BadAreOfNone : Type 0
BadAreOfNone =
    (t : Tables) (bad : TableName × Row) → IsVerdict t (Some bad) → (s : Operator) (m : Listed) → AreOf t s m → ⊥

-- There is one verdict: where a key is bad not all are good, and two first bad keys are of one table and tie.
abbrev pub OneVerdict : Type 0
OneVerdict =
    (t : Tables) (a : TableName) (k : Row) → IsFirstBad t a k
    → (IsVerdict t None → ⊥) × ((b : TableName) (l : Row) → IsFirstBad t b l → (a ≡ b) × (row_cmp k l ≡ Equal))

-- ---- of the tables in a database

-- They are in the order of their keys.
abbrev pub StoredInOrder : Type 0
StoredInOrder = (db : Database) → AreInOrder (tables_of db)

-- Where all keys are good, they stand for the operator that is read off them,
abbrev pub StoredGood : Type 0
StoredGood = (db : Database) → HasTables db → IsVerdict (tables_of db) None → Stores db (operator_of (tables_of db))

-- where they stand for an operator, all keys are good and what is read off them is the operator,
abbrev pub StoredReadOff : Type 0
StoredReadOff =
    (db : Database) (s : Operator) → Stores db s
    → IsVerdict (tables_of db) None × (operator_of (tables_of db) ≡ s)

-- and where a key is bad, they stand for none.
abbrev pub StoredBad : Type 0
StoredBad =
    (db : Database) (bad : TableName × Row) → IsVerdict (tables_of db) (Some bad) → (s : Operator) → Stores db s → ⊥
