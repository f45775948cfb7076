-- What the rules of one table answer, where all keys of the tables
-- before it are good; and the same of a part of what is demanded.
use Rattle.std.specs.Prelude.{◌≡◌, ◌<◌, Option, Some, None, option_map, IfSome, take}
use Rattle.std.specs.declared.cmp.Ordering.TheVariants.{Less}
use Rattle.sqlite_value.specs.Order.{Row, row_cmp}
use Rattle.sqlite.specs.Effect.{Database}
use Rattle.bike_book.specs.Tables.{TableName, Tables, keys_of, table_place}
use Rattle.bike_schema.specs.Tables.{tables_of}
use Rattle.bike_readings.specs.Rules.{IsGoodKey, row_under}
use Rattle.bike_judges.specs.declared.key.BadKey.{BadKey}
use Rattle.bike_judges.specs.Judging.{key_row}

abbrev pub EarlierGood : Tables → TableName → Type 0
EarlierGood t name = (table : TableName) (other : Row) → table_place table < table_place name → IsGoodKey t table other

-- It fails at this key and at none below it. Where the key has a row, it is written as the row has it.
pub record FailsFirst (t : Tables) (name : TableName) (Holds : Row → Type 0) (key : Row) : Type 0 where
  pub bad : Holds key → ⊥
  pub own : IfSome (row_under t name key) (λ row. take (keys_of name) row ≡ key)
  pub before : (other : Row) → row_cmp other key ≡ Less → Holds other

-- it holds of every key of the table, or fails first at this one
abbrev pub IsFirstFailing : Tables → TableName → (Row → Type 0) → Option Row → Type 0
IsFirstFailing t name Holds None = (key : Row) → Holds key
IsFirstFailing t name Holds (Some key) = FailsFirst t name Holds key

-- all keys of the table are good, or this is its first bad one
abbrev pub IsTableVerdict : Tables → TableName → Option Row → Type 0
IsTableVerdict t name = IsFirstFailing t name (IsGoodKey t name)

-- WHAT THE RULES OF A TABLE ANSWER
abbrev pub JudgesTable : TableName → Database → Option BadKey → Type 0
JudgesTable name db found =
    EarlierGood (tables_of db) name → IsTableVerdict (tables_of db) name (option_map key_row found)
