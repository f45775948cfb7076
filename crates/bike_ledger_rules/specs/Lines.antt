-- What a judge finds in the lines of a query.
use Rattle.std.specs.Prelude.{ℕ, Bool, take, Option, option_map}
use Rattle.sqlite_value.specs.Order.{Row}
use Rattle.sqlite.specs.Effect.{Database}
use Rattle.bike_book.specs.Tables.{TableName, Tables}
use Rattle.bike_schema.specs.Tables.{tables_of}
use Rattle.bike_judges.specs.declared.key.BadKey.{BadKey}
use Rattle.bike_judges.specs.Judging.{key_row}
use Rattle.bike_judges.specs.Passes.{Demands}
use Rattle.bike_judges.specs.Verdicts.{IsFirstFailing}

-- the key of a line
abbrev pub first_column : Row → Row
first_column = take 1

-- what was found is the first key of the table whose row fails the test
abbrev pub FindsFailing : TableName → (Tables → ℕ → Row → Bool) → Database → Option BadKey → Type 0
FindsFailing name test db found =
    IsFirstFailing (tables_of db) name (Demands (tables_of db) name (test (tables_of db))) (option_map key_row found)
