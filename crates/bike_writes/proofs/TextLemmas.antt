-- What a text does, as a write to one table, and the values that it is sent.
use Rattle.std.proofs.Common.{◌≡◌, ℕ, pos, List, [], ◌∷◌, Option, Some, None, true, refl, rules}
use Rattle.std.proofs.lemmas.Int.{to_z-of_z}
use Rattle.sqlite_value.specs.declared.value.Value.TheVariants.{Int}
use Rattle.sqlite_value.specs.Order.{Row}
use Rattle.sqlite_schema.specs.declared.schema.Kind.TheVariants.{Integer}
use Rattle.sqlite.specs.Values.{or_null, bound_value}
use Rattle.bike_sql.proofs.CallLaws.{Does}
use Rattle.bike_sql.proofs.CastLemmas.{suits}
use Rattle.bike_sql.proofs.ParamLemmas.{text_or_null}
use Rattle.bike_book.specs.Rows.{number_value}
use Rattle.bike_book.specs.Writes.{RowWrite}
use Rattle.bike_schema.specs.Tables.{IsOurs, tables_of}
use Rattle.bike_schema.specs.Makes.{Puts}
use Rattle.bike_schema.specs.Calls.{WasFree}

-- with these parameters the text makes the write
abbrev pub Makes : List ℕ → Row → RowWrite → Type 1
Makes text params w = Does IsOurs (λ db. WasFree w (tables_of db)) (Puts (w ∷ [])) text params

pub number_or_null : (o : Option ℕ) → bound_value (or_null (λ n. Int (pos n)) o) ≡ or_null number_value o
number_or_null None = refl
number_or_null (Some n) = refl

pub number_suits : (o : Option ℕ) → suits Integer (or_null number_value o) ≡ true
number_suits None = refl
number_suits (Some n) = refl

-- by which `search` finds that the values sent are the parameters
pub ruleset bindings = (rules, to_z-of_z, text_or_null, number_or_null)
