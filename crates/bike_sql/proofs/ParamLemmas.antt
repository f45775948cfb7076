-- Parameters that may be NULL, as they are bound.
use Rattle.std.proofs.Common.{◌≡◌, ℕ, ℤ, List, Option, Some, None, option_map, true, refl, rules}
use Rattle.std.proofs.lemmas.Int.{to_z-of_z}
use Rattle.sqlite_value.specs.declared.value.Value.TheVariants.{Int, Text}
use Rattle.sqlite_schema.specs.declared.schema.Kind.TheVariants.{Integer, Text as Words}
use Rattle.sqlite.specs.Values.{or_null, bound_value}
use Rattle.bike_sql.proofs.CastLemmas.{suits}

pub text_or_null : {T : Type 0} (f : T → List ℕ) (o : Option T) → bound_value (or_null (λ x. Text (f x)) o) ≡ or_null Text (option_map f o)
text_or_null f None = refl
text_or_null f (Some x) = refl

pub int_or_null : {T : Type 0} (f : T → ℤ) (o : Option T) → bound_value (or_null (λ x. Int (f x)) o) ≡ or_null Int (option_map f o)
int_or_null f None = refl
int_or_null f (Some x) = refl

-- by which `search` finds that the values sent are the parameters
pub ruleset bindings = (rules, to_z-of_z, text_or_null, int_or_null)

-- A column stores either as it is.
pub text_suits : (o : Option (List ℕ)) → suits Words (or_null Text o) ≡ true
text_suits None = refl
text_suits (Some x) = refl

pub int_suits : (o : Option ℤ) → suits Integer (or_null Int o) ≡ true
int_suits None = refl
int_suits (Some n) = refl
