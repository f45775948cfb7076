-- A column that holds a text.
use Rattle.std.proofs.Common.{◌≡◌, ℕ, Bool, true, false, List, Option, Some, None, if◌then◌else◌, refl, subst}
use Rattle.std.specs.Str.{IsUtf8, is_utf8}
use Rattle.std.proofs.lemmas.Str.{is_utf8-from_IsUtf8, IsUtf8-from_is_utf8}
use Rattle.sqlite_value.specs.declared.value.Value.{Value}
use Rattle.sqlite_value.specs.declared.value.Value.TheVariants.{Text}
use Rattle.bike_schema.specs.Columns.{text_in}

pub is_text : (v : Value) (text : List ℕ) → Text text ≡ v → IsUtf8 text → text_in v ≡ Some text
is_text v text is utf8 = let valid = is_utf8-from_IsUtf8 text utf8 in subst (λ w. text_in w ≡ Some text) is (rw valid)

pub no_text : (v : Value) (text : List ℕ) → Text text ≡ v → ¬ IsUtf8 text → text_in v ≡ None
no_text v text is other = subst (λ w. text_in w ≡ None) is (by (is_utf8 text) refl)
  where
    by : (b : Bool) → is_utf8 text ≡ b → ◌≡◌ {A = Option (List ℕ)} (if b then Some text else None) None
    by true valid = absurd (other (IsUtf8-from_is_utf8 text valid))
    by false valid = refl
