-- Texts that stand in columns, and the system of a row.
use Rattle.std.proofs.Common.{◌≡◌, ℕ, List, if◌then◌else◌, Some, None, ap, ◌∙◌, sym}
use Rattle.std.specs.Str.{IsUtf8}
use Rattle.std.proofs.lemmas.Str.{is_utf8-from_IsUtf8}
use Rattle.sqlite_value.specs.declared.value.Value.{Value}
use Rattle.sqlite_value.specs.declared.value.Value.TheVariants.{Text}
use Rattle.bike_schema.specs.Columns.{text_in}

pub text_here : (v : Value) (bytes text : List ℕ) → v ≡ Text bytes → IsUtf8 bytes → text ≡ bytes → text_in v ≡ Some text
text_here v bytes text is good same = ap text_in is ∙ ap (λ b. if b then Some bytes else None) (is_utf8-from_IsUtf8 bytes good) ∙ ap Some (sym same)
