-- A text of the right length and bytes is a name.
use Rattle.std.proofs.Common.{◌≡◌, ℕ, List, true, refl}
use Rattle.std.specs.List.{list_all}
use Rattle.std.specs.Str.{IsUtf8, is_utf8}
use Rattle.std.proofs.lemmas.Str.{is_utf8-from_IsUtf8}
use Rattle.bike_fields.specs.declared.text_lengths.TheConstants.{LONGEST_NAME}
use Rattle.bike_fields.specs.Bytes.{is_name, has_length, is_name_byte}

pub name_holds : (bs : List ℕ) → has_length 1 LONGEST_NAME bs ≡ true → list_all is_name_byte bs ≡ true → IsUtf8 bs → is_name bs ≡ true
name_holds bs length bytes utf8 =
    let text : is_utf8 bs ≡ true = is_utf8-from_IsUtf8 bs utf8 in
    rw (length, bytes, text) refl
