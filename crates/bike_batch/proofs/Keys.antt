-- The keys of rows.
use Rattle.std.proofs.Common.{◌≡◌, ℕ, ◌≤◌, ◌<◌, ◌^◌, length, Bool, true, false, ◌||◌, refl, arith, codes, decimal}
use Rattle.std.specs.Char.{is_ascii_digit}
use Rattle.std.proofs.lemmas.Fmt.{digits_decimal}
use Rattle.std.proofs.lemmas.List.{length-append}
use Rattle.std.proofs.lemmas.Bool.{le-leb}
use Rattle.bike_fixed.proofs.Coordinates.{decimal_digits}
use Rattle.bike_fields.specs.Bytes.{is_key, is_key_byte, is_upper, is_lower, is_digit}
use Rattle.bike_texts.proofs.Absent.{all_append, all_weaker}
use Rattle.bike_batch.specs.Rows.{key_of}

third : (a b c d e : Bool) → c ≡ true → (a || b || c || d || e) ≡ true
third true b c d e h = refl
third false true c d e h = refl
third false false c d e h = rw h refl

key_digit : (b : ℕ) → is_ascii_digit b ≡ true → is_key_byte b ≡ true
key_digit b h = third (is_upper b) (is_lower b) (is_digit b) _ _ h

pub is_key_of : (number : ℕ) → number < 2 ^ 64 → length (decimal number) ≤ 60 → is_key (key_of number) ≡ true
is_key_of number small short =
    let size = length-append (codes "row-") (decimal number) in
    let least = le-leb 1 (length (key_of number)) (omega (arith, size)) in
    let most = le-leb (length (key_of number)) 64 (omega (arith, size, short)) in
    let bytes = all_append is_key_byte (codes "row-") (decimal number) refl (all_weaker is_ascii_digit is_key_byte key_digit (decimal number) (digits_decimal decimal_digits number small)) in
    rw (least, most, bytes) refl
