-- The digits of a length, one more.
use Rattle.std.proofs.Common.{◌≡◌, ℕ, ◌+◌, ◌-◌, ◌*◌, ◌<◌, List, true, length, take, get_or, min, refl, sym, ◌∙◌, arith}
use Rattle.std.proofs.lemmas.Bool.Decides.{nat_tests}
use Rattle.std.proofs.lemmas.Int.Digits.{digits_value_more}
use Rattle.std.proofs.lemmas.List.Folds.{list_all_more}
use Rattle.std.proofs.lemmas.Str.{digit_value_digit}
use Rattle.std.specs.Char.{is_ascii_digit}
use Rattle.std.specs.Int.{IsInRange}
use Rattle.std.specs.List.{list_all}
use Rattle.std.specs.Str.Parse.{digits_value}

pub digits_more : (text : List ℕ) (i : ℕ) → i < length text → list_all is_ascii_digit (take i text) ≡ true → true ≡ is_ascii_digit (get_or text i 0)
    → list_all is_ascii_digit (take (i + 1) text) ≡ true
digits_more text i lt so here = list_all_more is_ascii_digit text i 0 lt ∙ rw (so, sym here) refl

in_range : (b : ℕ) → true ≡ is_ascii_digit b → IsInRange 48 57 b
in_range b e = grind (e, arith, nat_tests)

pub value_more : (text : List ℕ) (i n m : ℕ) → i < length text → true ≡ is_ascii_digit (get_or text i 0)
    → n ≡ min (digits_value 10 (take i text)) 16385 → m ≡ min (n * 10 + (get_or text i 0 - 48)) 16385
    → m ≡ min (digits_value 10 (take (i + 1) text)) 16385
value_more text i n m lt here so e =
    let more = digits_value_more 10 text i lt in
    let digit = digit_value_digit (get_or text i 0) (in_range (get_or text i 0) here) in
    omega (arith, more, digit, so, e)
