-- What a passed test says of a text's length.
use Rattle.std.proofs.Common.{◌≡◌, ℕ, ◌≤◌, List, length, Bool, true, false, ◌&&◌, leb, refl, arith}
use Rattle.std.specs.List.{list_all}
use Rattle.std.proofs.lemmas.Bool.Decides.{nat_tests}
use Rattle.bike_fields.specs.declared.text_lengths.TheConstants.{LONGEST_IDENT}
use Rattle.bike_fields.specs.Bytes.{is_ident, has_length, is_ident_byte}

pub both_hold : (a b : Bool) → (a && b) ≡ true → (a ≡ true) × (b ≡ true)
both_hold true b e = (refl, e)
both_hold false b e = absurd cc

pub ident_length : (bs : List ℕ) → is_ident bs ≡ true → length bs ≤ LONGEST_IDENT
ident_length bs h =
    let a = both_hold (has_length 1 LONGEST_IDENT bs) (list_all is_ident_byte bs) h in
    let b = both_hold (leb 1 (length bs)) (leb (length bs) LONGEST_IDENT) a.0 in
    grind (arith, nat_tests, b.1)
