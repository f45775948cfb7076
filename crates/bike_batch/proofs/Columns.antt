-- The fields of a record, one by one.
use Rattle.std.proofs.Common.{◌≡◌, ℕ, ◌<◌, suc, zero, List, [], ◌∷◌, length, Some, None, arith}
use Rattle.csv.specs.Records.{field_at}
use Rattle.bike_batch.specs.Rows.{Record}

-- a record has a field at each place below its length
pub has_field : (fields : Record) (place : ℕ) → place < length fields → None ≡ field_at fields place → ⊥
unfolding field_at
has_field [] place low none = absurd (omega (arith, low))
has_field (f ∷ fields) zero low none = cc none
has_field (f ∷ fields) (suc place) low none = has_field fields place (omega (arith, low)) none

-- five fields, each known, are the record
pub five_fields : (fields : Record) (a b c d e : List ℕ) → length fields ≡ 5 → Some a ≡ field_at fields 0 → Some b ≡ field_at fields 1 → Some c ≡ field_at fields 2
    → Some d ≡ field_at fields 3 → Some e ≡ field_at fields 4 → fields ≡ a ∷ b ∷ c ∷ d ∷ e ∷ []
unfolding field_at
five_fields [] a b c d e five p q r s t = absurd (omega (arith, five))
five_fields (f ∷ []) a b c d e five p q r s t = absurd (omega (arith, five))
five_fields (f ∷ g ∷ []) a b c d e five p q r s t = absurd (omega (arith, five))
five_fields (f ∷ g ∷ h ∷ []) a b c d e five p q r s t = absurd (omega (arith, five))
five_fields (f ∷ g ∷ h ∷ i ∷ []) a b c d e five p q r s t = absurd (omega (arith, five))
five_fields (f ∷ g ∷ h ∷ i ∷ j ∷ []) a b c d e five p q r s t = cc
five_fields (f ∷ g ∷ h ∷ i ∷ j ∷ k ∷ fields) a b c d e five p q r s t = absurd (omega (arith, five))
