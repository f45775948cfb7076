-- The parts of a text, taken one after the other.
use Rattle.std.proofs.Common.{◌≡◌, ◌≢◌, get_or, ℕ, ◌<◌, ◌∷◌, [], List, length, Bool, Some, None, Option, eqb, true, false, refl, ◌∙◌, Bor, cond, inl, inr}
use Rattle.std.specs.List.{slice_split, onto_first, All}
use Rattle.std.proofs.lemmas.List.Splits.{slice_split_first, slice_split_none}
use Rattle.std.proofs.lemmas.Str.Pattern.{IsSplitOnceResult, split_once_first, split_parts}
use Rattle.std.proofs.lemmas.List.{get_or_default}
use Rattle.std.proofs.lemmas.Bool.Decides.{eqb_tells}
use Rattle.bike_texts.specs.Parts.{Parts, parts_at}
use Rattle.bike_texts.specs.Reading.{part_at, no_more}

abbrev pub is_byte : ℕ → ℕ → Bool
is_byte separator b = eqb b separator

abbrev pub is_tab : ℕ → Bool
is_tab = is_byte 9

-- a separator was found: the part in front of it, and the parts behind
pub part_found : (c : ℕ) (text front back : Bor (List ℕ)) (rest : Option (Bor (List ℕ))) (now : Parts) → c < 128 → parts_at c rest ≡ now → rest ≡ Some text
    → IsSplitOnceResult c text.now (Some (front, back))
    → part_at now ≡ Some (front.now, slice_split (is_byte c) back.now)
part_found c text front back rest now ascii shown is found =
    let first = split_once_first c text.now (Some (front, back)) found ascii in
    let parts : slice_split (is_byte c) text.now ≡ front.now ∷ slice_split (is_byte c) back.now = slice_split_first (is_byte c) text.now 0 first.0 ∙ rw (first.1, first.2) refl in
    rw (← shown, is, parts) refl

all_apart : (c : ℕ) (text : List ℕ) → ((k : ℕ) → k < length text → get_or text k 0 ≢ c) → All (λ x. is_byte c x ≡ false) text
all_apart c text none = λ k d lt. rw (get_or_default text k d 0 lt) (elim (eqb_tells (get_or text k 0) c) [ inl w ↦ absurd (none k lt w.1) | inr w ↦ w.0 ])

-- no separator is there: the whole text is the last part
pub part_last : (c : ℕ) (text : Bor (List ℕ)) (rest : Option (Bor (List ℕ))) (now : Parts) → c < 128 → parts_at c rest ≡ now → rest ≡ Some text → IsSplitOnceResult c text.now None
    → part_at now ≡ Some (text.now, [])
part_last c text rest now ascii shown is none =
    let apart = split_parts c text.now None none ascii in
    let parts : slice_split (is_byte c) text.now ≡ text.now ∷ [] = slice_split_none (is_byte c) text.now (all_apart c text.now apart) in
    rw (← shown, is, parts) refl

some_left : (x : ℕ) (parts : Parts) → no_more (onto_first x parts) ≡ None
some_left x [] = refl
some_left x (p ∷ ps) = refl

-- a text has a part
pub split_is_more : (c : ℕ) (text : List ℕ) → no_more (slice_split (is_byte c) text) ≡ None
split_is_more c [] = refl
split_is_more c (x ∷ xs) =
    elim (is_byte c x) as (λ b. no_more (cond b ([] ∷ slice_split (is_byte c) xs) (onto_first x (slice_split (is_byte c) xs)))
    ≡ None) [ true ↦ refl | false ↦ some_left x (slice_split (is_byte c) xs) ]
