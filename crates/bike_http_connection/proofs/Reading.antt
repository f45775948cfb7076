-- What is copied of a request that was gathered.
use Rattle.std.proofs.Common.{◌≡◌, ℕ, ◌+◌, ◌≤◌, min, List, ◌++◌, length, take, drop, inl, inr, sym, ap, ◌∙◌, subst, take-append-drop, take_all, length-take, length-drop, ◌-◌, arith}
use Rattle.std.proofs.lemmas.Bool.{cases_lt}
use Rattle.std.proofs.lemmas.List.{drop-drop}
use Rattle.std.proofs.Math.ListN.{drop_of_length-le}
use Rattle.std.proofs.Math.Seq.{take-append_seam}

-- what stands from a place on, though that place be behind the end
from_place : (items : List ℕ) (at start : ℕ) → start ≡ min at (length items) → drop at items ≡ drop start items
from_place items at start is = elim (cases_lt at (length items)) [
  | inl within ↦ ap (λ (n : ℕ). drop n items) (omega (arith, is, within))
  | inr beyond ↦
      drop_of_length-le items {i = at} (omega (arith, beyond)) ∙ sym (drop_of_length-le items {i = start} (omega (arith, is, beyond)))
]

-- what is copied of it, and what stands behind
pub copied : (items all buf piece : List ℕ) (at start count : ℕ) → all ≡ items → start ≡ min at (length items)
    → piece ≡ take count (take (length all - start) (drop start all)) → length piece ≡ length (take count buf) → count ≤ length buf
    → drop at items ≡ take count (piece ++ drop count buf) ++ drop (start + count) items
copied items all buf piece at start count same is piece_is long within =
    let whole : take (length items - start) (drop start items) ≡ drop start items =
    take_all (length items - start) (drop start items) (omega (arith, length-drop start items)) in
    let piece_in : piece ≡ take count (drop start items) =
    piece_is ∙ ap (λ (xs : List ℕ). take count (take (length xs - start) (drop start xs))) same ∙ ap (take count) whole in
    let size : length piece ≡ count = omega (arith, long, length-take count buf, within) in
    from_place items at start is
    ∙ sym (take-append-drop count (drop start items))
    ∙ ap (λ (xs : List ℕ). take count (drop start items) ++ xs) (drop-drop count start items)
    ∙ ap (λ (xs : List ℕ). xs ++ drop (start + count) items)
    (sym piece_in ∙ sym (subst (λ (n : ℕ). take n (piece ++ drop count buf) ≡ piece) size (take-append_seam piece (drop count buf))))
