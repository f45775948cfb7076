-- What a client sends, of which a piece is read.
use Rattle.std.proofs.Common.{◌≡◌, ℕ, ◌<◌, min, List, [], ◌++◌, length, take, drop, sym, ap, ◌∙◌, subst, take-append-drop, length-take, length-drop, length-append, ◌∷◌, arith}
use Rattle.std.proofs.Math.ListN.{drop_of_length-le}
use Rattle.std.proofs.Math.Seq.{take-append_seam}

-- what a client sends, of which a piece is read
nothing_left : (input buf piece : List ℕ) (n most : ℕ) → n ≡ min (min most (length buf)) (length input) → 0 < most → n ≡ 0
    → length piece ≡ n → 0 < length (piece ++ drop n buf) → drop n input ≡ []
nothing_left [] buf piece n most is some none size room = drop_of_length-le [] {i = n} (omega arith)
nothing_left (b ∷ input) buf piece n most is some none size room =
    absurd (omega (arith, is, some, none, size, room, length-append piece (drop n buf), length-drop n buf))

pub split_read : (input front back piece buf : List ℕ) (n most : ℕ) → n ≡ min (min most (length buf)) (length input) → 0 < most
    → front ≡ take n input → back ≡ drop n input → piece ≡ front
    → (input ≡ take n (piece ++ drop n buf) ++ back) × (n ≡ 0 → 0 < length (piece ++ drop n buf) → back ≡ [])
split_read input front back piece buf n most is some front_is back_is piece_is =
    let piece_in : piece ≡ take n input = piece_is ∙ front_is in
    let size : length piece ≡ n = ap length piece_in ∙ omega (arith, length-take n input, is) in (
      sym (take-append-drop n input)
          ∙ ap (λ (xs : List ℕ). xs ++ drop n input)
          (sym piece_in ∙ sym (subst (λ (k : ℕ). take k (piece ++ drop n buf) ≡ piece) size (take-append_seam piece (drop n buf))))
          ∙ ap (λ (xs : List ℕ). take n (piece ++ drop n buf) ++ xs) (sym back_is),
      λ none room. back_is ∙ nothing_left input buf piece n most is some none size room,
    )
