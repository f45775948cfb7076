-- One of those that pass a test, among others that were moved.
use Rattle.std.proofs.Common.{◌≡◌, List, [], ◌∷◌, ◌++◌, Bool, true, false, cond, flat_map, subst, ap, ◌∙◌, append_assoc, append-nil, IsPermutation}
use Rattle.std.proofs.lemmas.List.Concat.{flat_map-append}
use Rattle.std.proofs.lemmas.List.Sorted.{IsPermutation-refl, IsPermutation-sym, IsPermutation-trans, IsPermutation-cons, IsPermutation-append_left, IsPermutation-append_right, IsPermutation-middle}
use Rattle.bike_http_connections.specs.Ahead.{Loses}
use Rattle.bike_http_connections.proofs.Requests.{IsPermutation-flat_map}

module _ {X : Type 0} (test : X → Bool) where
  abbrev pub one_in : Bool → X → List X
  one_in b x = cond b (x ∷ []) []

  abbrev pub one_out : Bool → X → List X
  one_out b x = cond b [] (x ∷ [])

  -- those that pass, and the others
  abbrev pub passing : List X → List X
  passing = flat_map (λ x. one_in (test x) x)

  abbrev pub failing : List X → List X
  failing = flat_map (λ x. one_out (test x) x)

  parted : (xs : List X) → IsPermutation xs (failing xs ++ passing xs)
  parted [] = IsPermutation-refl []
  parted (x ∷ xs) =
      elim (test x) as (λ b. IsPermutation (x ∷ xs) ((one_out b x ++ failing xs) ++ (one_in b x ++ passing xs))) [
        | true ↦
            IsPermutation-trans (x ∷ xs) (x ∷ (failing xs ++ passing xs)) (failing xs ++ x ∷ passing xs) (IsPermutation-cons x xs (failing xs ++ passing xs) (parted xs))
            (IsPermutation-sym (failing xs ++ x ∷ passing xs) (x ∷ (failing xs ++ passing xs)) (IsPermutation-middle (failing xs) x (passing xs)))
        | false ↦ IsPermutation-cons x xs (failing xs ++ passing xs) (parted xs)
      ]

  module _ (front rest lost mid : List X) (x : X) (none : passing front ≡ []) (passes : test x ≡ true) (moved : IsPermutation (front ++ rest) (lost ++ x ∷ mid)) where
    -- the others of those that pass, wherever they went
    abbrev pub others : List X
    others = passing lost ++ passing mid

    -- one that passes is none of the front
    passed : IsPermutation (passing rest) (x ∷ others)
    passed =
        let all : passing (front ++ rest) ≡ passing rest =
        flat_map-append (λ y. one_in (test y) y) front rest ∙ ap (λ (ys : List X). ys ++ passing rest) none in
        let here : passing (lost ++ x ∷ mid) ≡ passing lost ++ x ∷ passing mid =
        flat_map-append (λ y. one_in (test y) y) lost (x ∷ mid) ∙ ap (λ b. passing lost ++ (one_in b x ++ passing mid)) passes in
        IsPermutation-trans (passing rest) (passing lost ++ x ∷ passing mid) (x ∷ others)
        (subst (λ (ys : List X). IsPermutation ys (passing lost ++ x ∷ passing mid)) all
        (subst (λ (ys : List X). IsPermutation (passing (front ++ rest)) ys) here
        (IsPermutation-flat_map (λ y. one_in (test y) y) (front ++ rest) (lost ++ x ∷ mid) moved)))
        (IsPermutation-middle (passing lost) x (passing mid))

    -- those that fail
    failed : IsPermutation (front ++ failing rest) (failing lost ++ failing mid)
    failed =
        let all : failing (front ++ rest) ≡ failing front ++ failing rest = flat_map-append (λ y. one_out (test y) y) front rest in
        let here : failing (lost ++ x ∷ mid) ≡ failing lost ++ failing mid =
        flat_map-append (λ y. one_out (test y) y) lost (x ∷ mid) ∙ ap (λ b. failing lost ++ (one_out b x ++ failing mid)) passes in
        let front_only : IsPermutation front (failing front) =
        subst (λ (ys : List X). IsPermutation front ys) (ap (λ (ys : List X). failing front ++ ys) none ∙ append-nil (failing front)) (parted front) in
        IsPermutation-trans (front ++ failing rest) (failing front ++ failing rest) (failing lost ++ failing mid)
        (IsPermutation-append_left (failing rest) front (failing front) front_only)
        (subst (λ (ys : List X). IsPermutation ys (failing lost ++ failing mid)) all
        (subst (λ (ys : List X). IsPermutation (failing (front ++ rest)) ys) here
        (IsPermutation-flat_map (λ y. one_out (test y) y) (front ++ rest) (lost ++ x ∷ mid) moved)))

    -- it was one of the rest; the others of that are there still, or lost
    pub picked : (left : List X) × IsPermutation rest (x ∷ left) × Loses (front ++ left) mid
    picked = (
      failing rest ++ others,
      IsPermutation-trans rest (failing rest ++ passing rest) (x ∷ (failing rest ++ others)) (parted rest)
          (IsPermutation-trans (failing rest ++ passing rest) (failing rest ++ x ∷ others) (x ∷ (failing rest ++ others))
          (IsPermutation-append_right (failing rest) (passing rest) (x ∷ others) passed) (IsPermutation-middle (failing rest) x others)),
      (
        lost,
        IsPermutation-trans (front ++ (failing rest ++ others)) ((failing lost ++ failing mid) ++ others) (lost ++ mid)
            (subst (λ (ys : List X). IsPermutation ys ((failing lost ++ failing mid) ++ others)) (append_assoc front (failing rest) others)
            (IsPermutation-append_left others (front ++ failing rest) (failing lost ++ failing mid) failed))
            (IsPermutation-sym (lost ++ mid) ((failing lost ++ failing mid) ++ others)
            (subst (λ (ys : List X). IsPermutation (lost ++ mid) ys)
            (ap (λ (ys : List X). ys ++ passing (lost ++ mid)) (flat_map-append (λ y. one_out (test y) y) lost mid)
            ∙ ap (λ (ys : List X). (failing lost ++ failing mid) ++ ys) (flat_map-append (λ y. one_in (test y) y) lost mid)) (parted (lost ++ mid)))),
      ),
    )
