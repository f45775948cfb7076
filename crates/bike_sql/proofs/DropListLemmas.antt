-- What is found in a list from which some elements were taken.
use Rattle.std.proofs.Common.{◌≡◌, ℕ, zero, suc, ◌+◌, Bool, true, false, List, [], ◌∷◌, filter, find, slice_get, Some, None, option_map, unwrap_or, refl, ap, ◌∙◌, arith, inl, inr}
use Rattle.std.specs.List.{position_from, list_any}
use Rattle.std.proofs.lemmas.Bool.{cases_Bool, or_parts, or_from}
use Rattle.sqlite_rules.specs.Lists.{Has}
use Rattle.sqlite_rules.proofs.ListLemmas.{has_filtered}
use Rattle.sqlite_catalog.proofs.ListFacts.{none_placed}
use Rattle.bike_sql.proofs.RowListLemmas.{same_some}

module _ {X : Type 0} (p : X → Bool) where
  pub absent : (from : ℕ) (xs : List X) → ((x : X) → Has xs x → p x ≡ false) → position_from p from xs ≡ None
  absent from [] none = refl
  absent from (x ∷ xs) none = rw (none x (inl refl)) (absent (from + 1) xs (λ y h. none y (inr h)))

  -- what stands at the place that is found is what is found
  pub found_there : (base : ℕ) (xs : List X) (k : ℕ) (x : X) → position_from p base xs ≡ Some (base + k) → slice_get xs k ≡ Some x → p x ≡ true → find p xs ≡ Some x
  found_there base [] k x placed got passes = absurd (cc)
  found_there base (y ∷ xs) zero x placed got passes = let here : p y ≡ true = ap p (same_some got) ∙ passes in rw here got
  found_there base (y ∷ xs) (suc k) x placed got passes = elim (cases_Bool (p y)) [
    | inl hit ↦ absurd (let e : base ≡ base + suc k = same_some (rw hit at placed) in omega (arith, e))
    | inr miss ↦ rw miss (found_there (base + 1) xs k x ((rw miss at placed) ∙ ap Some (omega arith)) got passes)
  ]

  module _ (keep : X → Bool) where
    -- The first that passes a test is the first still, at some place, if it is kept.
    pub first_kept : (base later : ℕ) (xs : List X) (k : ℕ) (x : X) → position_from p base xs ≡ Some (base + k) → slice_get xs k ≡ Some x → p x ≡ true → keep x ≡ true
        → (at : ℕ) × (position_from p later (filter keep xs) ≡ Some (later + at)) × (slice_get (filter keep xs) at ≡ Some x)
    first_kept base later [] k x placed got passes kept = absurd (cc)
    first_kept base later (y ∷ xs) zero x placed got passes kept =
        let here : p y ≡ true = ap p (same_some got) ∙ passes in
        let stays : keep y ≡ true = ap keep (same_some got) ∙ kept in
        (0, rw (stays, here) (ap Some (omega arith)), rw stays got)
    first_kept base later (y ∷ xs) (suc k) x placed got passes kept = elim (cases_Bool (p y)) [
      | inl hit ↦ absurd (let e : base ≡ base + suc k = same_some (rw hit at placed) in omega (arith, e))
      | inr miss ↦
          let rest : position_from p (base + 1) xs ≡ Some (base + 1 + k) = (rw miss at placed) ∙ ap Some (omega arith) in
          elim (cases_Bool (keep y)) [
            | inl stays ↦ let it = first_kept (base + 1) (later + 1) xs k x rest got passes kept in (suc it.0, rw (stays, miss) (it.1 ∙ ap Some (omega arith)), rw stays it.2)
            | inr goes ↦ let it = first_kept (base + 1) later xs k x rest got passes kept in (it.0, rw goes it.1, rw goes it.2)
          ]
    ]

    -- what was found is found, if it is kept, and what was not found is not
    pub find_kept : (xs : List X) → unwrap_or (option_map keep (find p xs)) true ≡ true → find p (filter keep xs) ≡ find p xs
    find_kept [] kept = refl
    find_kept (y ∷ xs) kept = elim (cases_Bool (p y)) [
      | inl hit ↦ let stays : keep y ≡ true = rw hit at kept in rw (stays, hit)
      | inr miss ↦
          let rest = find_kept xs (rw miss at kept) in
          elim (cases_Bool (keep y)) [ inl stays ↦ rw (stays, miss) rest | inr goes ↦ rw (goes, miss) rest ]
    ]

    pub none_kept : (from later : ℕ) (xs : List X) → position_from p from xs ≡ None → position_from p later (filter keep xs) ≡ None
    none_kept from later xs none = absent later (filter keep xs) (λ x h. none_placed p xs from x none (has_filtered keep xs x h).0)

    -- what no element passes, none that is left passes
    pub any_kept : (xs : List X) → list_any p xs ≡ false → list_any p (filter keep xs) ≡ false
    any_kept [] none = refl
    any_kept (y ∷ xs) none =
        let parts = or_parts (p y) (list_any p xs) none in
        let rest = any_kept xs parts.1 in
        elim (cases_Bool (keep y)) [ inl stays ↦ rw stays (or_from (p y) (list_any p (filter keep xs)) parts.0 rest) | inr goes ↦ rw goes rest ]

module _ {X : Type 0} (p q r : X → Bool) (so : (x : X) → p x ≡ false → q x ≡ false → r x ≡ false) where
  -- what passes neither of two tests passes no third
  pub none_pass : (xs : List X) → list_any p xs ≡ false → list_any q xs ≡ false → list_any r xs ≡ false
  none_pass [] none no_other = refl
  none_pass (x ∷ xs) none no_other =
      let one = or_parts (p x) (list_any p xs) none in
      let other = or_parts (q x) (list_any q xs) no_other in
      or_from (r x) (list_any r xs) (so x one.0 other.0) (none_pass xs one.1 other.1)
