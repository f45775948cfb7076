-- What is there when connections end, and when one is put into a slab or taken out.
use Rattle.std.proofs.Common.{◌≡◌, ℕ, zero, suc, List, [], ◌∷◌, ◌++◌, Option, Some, None, is_some, cond, count_by, length, slice_index_or, slice_set, IsPermutation, Result, Ok, Err, IfOk, OnErr, inl}
use Rattle.std.proofs.Common.{inr, refl, sym, subst, ap, ◌∙◌, append_assoc, append-nil, arith, get_or-set_other}
use Rattle.std.proofs.lemmas.Bool.{cases_eq}
use Rattle.std.proofs.lemmas.List.Sums.{sum_by-cons}
use Rattle.std.proofs.lemmas.List.Sorted.{IsPermutation-refl, IsPermutation-sym, IsPermutation-trans, IsPermutation-cons, IsPermutation-append_left, IsPermutation-append_right}
use Rattle.std.proofs.lemmas.List.Sorted.{IsPermutation-append_comm, IsPermutation-middle}
use Rattle.slab.specs.Slab.{Slab, get, slab_len, Updates}
use Rattle.bike_http_connections.specs.Ahead.{Loses, open_in}

module _ {X : Type 0} where
  -- what is lost is moved past what stays
  pub past : (xs ys zs : List X) → IsPermutation (xs ++ (ys ++ zs)) (ys ++ (xs ++ zs))
  past xs ys zs =
      subst (λ (l : List X). IsPermutation l (ys ++ (xs ++ zs))) (append_assoc xs ys zs)
      (subst (λ (l : List X). IsPermutation ((xs ++ ys) ++ zs) l) (append_assoc ys xs zs)
      (IsPermutation-append_left zs (xs ++ ys) (ys ++ xs) (IsPermutation-append_comm xs ys)))

  -- a step that ends none, one step after another, and those at the front that end
  pub loses_none : (xs : List X) → Loses xs xs
  loses_none xs = ([], IsPermutation-refl xs)

  pub loses_then : (a b c : List X) → Loses a b → Loses b c → Loses a c
  loses_then a b c p q = (
    p.0 ++ q.0,
    subst (λ (l : List X). IsPermutation a l) (sym (append_assoc p.0 q.0 c))
        (IsPermutation-trans a (p.0 ++ b) (p.0 ++ (q.0 ++ c)) p.1 (IsPermutation-append_right p.0 b (q.0 ++ c) q.1)),
  )

  pub loses_front : (xs ys : List X) → Loses (xs ++ ys) ys
  loses_front xs ys = (xs, IsPermutation-refl (xs ++ ys))

  pub loses_all : (xs : List X) → Loses xs []
  loses_all xs = subst (λ (ys : List X). Loses ys []) (append-nil xs) (loses_front xs [])

  -- others that are there too are there still, whichever side they stand on
  pub loses_behind : (xs a b : List X) → Loses a b → Loses (xs ++ a) (xs ++ b)
  loses_behind xs a b p = (
    p.0,
    IsPermutation-trans (xs ++ a) (xs ++ (p.0 ++ b)) (p.0 ++ (xs ++ b)) (IsPermutation-append_right xs a (p.0 ++ b) p.1) (past xs p.0 b),
  )

  pub loses_before : (xs a b : List X) → Loses a b → Loses (a ++ xs) (b ++ xs)
  loses_before xs a b p = (
    p.0,
    subst (λ (l : List X). IsPermutation (a ++ xs) l) (append_assoc p.0 b xs) (IsPermutation-append_left xs a (p.0 ++ b) p.1),
  )

  -- in another order none is lost, since the order doesn't matter
  pub loses_moved : (a b : List X) → IsPermutation a b → Loses a b
  loses_moved a b moved = ([], moved)

  pub loses_one : (xs ys : List X) (c : X) → Loses (xs ++ c ∷ ys) (c ∷ xs ++ ys)
  loses_one xs ys c = loses_moved (xs ++ c ∷ ys) (c ∷ xs ++ ys) (IsPermutation-middle xs c ys)

  -- a slot that is emptied: what was in it stands before the rest
  pub taken_out : (slots : List (Option X)) (key : ℕ) (x : X) → slice_index_or slots key None ≡ Some x
      → IsPermutation (open_in slots) (x ∷ open_in (slice_set slots key None))
  taken_out [] key x is = absurd (cc)
  taken_out (None ∷ slots) zero x is = absurd (cc)
  taken_out (Some y ∷ slots) zero x is =
      let same : y ≡ x = cc in
      subst (λ (z : X). IsPermutation (y ∷ open_in slots) (z ∷ open_in slots)) same (IsPermutation-refl (y ∷ open_in slots))
  taken_out (None ∷ slots) (suc key) x is = taken_out slots key x is
  taken_out (Some y ∷ slots) (suc key) x is =
      let rest = open_in (slice_set slots key None) in
      IsPermutation-trans (y ∷ open_in slots) (y ∷ (x ∷ rest)) (x ∷ (y ∷ rest))
      (IsPermutation-cons y (open_in slots) (x ∷ rest) (taken_out slots key x is)) (past (y ∷ []) (x ∷ []) rest)

  -- what is there depends on what is found at each key alone, and not on how many empty slots there are
  pub nothing_found : (slots : List (Option X)) → ((k : ℕ) → slice_index_or slots k None ≡ None) → open_in slots ≡ []
  nothing_found [] none = refl
  nothing_found (None ∷ slots) none = nothing_found slots (λ k. none (suc k))
  nothing_found (Some x ∷ slots) none = absurd (let at : Some x ≡ None = none zero in cc)

  same_found : (a b : List (Option X)) → ((k : ℕ) → slice_index_or a k None ≡ slice_index_or b k None) → open_in a ≡ open_in b
  same_found [] b same = sym (nothing_found b (λ k. sym (same k)))
  same_found (x ∷ a) [] same = nothing_found (x ∷ a) same
  same_found (None ∷ a) (None ∷ b) same = same_found a b (λ k. same (suc k))
  same_found (None ∷ a) (Some y ∷ b) same = absurd (let at : None ≡ Some y = same zero in cc)
  same_found (Some x ∷ a) (None ∷ b) same = absurd (let at : Some x ≡ None = same zero in cc)
  same_found (Some x ∷ a) (Some y ∷ b) same =
      let at : Some x ≡ Some y = same zero in
      let first : x ≡ y = cc in
      let rest : open_in a ≡ open_in b = same_found a b (λ k. same (suc k)) in
      ap (λ (z : X). z ∷ open_in a) first ∙ ap (λ (l : List X). y ∷ l) rest

  -- a key that is new: what is in its slot joins the rest
  emptied : (slots : List (Option X)) (key : ℕ) → slice_index_or (slice_set slots key None) key None ≡ None
  emptied [] key = refl
  emptied (slot ∷ slots) zero = refl
  emptied (slot ∷ slots) (suc key) = emptied slots key

  as_before : (old new : Slab X) (key : ℕ) (x : X) → get old key ≡ None → Updates old new key (Some x)
      → (k : ℕ) → slice_index_or old.slots k None ≡ slice_index_or (slice_set new.slots key None) k None
  as_before old new key x vacant updates k =
      elim (cases_eq k key) [
        | inl same ↦ ap (get old) same ∙ vacant ∙ sym (ap (λ (j : ℕ). slice_index_or (slice_set new.slots key None) j None) same ∙ emptied new.slots key)
        | inr differs ↦ sym (get_or-set_other new.slots key k None None differs ∙ updates.others k differs)
      ]

  pub put_in : (old new : Slab X) (key : ℕ) (x : X) → get old key ≡ None → Updates old new key (Some x)
      → IsPermutation (x ∷ open_in old.slots) (open_in new.slots)
  put_in old new key x vacant updates =
      subst (λ (l : List X). IsPermutation (x ∷ l) (open_in new.slots))
      (sym (same_found old.slots (slice_set new.slots key None) (as_before old new key x vacant updates)))
      (IsPermutation-sym (open_in new.slots) (x ∷ open_in (slice_set new.slots key None)) (taken_out new.slots key x updates.changed))

  -- where no key has a value, none is there
  none_in : (slots : List (Option X)) → count_by is_some slots ≡ 0 → open_in slots ≡ []
  none_in [] none = refl
  none_in (None ∷ slots) none = none_in slots (omega (arith, none, sum_by-cons (λ o. cond (is_some o) 1 0) None slots))
  none_in (Some x ∷ slots) none = absurd (omega (arith, none, sum_by-cons (λ o. cond (is_some o) 1 0) (Some x) slots))

  -- as many are there as keys have a value
  many_in : (slots : List (Option X)) → count_by is_some slots ≡ length (open_in slots)
  many_in [] = refl
  many_in (None ∷ slots) = omega (arith, many_in slots, sum_by-cons (λ o. cond (is_some o) 1 0) None slots)
  many_in (Some x ∷ slots) = omega (arith, many_in slots, sum_by-cons (λ o. cond (is_some o) 1 0) (Some x) slots)

  pub as_many : (s : Slab X) (seen : List X) → open_in s.slots ≡ seen → slab_len s ≡ length seen
  as_many s seen is = many_in s.slots ∙ ap (λ (xs : List X). length xs) is

  -- ---- a slab that gives one out, or takes one in, as it is seen

  pub taken_from : (old new : Slab X) (key : ℕ) (x : X) (seen : List X) → open_in old.slots ≡ seen
      → Some x ≡ get old key → new.slots ≡ slice_set old.slots key None → Loses seen (x ∷ open_in new.slots)
  taken_from old new key x seen is found set =
      subst (λ (xs : List X). Loses xs (x ∷ open_in new.slots)) is
      (subst (λ (s : List (Option X)). Loses (open_in old.slots) (x ∷ open_in s)) (sym set)
      (loses_moved (open_in old.slots) (x ∷ open_in (slice_set old.slots key None)) (taken_out old.slots key x (sym found))))

  pub put_back : {F : Type 0} (told : Result ℕ F) (old new : Slab X) (x : X) (seen : List X) → open_in old.slots ≡ seen
      → IfOk told (λ key. get old key ≡ None) → IfOk told (λ key. Updates old new key (Some x)) → OnErr told (new ≡ record old { capacity = new.capacity })
      → Loses (x ∷ seen) (open_in new.slots)
  put_back {F} (Ok key) old new x seen is free updates full =
      subst (λ (xs : List X). Loses (x ∷ xs) (open_in new.slots)) is
      (loses_moved (x ∷ open_in old.slots) (open_in new.slots) (put_in old new key x free updates))
  put_back {F} (Err fault) old new x seen is free updates full =
      subst (λ (s : Slab X). Loses (x ∷ seen) (open_in s.slots)) (sym full)
      (subst (λ (xs : List X). Loses (x ∷ xs) (open_in old.slots)) is (loses_front (x ∷ []) (open_in old.slots)))

  pub nobody : (s : Slab X) (seen : List X) → open_in s.slots ≡ seen → slab_len s ≡ 0 → seen ≡ []
  nobody s seen is none = sym is ∙ none_in s.slots none

  -- one step after another, where what is left of the first is seen again
  pub loses_via : (old middle seen new : List X) → seen ≡ middle → Loses old middle → Loses seen new → Loses old new
  loses_via old middle seen new is first next = loses_then old middle new first (subst (λ (xs : List X). Loses xs new) is next)

  -- one is taken out, and put back or ends
  pub back_again : (old middle seen new : List X) (x y : X) → seen ≡ middle → y ≡ x → Loses old (x ∷ middle) → Loses (y ∷ seen) new → Loses old new
  back_again old middle seen new x y is same out back =
      loses_then old (x ∷ middle) new out
      (subst (λ (z : X). Loses (z ∷ middle) new) same (subst (λ (xs : List X). Loses (y ∷ xs) new) is back))

  pub ends_there : (old new : List X) (x : X) → Loses old (x ∷ new) → Loses old new
  ends_there old new x out = loses_then old (x ∷ new) new out (loses_front (x ∷ []) new)
