-- What one more line does to what a judge says.
use Rattle.std.proofs.Common.{◌≡◌, ℕ, suc, List, [], ◌∷◌, Bool, true, false, cond, Option, Some, None, option_map, refl, sym, ap, ◌∙◌}
use Rattle.std.specs.Prelude.{take}
use Rattle.sqlite_value.specs.Order.{Row}
use Rattle.bike_judges.specs.declared.key.BadKey.{BadKey}
use Rattle.bike_judges.specs.declared.pass.Opening.{Opening}
use Rattle.bike_judges.specs.declared.pass.Opening.TheVariants.{Head, Unread, Item}
use Rattle.bike_judges.specs.Judging.{Continues, key_row}
use Rattle.bike_judges.specs.Passes.{first_failing, pass, pass_line, closed, count_closed}
use Rattle.bike_judges.specs.Closing.{Closes}

-- ---- each line by itself

module _ (test : ℕ → Row → Bool) (key : Row → Row) (n : ℕ) (x : Row) (left : List Row) (verdict : Option Row) (is : first_failing test key n (x ∷ left) ≡ verdict) where
  pub good_line : test n x ≡ true → first_failing test key (suc n) left ≡ verdict
  unfolding first_failing
  good_line good = ap (λ (b : Bool). cond b (first_failing test key (suc n) left) (Some (key x))) (sym good) ∙ is

  pub bad_line : test n x ≡ false → verdict ≡ Some (key x)
  unfolding first_failing
  bad_line bad = sym is ∙ ap (λ (b : Bool). cond b (first_failing test key (suc n) left) (Some (key x))) bad

pub no_line : (test : ℕ → Row → Bool) (key : Row → Row) (n : ℕ) → first_failing test key n [] ≡ None
unfolding first_failing
no_line test key n = refl

-- ---- stretches

module _ {A : Type 0} (begins : Row → Opening A) (more : A → Row → A) (good : ℕ → A → Bool) (key : A → Row) where
  abbrev run : Option A → ℕ → List Row → Option Row
  run = pass begins more good key (take 1)

  abbrev close : Option A → ℕ → Option Row → Option Row
  close = closed begins more good key (take 1)

  abbrev line_of : Option A → ℕ → Row → Opening A → List Row → Option Row
  line_of account n x o left = pass_line begins more good key (take 1) account n x o (λ other m. run other m left)

  cons : (account : Option A) (n : ℕ) (x : Row) (left : List Row) (o : Opening A) → begins x ≡ o → run account n (x ∷ left) ≡ line_of account n x o left
  unfolding pass
  cons account n x left o e = ap (λ (p : Opening A). line_of account n x p left) e

  found_good : (account : Option A) (n m : ℕ) (next : Option Row) → Closes good key account n m None → close account n next ≡ next
  found_good None n m next it = refl
  found_good (Some a) n m next it = ap (λ (b : Bool). cond b next (Some (key a))) it.0

  counted : (account : Option A) (n m : ℕ) → Closes good key account n m None → count_closed begins more good key (take 1) account n ≡ m
  counted None n m it = sym it
  counted (Some a) n m it = sym it.1

  found_bad : (account : Option A) (n m : ℕ) (k : BadKey) (next : Option Row) → Closes good key account n m (Some k) → close account n next ≡ Some (key_row k)
  found_bad None n m k next it = absurd it
  found_bad (Some a) n m k next it = ap (λ (b : Bool). cond b next (Some (key a))) it.0 ∙ ap (λ (r : Row). Some r) (sym it.1)

  module _ {J : Type 0} (says : J → List Row → Option Row → Type 0) (j : J) (account : Option A) (n : ℕ) (x : Row) (left : List Row) (verdict : Option Row)
      (is : run account n (x ∷ left) ≡ verdict) where
    -- a head opens an account behind the one that it closes
    pub head_line : (a : A) (m : ℕ) (found : Option BadKey) → begins x ≡ Head a → Closes good key account n m found → (run (Some a) m left ≡ verdict → says j left verdict)
        → Continues says j left verdict found
    head_line a m None e it says_so =
        says_so (ap (λ (k : ℕ). run (Some a) k left) (sym (counted account n m it))
        ∙ sym (found_good account n m (run (Some a) (count_closed begins more good key (take 1) account n) left) it) ∙ sym (cons account n x left (Head a) e) ∙ is)
    head_line a m (Some k) e it says_so =
        sym is ∙ cons account n x left (Head a) e ∙ found_bad account n m k (run (Some a) (count_closed begins more good key (take 1) account n) left) it

    -- a head that spells nothing, behind an account that is bad
    pub unread_line : (m : ℕ) (found : Option BadKey) → begins x ≡ Unread → Closes good key account n m found → (found ≡ None → ⊥) → Continues says j left verdict found
    unread_line m None e it some = absurd (some refl)
    unread_line m (Some k) e it some = sym is ∙ cons account n x left Unread e ∙ found_bad account n m k (Some (take 1 x)) it

  module _ (account : Option A) (n : ℕ) (x : Row) (left : List Row) (verdict : Option Row) (is : run account n (x ∷ left) ≡ verdict) where
    pub unread_good : (m : ℕ) → begins x ≡ Unread → Closes good key account n m None → verdict ≡ Some (take 1 x)
    unread_good m e it = sym is ∙ cons account n x left Unread e ∙ found_good account n m (Some (take 1 x)) it

    pub item_line : begins x ≡ Item → run (option_map (λ a. more a x) account) n left ≡ verdict
    item_line e = sym (cons account n x left Item e) ∙ is

  -- no line is left
  module _ (account : Option A) (n : ℕ) (verdict : Option Row) (is : run account n [] ≡ verdict) where
    at_end : close account n None ≡ verdict
    unfolding pass
    at_end = is

    pub end_none : account ≡ None → None ≡ verdict
    end_none e = ap (λ (o : Option A). close o n None) (sym e) ∙ at_end

    pub end_good : (a : A) → account ≡ Some a → good n a ≡ true → None ≡ verdict
    end_good a e it = ap (λ (b : Bool). cond b None (Some (key a))) (sym it) ∙ ap (λ (o : Option A). close o n None) (sym e) ∙ at_end

    pub end_bad : (a : A) → account ≡ Some a → good n a ≡ false → Some (key a) ≡ verdict
    end_bad a e bad = ap (λ (b : Bool). cond b None (Some (key a))) (sym bad) ∙ ap (λ (o : Option A). close o n None) (sym e) ∙ at_end
