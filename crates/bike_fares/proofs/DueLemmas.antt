-- The test of a segment's minutes, and what it says in words.
use Rattle.std.proofs.Common.{◌≡◌, ℕ, ◌+◌, ◌-◌, ◌*◌, ◌/◌, ◌%◌, ◌<◌, ◌≤◌, Bool, true, false, eqb, leb, ltb, ◌||◌, refl, ap, ◌∙◌, arith, inl, inr, ◌⊎◌}
use Rattle.std.proofs.lemmas.Bool.{cases_lt, le-leb, leb-true, and_from, and_parts}
use Rattle.std.proofs.lemmas.Bool.Decides.{eqb_tells}
use Rattle.std.proofs.Math.Nat.{mul-mod_left}
use Rattle.bike_fares.specs.Pricing.{is_due, IsDue, IsRepeat}

either_true : (a b : Bool) → (a || b) ≡ true → (a ≡ true) ⊎ (b ≡ true)
either_true true b e = inl refl
either_true false b e = inr e

first_true : (a b : Bool) → a ≡ true → (a || b) ≡ true
first_true true b e = refl
first_true false b e = absurd cc

second_true : (a b : Bool) → b ≡ true → (a || b) ≡ true
second_true true b e = refl
second_true false b e = e

eqb-same : (a b : ℕ) → a ≡ b → eqb a b ≡ true
eqb-same a b e = elim (eqb_tells a b) [ inl w ↦ w.0 | inr w ↦ absurd (w.1 e) ]

eqb-true : (a b : ℕ) → eqb a b ≡ true → a ≡ b
eqb-true a b e = elim (eqb_tells a b) [ inl w ↦ w.1 | inr w ↦ let no = w.0 in absurd cc ]

pub is_due-from : (start interval minute : ℕ) → IsDue start interval minute → is_due start interval minute ≡ true
is_due-from start interval minute (inl at_start) =
    and_from _ _ (le-leb start minute (omega arith)) (first_true (eqb minute start) _ (eqb-same minute start at_start))
is_due-from start interval minute (inr r) =
    let is = r.is in
    let positive = r.repeats in
    let rest : minute - start ≡ r.times * interval = omega (arith, is) in
    let whole : (minute - start) % interval ≡ 0 = ap (λ (n : ℕ). n % interval) rest ∙ mul-mod_left r.times interval in
    and_from _ _ (le-leb start minute (omega (arith, is)))
    (second_true (eqb minute start) _ (and_from _ _ (le-leb 1 interval (omega (arith, positive))) (eqb-same ((minute - start) % interval) 0 whole)))

repeat_from : (start interval minute : ℕ) → start ≤ minute → (minute ≡ start → ⊥) → 0 < interval → (minute - start) % interval ≡ 0 → IsRepeat start interval minute
repeat_from start interval minute le other positive whole =
    let times = (minute - start) / interval in
    let split : interval * times + (minute - start) % interval ≡ minute - start = omega arith in
    let is : minute ≡ start + times * interval = omega (arith, split, whole) in
    record {
      times = times;
      repeats = positive;
      later = elim (cases_lt 0 times) [
        | inl some ↦ some
        | inr none ↦
            let zero_times : times ≡ 0 = omega (arith, none) in
            let nothing : times * interval ≡ 0 = ap (λ (n : ℕ). n * interval) zero_times ∙ omega arith in
            absurd (other (omega (arith, is, nothing)))
      ];
      is = is;
    }

pub is_due-only : (start interval minute : ℕ) → is_due start interval minute ≡ true → IsDue start interval minute
is_due-only start interval minute due =
    let both = and_parts (leb start minute) _ due in
    let le : start ≤ minute = leb-true start minute both.0 in
    elim (eqb_tells minute start) [
      | inl same ↦ inl same.1
      | inr other ↦ elim (either_true (eqb minute start) _ both.1) [
        | inl same ↦ inl (eqb-true minute start same)
        | inr again ↦
            let parts = and_parts (ltb 0 interval) _ again in
            inr (repeat_from start interval minute le other.1 (leb-true 1 interval parts.0) (eqb-true ((minute - start) % interval) 0 parts.1))
      ]
    ]
