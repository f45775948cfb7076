-- One minute more, and what division counts.
use Rattle.std.proofs.Common.{◌≡◌, ◌≢◌, ℕ, suc, ◌+◌, ◌-◌, ◌*◌, ◌/◌, ◌%◌, ◌<◌, min, Bool, true, false, cond, eqb, leb, ltb, ◌&&◌, Option, Some, None, refl, sym, ap, ◌∙◌, arith, inl, inr, ◌⊎◌}
use Rattle.std.proofs.lemmas.Bool.{cases_lt, le-leb, lt-leb}
use Rattle.std.proofs.lemmas.Bool.Decides.{eqb_tells, nat_tests}
use Rattle.std.proofs.lemmas.Nat.{div-mul-add}
use Rattle.std.proofs.Math.Nat.{div-eq_of_lt, mul-mod_left, mul-add-mod_self_right, mod-eq_of_lt, mod-lt}
use Rattle.std.proofs.Math.Bool.{and-true}
use Rattle.bike_fares.specs.Pricing.{is_due, is_before_end}
use Rattle.bike_fares.specs.Counting.{count_below, minutes_before}

-- 1 where a test holds
abbrev pub one_if : Bool → ℕ
one_if b = cond b 1 0

-- the quotient grows by one where the next number is a multiple
div-suc : (n width : ℕ) → 0 < width → suc n / width ≡ n / width + one_if (eqb (suc n % width) 0)
div-suc n width positive =
    let within : n % width < width = mod-lt n positive in
    let split : width * (n / width) + n % width ≡ n = omega arith in
    elim (cases_lt (n % width + 1) width) [
      | inl more ↦
          let next : suc n ≡ (n / width) * width + (n % width + 1) = omega arith in
          let quotient : suc n / width ≡ n / width = ap (λ (x : ℕ). x / width) next ∙ div-mul-add (n / width) width (n % width + 1) more in
          let rest : suc n % width ≡ n % width + 1 = ap (λ (x : ℕ). x % width) next ∙ mul-add-mod_self_right (n / width) width (n % width + 1) ∙ mod-eq_of_lt more in
          let other : eqb (suc n % width) 0 ≡ false = rw rest (eqb-other (n % width + 1) 0 (λ e. omega arith)) in
          quotient ∙ rw other (omega arith)
      | inr full ↦
          let next : suc n ≡ (n / width + 1) * width + 0 = omega arith in
          let multiple : suc n ≡ (n / width + 1) * width = omega arith in
          let quotient : suc n / width ≡ n / width + 1 = ap (λ (x : ℕ). x / width) next ∙ div-mul-add (n / width + 1) width 0 positive in
          let rest : suc n % width ≡ 0 = ap (λ (x : ℕ). x % width) multiple ∙ mul-mod_left (n / width + 1) width in
          quotient ∙ rw rest refl
    ]
  where
    eqb-other : (a b : ℕ) → (a ≡ b → ⊥) → eqb a b ≡ false
    eqb-other a b other = elim (eqb_tells a b) [ inl w ↦ absurd (other w.1) | inr w ↦ w.0 ]

-- one minute more before the start, at the start, and after it
count-early : (start interval n : ℕ) → n < start → count_below start interval (suc n) ≡ count_below start interval n + one_if (is_due start interval n)
count-early start interval n early =
    let next : leb (suc n) start ≡ true = le-leb _ _ early in
    let now : leb n start ≡ true = le-leb _ _ (omega arith) in
    let none : leb start n ≡ false = lt-leb _ _ early in
    rw (next, now, none) refl

count-first : (start interval n : ℕ) → n ≡ start → count_below start interval (suc n) ≡ count_below start interval n + one_if (is_due start interval n)
count-first start interval n same =
    let next : leb (suc n) start ≡ false = lt-leb _ _ (omega arith) in
    let now : leb n start ≡ true = le-leb _ _ (omega arith) in
    let reached : leb start n ≡ true = le-leb _ _ (omega arith) in
    let at_start : eqb n start ≡ true = grind (arith, nat_tests) in
    let nothing : suc n - 1 - start ≡ 0 = omega arith in
    rw (next, now, reached, at_start, nothing) (once (eqb_tells interval 0))
  where
    once : ((eqb interval 0 ≡ true) × (interval ≡ 0)) ⊎ ((eqb interval 0 ≡ false) × (interval ≢ 0)) → cond (eqb interval 0) 1 (0 / interval + 1) ≡ 0 + 1
    once (inl w) = rw w.0 refl
    once (inr w) = let nothing : 0 / interval ≡ 0 = div-eq_of_lt (omega (arith, w.1)) in rw (w.0, nothing) refl

count-later : (start interval n : ℕ) → start < n → count_below start interval (suc n) ≡ count_below start interval n + one_if (is_due start interval n)
count-later start interval n later =
    let next : leb (suc n) start ≡ false = lt-leb _ _ (omega arith) in
    let now : leb n start ≡ false = lt-leb _ _ later in
    let reached : leb start n ≡ true = le-leb _ _ (omega arith) in
    let past_start : eqb n start ≡ false = grind (arith, nat_tests) in
    elim (eqb_tells interval 0) [
      | inl w ↦
          let never : ltb 0 interval ≡ false = grind (arith, nat_tests, w.1) in
          rw (next, now, reached, past_start, never, w.0) refl
      | inr w ↦
          let positive : 0 < interval = omega (arith, w.1) in
          let again : ltb 0 interval ≡ true = grind (arith, nat_tests) in
          let before : suc n - 1 - start ≡ suc (n - 1 - start) = omega arith in
          let since : n - start ≡ suc (n - 1 - start) = omega arith in
          let step = div-suc (n - 1 - start) interval positive in
          rw (next, now, reached, past_start, again, w.0, before, since) (omega (arith, step))
    ]

count-suc : (start interval n : ℕ) → count_below start interval (suc n) ≡ count_below start interval n + one_if (is_due start interval n)
count-suc start interval n = elim (cases_lt n start) [
  | inl early ↦ count-early start interval n early
  | inr reached ↦ elim (cases_lt start n) [
    | inl later ↦ count-later start interval n later
    | inr at_most ↦ count-first start interval n (omega (arith, reached, at_most))
  ]
]

and_none : (b : Bool) → (b && false) ≡ false
and_none true = refl
and_none false = refl

-- the same below a segment's end
pub count-suc_before : (start interval n : ℕ) (end : Option ℕ) → count_below start interval (minutes_before end (suc n))
    ≡ count_below start interval (minutes_before end n) + one_if (is_due start interval n && is_before_end end n)
count-suc_before start interval n None =
    count-suc start interval n ∙ ap (λ (b : Bool). count_below start interval n + one_if b) (sym (and-true (is_due start interval n)))
count-suc_before start interval n (Some end) = elim (cases_lt n end) [
  | inl early ↦
      let next : min (suc n) end ≡ suc n = omega arith in
      let now : min n end ≡ n = omega arith in
      let before : ltb n end ≡ true = le-leb _ _ early in
      rw (next, now, before) (count-suc start interval n ∙ ap (λ (b : Bool). count_below start interval n + one_if b) (sym (and-true (is_due start interval n))))
  | inr ended ↦
      let next : min (suc n) end ≡ end = omega arith in
      let now : min n end ≡ end = omega arith in
      let past : ltb n end ≡ false = grind (arith, nat_tests) in
      rw (next, now, past, and_none (is_due start interval n)) (omega arith)
]

-- no minute is below the first
pub count-none : (start interval : ℕ) (end : Option ℕ) → count_below start interval (minutes_before end 0) ≡ 0
count-none start interval None = let none : leb 0 start ≡ true = le-leb _ _ (omega arith) in rw none refl
count-none start interval (Some end) =
    let first : min 0 end ≡ 0 = omega arith in
    let none : leb 0 start ≡ true = le-leb _ _ (omega arith) in
    rw (first, none) refl
