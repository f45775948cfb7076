-- The sum over the minutes is what division gives.
use Rattle.std.proofs.Common.{◌≡◌, ℕ, ℤ, zero, suc, ◌+◌, ◌*◌, ◌/◌, ◌≤◌, ◌+ℤ◌, ◌*ℤ◌, pos, min, List, [], ◌∷◌, ◌++◌, Bool, true, false, cond, leb, refl, sym, ap, ◌∙◌, arith, inl, inr}
use Rattle.std.proofs.lemmas.Bool.{cases_lt, le-leb, lt-leb}
use Rattle.std.proofs.lemmas.Int.{ints}
use Rattle.bike_fields.specs.Values.{SegmentRow}
use Rattle.bike_catalogue.specs.Rows.{PlanRow}
use Rattle.bike_fares.specs.Pricing.{is_charged, segment_charge, per_min_pricing, reached_charge, sum_below, cost_of}
use Rattle.bike_fares.specs.declared.elapsed.TheConstants.{LONGEST, MINUTES}
use Rattle.bike_fares.specs.Counting.{count_below, minutes_before, segment_total, segments_total}
use Rattle.bike_fares.proofs.CountLemmas.{one_if, count-suc_before, count-none}

times-one_more : (rate : ℤ) (count : ℕ) (more : Bool) → rate *ℤ pos (count + one_if more) ≡ rate *ℤ pos count +ℤ cond more rate (pos 0)
times-one_more rate count true = omega (arith, ints)
times-one_more rate count false = omega (arith, ints)

sum-segment_charge : (s : SegmentRow) (n : ℕ) → sum_below n (segment_charge s) ≡ segment_total s n
unfolding sum_below
sum-segment_charge s zero = sym (ap (λ (c : ℕ). s.rate *ℤ pos c) (count-none s.start s.interval s.end) ∙ omega (arith, ints))
sum-segment_charge s (suc n) =
    let before = sum-segment_charge s n in
    ap (λ z. z +ℤ segment_charge s n) before
    ∙ sym (ap (λ (c : ℕ). s.rate *ℤ pos c) (count-suc_before s.start s.interval n s.end)
    ∙ times-one_more s.rate (count_below s.start s.interval (minutes_before s.end n)) (is_charged s n))

sum-add : (f g : ℕ → ℤ) (n : ℕ) → sum_below n (λ m. f m +ℤ g m) ≡ sum_below n f +ℤ sum_below n g
unfolding sum_below
sum-add f g zero = refl
sum-add f g (suc n) = let before = sum-add f g n in omega (arith, ints, before)

sum-nothing : (n : ℕ) → sum_below n (λ m. pos 0) ≡ pos 0
unfolding sum_below
sum-nothing zero = refl
sum-nothing (suc n) = let before = sum-nothing n in omega (arith, ints, before)

sum-per_min_pricing : (ss : List SegmentRow) (n : ℕ) → sum_below n (per_min_pricing ss) ≡ segments_total ss n
sum-per_min_pricing [] n = sum-nothing n
sum-per_min_pricing (s ∷ ss) n =
    sum-add (segment_charge s) (per_min_pricing ss) n
    ∙ ap (λ z. z +ℤ sum_below n (per_min_pricing ss)) (sum-segment_charge s n)
    ∙ ap (λ z. segment_total s n +ℤ z) (sum-per_min_pricing ss n)

-- the minutes that were reached are the first ones
sum-reached_charge : (ss : List SegmentRow) (seconds n : ℕ) → sum_below n (reached_charge ss seconds) ≡ sum_below (min n (seconds / 60 + 1)) (per_min_pricing ss)
unfolding sum_below
sum-reached_charge ss seconds zero = let none : min 0 (seconds / 60 + 1) ≡ 0 = omega arith in rw none refl
sum-reached_charge ss seconds (suc n) = step (sum-reached_charge ss seconds n) where
  step : sum_below n (reached_charge ss seconds) ≡ sum_below (min n (seconds / 60 + 1)) (per_min_pricing ss)
      → sum_below n (reached_charge ss seconds) +ℤ reached_charge ss seconds n ≡ sum_below (min (suc n) (seconds / 60 + 1)) (per_min_pricing ss)
  step before = elim (cases_lt seconds (60 * n)) [
    | inl missed ↦
        let no : leb (60 * n) seconds ≡ false = lt-leb _ _ missed in
        let same : min (suc n) (seconds / 60 + 1) ≡ min n (seconds / 60 + 1) = omega arith in
        rw (no, same) (omega (arith, ints, before))
    | inr reached ↦
        let yes : leb (60 * n) seconds ≡ true = le-leb _ _ reached in
        let next : min (suc n) (seconds / 60 + 1) ≡ suc n = omega arith in
        let now : min n (seconds / 60 + 1) ≡ n = omega arith in
        let all = rw now at before in
        rw (yes, next) (ap (λ z. z +ℤ per_min_pricing ss n) all)
  ]

-- the cost by division
pub cost_of-division : (plan : PlanRow) (seconds : ℕ) → seconds ≤ LONGEST → cost_of plan seconds ≡ pos plan.price +ℤ segments_total plan.segments (seconds / 60 + 1)
cost_of-division plan seconds within =
    let reached : min MINUTES (seconds / 60 + 1) ≡ seconds / 60 + 1 = omega arith in
    ap (λ z. pos plan.price +ℤ z) (sum-reached_charge plan.segments seconds MINUTES ∙ rw reached (sum-per_min_pricing plan.segments (seconds / 60 + 1)))

-- one segment more, at the end of the list
pub segments_total-append : (ss : List SegmentRow) (s : SegmentRow) (n : ℕ) → segments_total (ss ++ s ∷ []) n ≡ segments_total ss n +ℤ segment_total s n
segments_total-append [] s n = omega (arith, ints)
segments_total-append (x ∷ ss) s n = let more = segments_total-append ss s n in omega (arith, ints, more)

pub per_min_pricing-append : (ss : List SegmentRow) (s : SegmentRow) (n : ℕ) → per_min_pricing (ss ++ s ∷ []) n ≡ per_min_pricing ss n +ℤ segment_charge s n
per_min_pricing-append [] s n = omega (arith, ints)
per_min_pricing-append (x ∷ ss) s n = let more = per_min_pricing-append ss s n in omega (arith, ints, more)

-- one minute more
pub sum_below-next : (n : ℕ) (f : ℕ → ℤ) → sum_below (n + 1) f ≡ sum_below n f +ℤ f n
unfolding sum_below
sum_below-next n f = let next : n + 1 ≡ suc n = omega arith in ap (λ (k : ℕ). sum_below k f) next

pub sum_below-none : (f : ℕ → ℤ) → sum_below 0 f ≡ pos 0
unfolding sum_below
sum_below-none f = refl
