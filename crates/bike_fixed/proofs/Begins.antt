-- The arithmetic of a midnight's instant, and the years that have bounds.
use Rattle.std.proofs.Common.{◌≡◌, ℕ, ℤ, pos, ◌*ℤ◌, ◌+ℤ◌, ◌-ℤ◌, ◌<ℤ◌, ◌≤ℤ◌, ◌*◌, ◌/◌, ◌≤◌, arith, lit≤, refl, sym, ap, ◌∙◌, true, false, Result, Ok, Err, Option, Some, None, IsOk, IsSome, ◌↔◌, inl}
use Rattle.std.proofs.Common.{leb}
use Rattle.std.proofs.lemmas.Bool.Decides.{nat_tests}
use Rattle.std.specs.Prelude.{unsigned_abs, negsuc, int_lt, if◌then◌else◌}
use Rattle.std.specs.Result.{result_ok, is_ok}
use Rattle.std.proofs.lemmas.Bool.{false≢true}
use Rattle.std.proofs.lemmas.Int.{ints}
use Rattle.jiff.proofs.SpanFacts.{signed_arith}
use Rattle.jiff.proofs.Family.{civil_nanos-parts, epoch_day-lt, epoch_day-ordinal, days_from_civil-max}
use Rattle.jiff_core.proofs.StandardFacts.{known_days}
use Rattle.jiff_core.specs.Calendar.{days_of_months, days_from_civil}
use Rattle.jiff.specs.Words.{ordinal, IsTimestampNanos, IsOffsetSeconds, compatible_offset, epoch_day, time_nanos, civil_nanos, instant_of, ambiguous_at, IsInstantAt, Error}
use Rattle.jiff.specs.Types.{AmbiguousOffset, Unambiguous, Gap, Fold, Date, DateTime, Offset, TimeZone, Timestamp}
use Rattle.bike_fixed.specs.Day.{IsCovered, BeginsAt, midnight_offset}
use Rattle.bike_fixed.specs.Whole.{last_moment}

same_offset : (a : AmbiguousOffset) → compatible_offset a ≡ midnight_offset a
same_offset (Unambiguous o) = refl
same_offset (Gap a b) = refl
same_offset (Fold a b) = refl

instant_covered : (e o n : ℤ) → n ≡ (e *ℤ pos 86_400_000_000_000 +ℤ pos 0) -ℤ (o *ℤ pos 1_000_000_000) → IsCovered e → IsOffsetSeconds o → IsTimestampNanos n
instant_covered e o n i h f = (omega (arith, signed_arith), omega (arith, signed_arith))

no_instant : {T E : Type 0} (r : Result T E) (P : Type 0) → (IsOk r ↔ P) → result_ok r ≡ None → P → ⊥
no_instant (Ok x) P s e p = cc
no_instant (Err x) P s e p = let h : false ≡ true = s.1 p in cc

some_instant : {T E : Type 0} (r : Result T E) (t : T) → result_ok r ≡ Some t → r ≡ Ok t
some_instant (Ok x) t e = cc
some_instant (Err x) t e = cc

-- a midnight's instant is a whole number of seconds
whole_seconds : (e o n : ℤ) (k : ℕ) → n ≡ (e *ℤ pos 86_400_000_000_000 +ℤ pos 0) -ℤ (o *ℤ pos 1_000_000_000) → n ≡ pos k → pos (k / 1_000_000_000 * 1_000_000_000) ≡ n
whole_seconds e o n k i j = omega (arith, signed_arith)

few_seconds : (e o n : ℤ) (k : ℕ) → n ≡ (e *ℤ pos 86_400_000_000_000 +ℤ pos 0) -ℤ (o *ℤ pos 1_000_000_000) → IsCovered e → IsOffsetSeconds o → n ≡ pos k → k / 1_000_000_000 ≤ last_moment
few_seconds e o n k i h f j = omega (arith, signed_arith)

midnight_instant : (date : Date) (dt : DateTime) (o : Offset) → dt.date ≡ date → time_nanos dt.time ≡ 0
    → instant_of dt o ≡ (epoch_day date *ℤ pos 86_400_000_000_000 +ℤ pos 0) -ℤ (o.seconds *ℤ pos 1_000_000_000)
midnight_instant date dt o d z =
    let c : civil_nanos dt ≡ epoch_day date *ℤ pos 86_400_000_000_000 +ℤ pos 0 = civil_nanos-parts dt ∙ (ap (λ x. epoch_day x *ℤ pos 86_400_000_000_000 +ℤ pos (time_nanos dt.time)) d ∙ ap (λ n. epoch_day date *ℤ pos 86_400_000_000_000 +ℤ pos n) z) in
    ap (λ x. x -ℤ (o.seconds *ℤ pos 1_000_000_000)) c

module _ (tz : TimeZone) (date : Date) (dt adt : DateTime) (amb : AmbiguousOffset) (r : Result Timestamp Error) (d : dt.date ≡ date) (z : time_nanos dt.time ≡ 0) (a : adt ≡ dt)
    (m : amb ≡ ambiguous_at tz dt) (at : IsInstantAt adt (compatible_offset amb) r) where
  chosen : IsInstantAt dt (midnight_offset (ambiguous_at tz dt)) r
  chosen = rw (a, m, same_offset (ambiguous_at tz dt)) at at

  pub is_instant : IsCovered (epoch_day date) → result_ok r ≡ None → ⊥
  is_instant h none =
      let o = midnight_offset (ambiguous_at tz dt) in
      no_instant r _ chosen.succeeds none (instant_covered (epoch_day date) o.seconds _ (midnight_instant date dt o d z) h o.in_range)

  pub begins_at : (t : Timestamp) → result_ok r ≡ Some t → BeginsAt tz (epoch_day date) t.nanosecond
  begins_at t some =
      let v = rw (some_instant r t some) at chosen.value in
      record { midnight = dt; on_day = ap epoch_day d; at_zero = z; instant = v }

  nanos_are : (t : Timestamp) → result_ok r ≡ Some t → t.nanosecond ≡ (epoch_day date *ℤ pos 86_400_000_000_000 +ℤ pos 0) -ℤ ((midnight_offset (ambiguous_at tz dt)).seconds *ℤ pos 1_000_000_000)
  nanos_are t some =
      let o = midnight_offset (ambiguous_at tz dt) in
      let v : t.nanosecond ≡ instant_of dt o = rw (some_instant r t some) at chosen.value in
      v ∙ midnight_instant date dt o d z

  pub begins_second : (t : Timestamp) (k : ℕ) → result_ok r ≡ Some t → t.nanosecond ≡ pos k → BeginsAt tz (epoch_day date) (pos (k / 1_000_000_000 * 1_000_000_000))
  begins_second t k some e =
      let o = midnight_offset (ambiguous_at tz dt) in
      rw (whole_seconds (epoch_day date) o.seconds t.nanosecond k (nanos_are t some) e) (begins_at t some)

  pub is_moment : IsCovered (epoch_day date) → (t : Timestamp) (k : ℕ) → result_ok r ≡ Some t → t.nanosecond ≡ pos k → k / 1_000_000_000 ≤ last_moment
  is_moment h t k some e =
      let o = midnight_offset (ambiguous_at tz dt) in
      few_seconds (epoch_day date) o.seconds t.nanosecond k (nanos_are t some) h o.in_range e

pub abs_is : (z : ℤ) (n : ℕ) → pos 0 ≤ℤ z → n ≡ unsigned_abs z → z ≡ pos n
abs_is (pos k) n h e = ap pos (sym e)
abs_is (negsuc k) n h e = absurd (omega (arith, signed_arith))

pub below_zero : (z : ℤ) → int_lt z (pos 0) ≡ true → z <ℤ pos 0
below_zero z h = grind (arith, ints)

pub not_below_zero : (z : ℤ) → int_lt z (pos 0) ≡ false → pos 0 ≤ℤ z
not_below_zero z h = grind (arith, ints)

-- ---- the years

eve_of_1970 : Date
eve_of_1970 = record { year = pos 1969; month = 12; day = 31; year_in = (Prim.search, Prim.search); month_in = (lit≤ tt, lit≤ tt); day_in = (lit≤ tt, lit≤ tt) }

first_of_9999 : Date
first_of_9999 = record { year = pos 9999; month = 1; day = 1; year_in = (Prim.search, Prim.search); month_in = (lit≤ tt, lit≤ tt); day_in = (lit≤ tt, lit≤ tt) }

last_of_9999 : Date
last_of_9999 = record { year = pos 9999; month = 12; day = 31; year_in = (Prim.search, Prim.search); month_in = (lit≤ tt, lit≤ tt); day_in = (lit≤ tt, lit≤ tt) }

days_of_9999 : ordinal last_of_9999 ≡ 365
unfolding last_of_9999 days_of_months
days_of_9999 = refl

begin_of_9999 : epoch_day first_of_9999 ≡ pos 2_932_532
unfolding last_of_9999 first_of_9999
begin_of_9999 =
    let e = epoch_day-ordinal last_of_9999 in
    let o : ordinal last_of_9999 ≡ 365 = days_of_9999 in
    let m : epoch_day last_of_9999 ≡ pos 2_932_896 = days_from_civil-max in
    let f : pos 2_932_896 +ℤ pos 1 ≡ days_from_civil (pos 9999) 1 1 +ℤ pos 365 = rw (m, o) at e in
    omega (arith, signed_arith)

pub year_bounds : (d : Date) → pos 1970 ≤ℤ d.year → d.year <ℤ pos 9999 → (pos 0 ≤ℤ epoch_day d) × (epoch_day d <ℤ pos 2_932_532)
unfolding eve_of_1970 first_of_9999
year_bounds d low high =
    let early : pos 1969 <ℤ d.year = omega (arith, signed_arith) in
    let a : epoch_day eve_of_1970 <ℤ epoch_day d = epoch_day-lt eve_of_1970 d (inl early) in
    let b : epoch_day d <ℤ epoch_day first_of_9999 = epoch_day-lt d first_of_9999 (inl high) in
    let k : epoch_day eve_of_1970 ≡ negsuc 0 = known_days.1 in
    let l = begin_of_9999 in
    (omega (arith, signed_arith), omega (arith, signed_arith))

pub no_rule : {T E X : Type 0} (r : Result T E) (o : Option X) (e : E) → (IsOk r ↔ IsSome o) → r ≡ Err e → o ≡ None
no_rule r None e h i = refl
no_rule r (Some x) e h i = let k : is_ok r ≡ true = h.1 refl in let m : false ≡ true = rw i at k in absurd (false≢true m)

pub is_made : (k : ℕ) (o : Option ℕ) → o ≡ (if leb k last_moment then Some k else None) → k ≤ last_moment → o ≡ Some k
is_made k o e h = let t : leb k last_moment ≡ true = grind (arith, nat_tests) in e ∙ rw t refl
