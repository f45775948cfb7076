use Rattle.std.proofs.Common.{◌<ℤ◌, pos, inl, inr, arith, rules}
use Rattle.std.proofs.lemmas.Bool.{false≢true}
use Rattle.jiff.proofs.SpanFacts.{signed_arith}
use Rattle.jiff.specs.Words.{epoch_day, plain_zone, read_whole}
use Rattle.bike_fixed.proofs.Begins.{year_bounds, no_rule}
use Rattle.bike_fixed.proofs.day.day_bounds.Goals as goal

pub returns-in_default-posix-clause-bad_zone : goal.returns-in_default-posix-clause-bad_zone
returns-in_default-posix-clause-bad_zone c = λ _. ((c.in-Some.date, c.in-Some.ensures.some), no_rule c.posix.result (read_whole c.args.zone.now) _ c.posix.ensures.succeeds c.in_default-posix.is)

pub begin_of-requires : goal.begin_of-requires
begin_of-requires c =
    let y = c.is_in_years.ensures.yes (search rules) in
    let b = year_bounds c.in-Some.date y.0 y.1 in
    (b.0, omega (arith, signed_arith, b.1))

pub begin_of-requires-2 : goal.begin_of-requires-2
begin_of-requires-2 c =
    let y = c.is_in_years.ensures.yes (search rules) in
    let b = year_bounds c.in-Some.date y.0 y.1 in
    let n = c.in-Ok-tomorrow.ensures.value in
    (omega (arith, signed_arith, b.0, n), omega (arith, signed_arith, b.1, n))

pub returns-clause-bounds : goal.returns-clause-bounds
returns-clause-bounds c = record {
  date = c.in-Some.date;
  named = c.in-Some.ensures.some;
  rule = plain_zone c.in-Ok.zone;
  read = c.in-Ok.ensures.value;
  in_years = c.is_in_years.ensures.yes (search rules);
  begins = c.in-Some-begin_of.ensures.begins;
  ends = rw (← c.in-Ok-tomorrow.ensures.value) c.in-Some-begin_of-2.ensures.begins;
}

pub returns-then-not-is_in_years-clause-out_of_range : goal.returns-then-not-is_in_years-clause-out_of_range
returns-then-not-is_in_years-clause-out_of_range c =
    λ _. record { date = c.in-Some.date; named = c.in-Some.ensures.some; rule = plain_zone c.in-Ok.zone; read = c.in-Ok.ensures.value; outside = inl (c.is_in_years.ensures.no (search rules)) }

pub returns-in_default-tomorrow-clause-out_of_range : goal.returns-in_default-tomorrow-clause-out_of_range
returns-in_default-tomorrow-clause-out_of_range c =
    let y = c.is_in_years.ensures.yes (search rules) in
    let b = year_bounds c.in-Some.date y.0 y.1 in
    let below : epoch_day c.in-Some.date <ℤ pos 2_932_896 = omega (arith, signed_arith, b.1) in
    absurd (false≢true (c.in_default-tomorrow.ensures.succeeds.1 below))

pub returns-in_default-begin_of-clause-out_of_range : goal.returns-in_default-begin_of-clause-out_of_range
returns-in_default-begin_of-clause-out_of_range c =
    λ _. record { date = c.in-Some.date; named = c.in-Some.ensures.some; rule = plain_zone c.in-Ok.zone; read = c.in-Ok.ensures.value; outside = inr (inl (c.in_default-begin_of.ensures.before)) }

pub returns-in_default-begin_of-2-clause-out_of_range : goal.returns-in_default-begin_of-2-clause-out_of_range
returns-in_default-begin_of-2-clause-out_of_range c =
    λ _. record {
      date = c.in-Some.date;
      named = c.in-Some.ensures.some;
      rule = plain_zone c.in-Ok.zone;
      read = c.in-Ok.ensures.value;
      outside = inr (inr (rw c.in-Ok-tomorrow.ensures.value at c.in_default-begin_of-2.ensures.before));
    }
