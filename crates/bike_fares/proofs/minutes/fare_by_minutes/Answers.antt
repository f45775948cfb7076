use Rattle.std.proofs.Common.{arith, ap, ◌∙◌}
use Rattle.std.proofs.lemmas.Int.{ints}
use Rattle.bike_fares.specs.Pricing.{reached_charge}
use Rattle.bike_fares.proofs.SumLemmas.{sum_below-next, sum_below-none}
use Rattle.bike_fares.proofs.minutes.fare_by_minutes.Goals as goal

pub loop-minute-init : goal.loop-minute-init
loop-minute-init c = record {
  value =
      let none = sum_below-none (reached_charge c.args.plan.now.segments c.elapsed_seconds-seconds.result) in
      omega (arith, ints, none);
  low = omega (arith, ints);
  high = omega (arith, ints);
}

pub loop-minute-preserved : goal.loop-minute-preserved
loop-minute-preserved c = record {
  value =
      let seconds = c.elapsed_seconds-seconds.result in
      let minute = c.loop-minute.minute in
      let next = sum_below-next minute (reached_charge c.args.plan.now.segments seconds) in
      let added = c.reached_charge-cost.ensures.value ∙ ap (λ ss. reached_charge ss seconds minute) c.segments.ensures.value in
      let before = c.loop-minute.invariant.value in
      omega (arith, ints, next, added, before);
  low = omega (arith, ints);
  high = omega (arith, ints);
}
