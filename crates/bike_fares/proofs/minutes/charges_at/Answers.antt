use Rattle.std.proofs.Common.{arith, take, ◌≡◌, ◌+◌, ◌++◌, ◌∷◌, [], ap, sym, ◌∙◌}
use Rattle.std.proofs.lemmas.Int.{ints}
use Rattle.std.proofs.lemmas.List.{take_more}
use Rattle.bike_fares.specs.Pricing.{per_min_pricing}
use Rattle.bike_fares.proofs.SumLemmas.{per_min_pricing-append}
use Rattle.bike_fares.proofs.minutes.charges_at.Goals as goal

pub loop-segment-preserved : goal.loop-segment-preserved
loop-segment-preserved c = record {
  value =
      let segments = c.args.segments.now in
      let index = c.loop-segment.segment-index in
      let item = c.segment-item.result in
      let next : take (index + 1) segments ≡ take index segments ++ item ∷ [] =
      take_more segments index item c.loop-segment-test.true ∙ ap (λ s. take index segments ++ s ∷ []) (sym c.segment-item.is) in
      let more = ap (λ ss. per_min_pricing ss c.args.minute) next ∙ per_min_pricing-append (take index segments) item c.args.minute in
      let added = c.segment_charge-total.ensures.value in
      let before = c.loop-segment.invariant.value in
      omega (arith, ints, added, before, more);
  low = omega (arith, ints);
  high = omega (arith, ints);
}
