use Rattle.std.proofs.Common.{arith, take, ◌≡◌, ◌+◌, ◌++◌, ◌∷◌, [], ap, sym, ◌∙◌}
use Rattle.std.proofs.lemmas.Int.{ints}
use Rattle.std.proofs.lemmas.List.{take_more}
use Rattle.bike_fares.specs.Counting.{segments_total}
use Rattle.bike_fares.proofs.SumLemmas.{segments_total-append}
use Rattle.bike_fares.proofs.pricing.segments_total.Goals as goal

pub loop-segment-preserved : goal.loop-segment-preserved
loop-segment-preserved c = record {
  value =
      let segments = c.args.segments.now in
      let index = c.loop-segment.segment-index in
      let item = c.segment-item.result in
      let next : take (index + 1) segments ≡ take index segments ++ item ∷ [] =
      take_more segments index item c.loop-segment-test.true ∙ ap (λ s. take index segments ++ s ∷ []) (sym c.segment-item.is) in
      let more = ap (λ ss. segments_total ss c.args.minutes) next ∙ segments_total-append (take index segments) item c.args.minutes in
      let added = c.segment_total-total.ensures.value in
      let before = c.loop-segment.invariant.value in
      omega (arith, ints, added, before, more);
  low = omega (arith, ints);
  high = omega (arith, ints);
}
