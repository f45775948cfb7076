use Rattle.std.proofs.Common.{◌≡◌, ◌+◌, ◌++◌, ◌∷◌, [], length, take, refl, sym, ap, ◌∙◌, arith}
use Rattle.std.proofs.lemmas.List.{take_more, length-take}
use Rattle.bike_booking.proofs.Added.{segment_more}
use Rattle.bike_booking.proofs.rows.push_segments.Goals as goal

pub loop-segment-preserved : goal.loop-segment-preserved
loop-segment-preserved c = record {
  place = omega arith;
  len = omega arith;
  added =
      let segments = c.args.segments.now in
      let index = c.loop-segment.segment-index in
      let item = c.segment-item.result in
      let next : take (index + 1) segments ≡ take index segments ++ item ∷ [] =
      take_more segments index item c.loop-segment-test.true ∙ ap (λ s. take index segments ++ s ∷ []) (sym c.segment-item.is) in
      let place = c.loop-segment.invariant.place in
      let below = c.loop-segment-test.true in
      let at : c.loop-segment.seq ≡ length (take index segments) + 1 = simp length-take (omega (arith, place, below)) in
      segment_more c.args.plan.now (take index segments)
      (take (index + 1) segments) item c.loop-segment.seq c.args.rows.now.items c.loop-segment.rows.items c.add.new.rows.items _ c.loop-segment.invariant.added
      c.add.ensures.items refl at next;
}
