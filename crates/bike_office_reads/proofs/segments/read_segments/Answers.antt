use Rattle.std.proofs.Common.{◌≡◌, [], ◌∷◌, ◌++◌, ◌+◌, drop, rules, sym, subst}
use Rattle.bike_office_reads.proofs.SegmentLemmas.{AreRead, none_read, next_read, all_read}
use Rattle.bike_office_reads.proofs.segments.read_segments.Goals as goal

pub loop-row-init : goal.loop-row-init
loop-row-init c = subst (λ items. AreRead c.args.rows.now items c.args.rows.now) (sym c.new-segments.ensures.items) (none_read c.args.rows.now)

pub loop-row-preserved : goal.loop-row-preserved
loop-row-preserved c =
    let all = c.args.rows.now in
    let pushed : c.push.new.self.items ≡ c.loop-row.segments.items ++ c.in_ok-segment.segment ∷ [] = search rules in
    subst (λ items. AreRead all items (drop (c.loop-row.row-index + 1) all)) (sym pushed)
    (next_read all c.loop-row.segments.items c.loop-row.row-index c.row-item.result c.in_ok-segment.segment c.loop-row-test.true c.row-item.is c.in_ok-segment.ensures c.loop-row.invariant)

pub returns : goal.returns
returns c = all_read c.args.rows.now c.loop-row.segments.items c.loop-row.row-index c.loop-row-test.false c.loop-row.invariant
