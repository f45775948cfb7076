use Rattle.std.proofs.Common.{arith}
use Rattle.bike_feed_texts.specs.Elements.{segment_tree}
use Rattle.bike_json.proofs.Rows.{rows_start}
use Rattle.bike_feed_texts.proofs.Arrays.{takes_item, turn, turned}
use Rattle.bike_feed_texts.proofs.plan.write_segments.Goals as goal

pub loop-segment-init : goal.loop-segment-init
loop-segment-init g c = rows_start segment_tree _ _ _ c.requires.top

pub write_segment-requires-clause-value : goal.write_segment-requires-clause-value
write_segment-requires-clause-value g c = takes_item _ c.loop-segment.invariant.inside

pub loop-segment-preserved : goal.loop-segment-preserved
loop-segment-preserved g c =
    turn segment_tree _ _ _ c.loop-segment.invariant c.loop-segment-test.true c.segment-item.is c.write_segment.ensures.wrote c.write_segment.ensures.place

pub returns-clause-wrote : goal.returns-clause-wrote
returns-clause-wrote g c = turned segment_tree c.args.segments.now _ c.loop-segment.invariant (omega (arith, c.loop-segment-test.false))
