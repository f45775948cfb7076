use Rattle.std.proofs.Common.{drop}
use Rattle.bike_feed_texts.specs.Elements.{segment_tree}
use Rattle.bike_json.proofs.Rows.{SoFar}
use Rattle.bike_feed_texts.proofs.plan.write_segments.Given as goal

abbrev pub invariant-loop-segment : goal.invariant-loop-segment
invariant-loop-segment g l =
    SoFar segment_tree l.fn.json l.json (g.W.Output.contents l.fn.out) (g.W.Output.contents l.out) l.segments (drop l.segment-index l.segments)
