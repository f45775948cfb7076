use Rattle.std.proofs.Common.{drop}
use Rattle.bike_feed_texts.specs.Elements.{type_count_tree}
use Rattle.bike_json.proofs.Rows.{SoFar}
use Rattle.bike_feed_texts.proofs.status.write_type_counts.Given as goal

abbrev pub invariant-loop-count : goal.invariant-loop-count
invariant-loop-count g l =
    SoFar type_count_tree l.fn.json l.json (g.W.Output.contents l.fn.out) (g.W.Output.contents l.out) l.counts (drop l.count-index l.counts)
