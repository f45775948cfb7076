use Rattle.std.proofs.Common.{drop}
use Rattle.bike_feed_texts.specs.Elements.{link_tree}
use Rattle.bike_json.proofs.Rows.{SoFar}
use Rattle.bike_feed_texts.proofs.gbfs.write_links.Given as goal

abbrev pub invariant-loop-feed : goal.invariant-loop-feed
invariant-loop-feed g l =
    SoFar (link_tree l.fn.system) l.fn.json l.json (g.W.Output.contents l.fn.out) (g.W.Output.contents l.out) l.feeds (drop l.feed-index l.feeds)
