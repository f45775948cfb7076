use Rattle.std.proofs.Common.{arith}
use Rattle.bike_feed_texts.specs.declared.feed.Feed.TheVariants.{Gbfs}
use Rattle.bike_feed_texts.specs.Elements.{link_tree}
use Rattle.bike_json.proofs.Rows.{rows_start}
use Rattle.bike_feed_texts.proofs.Arrays.{takes_item, turn_at, turned}
use Rattle.bike_feed_texts.proofs.gbfs.write_links.Goals as goal

pub loop-feed-init : goal.loop-feed-init
loop-feed-init g c = rows_start (link_tree c.args.system.now) _ _ _ c.requires.top

pub write_link-requires-clause-value : goal.write_link-requires-clause-value
write_link-requires-clause-value g c = takes_item _ c.loop-feed.invariant.inside

pub loop-feed-preserved : goal.loop-feed-preserved
loop-feed-preserved g c =
    turn_at (link_tree c.args.system.now) _ c.loop-feed.feed-index Gbfs c.loop-feed.invariant c.loop-feed-test.true c.write_link.ensures.wrote c.write_link.ensures.place

pub returns-clause-wrote : goal.returns-clause-wrote
returns-clause-wrote g c = turned (link_tree c.args.system.now) c.args.feeds.now _ c.loop-feed.invariant (omega (arith, c.loop-feed-test.false))
