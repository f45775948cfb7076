use Rattle.std.proofs.Common.{arith}
use Rattle.bike_feed_texts.specs.Elements.{type_count_tree}
use Rattle.bike_json.proofs.Rows.{rows_start}
use Rattle.bike_feed_texts.proofs.Arrays.{takes_item, turn, turned}
use Rattle.bike_feed_texts.proofs.status.write_type_counts.Goals as goal

pub loop-count-init : goal.loop-count-init
loop-count-init g c = rows_start type_count_tree _ _ _ c.requires.top

pub write_type_count-requires-clause-value : goal.write_type_count-requires-clause-value
write_type_count-requires-clause-value g c = takes_item _ c.loop-count.invariant.inside

pub loop-count-preserved : goal.loop-count-preserved
loop-count-preserved g c =
    turn type_count_tree _ _ _ c.loop-count.invariant c.loop-count-test.true c.count-item.is c.write_type_count.ensures.wrote c.write_type_count.ensures.place

pub returns-clause-wrote : goal.returns-clause-wrote
returns-clause-wrote g c = turned type_count_tree c.args.counts.now _ c.loop-count.invariant (omega (arith, c.loop-count-test.false))
