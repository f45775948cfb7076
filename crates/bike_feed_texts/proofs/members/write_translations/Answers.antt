use Rattle.std.proofs.Common.{refl, arith}
use Rattle.bike_json.proofs.Rows.{rows_start, rows_next}
use Rattle.bike_feed_texts.specs.Elements.{translation}
use Rattle.bike_feed_texts.proofs.Arrays.{takes_item, turn, turned}
use Rattle.bike_feed_texts.proofs.members.write_translations.Goals as goal

pub loop-more-init : goal.loop-more-init
loop-more-init g c =
    rows_next translation (rows_start translation _ _ _ c.requires.top) refl c.write_translation.ensures.wrote.are c.write_translation.ensures.place

pub write_translation-requires-in-loop-more-clause-value : goal.write_translation-requires-in-loop-more-clause-value
write_translation-requires-in-loop-more-clause-value g c = takes_item _ c.loop-more.invariant.inside

pub loop-more-preserved : goal.loop-more-preserved
loop-more-preserved g c =
    let next = rw (c.language.ensures, c.name.ensures) at c.write_translation-in-loop-more.ensures.wrote in
    turn translation _ _ _ c.loop-more.invariant c.loop-more-test.true c.more-item.is next c.write_translation-in-loop-more.ensures.place

pub returns-clause-wrote : goal.returns-clause-wrote
returns-clause-wrote g c = turned translation c.args.names.now _ c.loop-more.invariant (omega (arith, c.loop-more-test.false))
