use Rattle.std.proofs.Common.{sym, ap, subst, ◌∙◌}
use Rattle.bike_book.specs.ByType.{counts_of}
use Rattle.bike_queries.specs.StationCounts.{AreRising}
use Rattle.bike_queries.proofs.TypeOrder.{none_between, rising_back, rising_front}
use Rattle.bike_queries.proofs.counts.counts_from.Goals as goal

pub returns-then-is_before-clause-counts : goal.returns-then-is_before-clause-counts
returns-then-is_before-clause-counts c = λ rises.
    let type_id = c.args.type_id.now in
    let front = c.split_at.result.0.now in
    let rest = c.split_at.result.1.now in
    let parts = c.split_at.ensures.by_index.0 in
    let both = subst AreRising parts rises in
    none_between type_id front rest (c.is_behind.ensures c.if-is_behind.true (rising_front front rest both)) (c.is_before.ensures c.if-is_before.true (rising_back front rest both))
    ∙ sym (ap (counts_of type_id) parts)
