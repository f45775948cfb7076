use Rattle.std.proofs.Common.{sym, ap, ◌∙◌}
use Rattle.std.specs.Prelude.{Some}
use Rattle.bike_migrate.proofs.TypeLemmas.{none_spelled, types_more}
use Rattle.bike_migrate.proofs.counts.old_types.Goals as goal

pub returns-in-None : goal.returns-in-None
returns-in-None c = sym (none_spelled c.args.rows.now c.loop-row.row-index c.row-item.result c.loop-row-test.true c.row-item.is (sym c.in_ok-counted.ensures ∙ c.in-None.is))

pub loop-row-preserved : goal.loop-row-preserved
loop-row-preserved c =
    types_more c.args.rows.now c.loop-row.row-index c.row-item.result c.loop-row.types.items c.in-Some.counted c.loop-row-test.true c.row-item.is c.loop-row.invariant
    (sym c.in_ok-counted.ensures ∙ c.in-Some.is)
    ∙ ap Some (sym c.in_ok-put_type-in-Some.ensures)
