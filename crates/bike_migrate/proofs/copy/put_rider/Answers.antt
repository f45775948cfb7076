use Rattle.std.proofs.Common.{rules}
use Rattle.bike_sql.proofs.ParamLemmas.{bindings}
use Rattle.bike_migrate.proofs.StepLemmas.{runs_does}
use Rattle.bike_migrate.proofs.TextLemmas.{rider_writes, rider_values, rider_added}
use Rattle.bike_migrate.proofs.copy.put_rider.Goals as goal

pub returns : goal.returns
returns g c =
    runs_does c.run.ensures
    (rider_values c.args.rider _ _ _ c.args.row.now (search (rules, bindings)) c.value_at.ensures c.value_at-2.ensures c.requires.kinds)
    rider_writes
    (λ a b ours count ran x. rider_added c.args.rider c.args.row.now c.requires.number c.requires.kinds a b ours count ran)
