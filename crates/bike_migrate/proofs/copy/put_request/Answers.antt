use Rattle.std.proofs.Common.{rules}
use Rattle.bike_sql.proofs.ParamLemmas.{bindings}
use Rattle.bike_migrate.proofs.StepLemmas.{runs_does}
use Rattle.bike_migrate.proofs.TextLemmas.{request_writes, request_values, request_added}
use Rattle.bike_migrate.proofs.copy.put_request.Goals as goal

pub returns : goal.returns
returns g c =
    runs_does c.run.ensures
    (request_values c.args.number _ _ _ _ _ c.args.row.now (search (rules, bindings)) c.value_at.ensures c.value_at-2.ensures c.value_at-3.ensures c.value_at-4.ensures c.requires)
    request_writes
    (λ a b ours count ran x. request_added c.args.number c.args.row.now c.requires a b ours count ran)
