use Rattle.bike_requests.proofs.CommandLaws.{plan_not_made}
use Rattle.bike_requests.proofs.records.read_add_plan.Goals as goal

pub returns-in_err-id : goal.returns-in_err-id
returns-in_err-id c = plan_not_made c.args.fields c.in_err-id.field-0.0 c.from_residual.result c.in_err-id.ensures c.from_residual.ensures
