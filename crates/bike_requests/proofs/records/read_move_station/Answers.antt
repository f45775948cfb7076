use Rattle.bike_requests.proofs.CommandLaws.{position_not_made}
use Rattle.bike_requests.proofs.records.read_move_station.Goals as goal

pub returns-in_err-station : goal.returns-in_err-station
returns-in_err-station c = position_not_made c.args.fields c.in_err-station.field-0.0 c.from_residual.result c.in_err-station.ensures c.from_residual.ensures
