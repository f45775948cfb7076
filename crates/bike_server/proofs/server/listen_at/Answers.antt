use Rattle.std.proofs.Common.{[]}
use Rattle.bike_server.proofs.ServingLemmas.{served}
use Rattle.bike_server.proofs.server.listen_at.Goals as goal

pub returns-in_err-connections-clause-kept : goal.returns-in_err-connections-clause-kept
returns-in_err-connections-clause-kept g c clean s at = served g.S.Store c.args.desk.now s [] tt at
