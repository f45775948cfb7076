use Rattle.bike_sql.proofs.ParamLemmas.{bindings}
use Rattle.bike_recognition.proofs.PassLemmas.{pass_begins}
use Rattle.bike_recognition.proofs.rowids.begin_pass.Goals as goal

pub returns : goal.returns
returns g c = pass_begins g.S.Store c.args.sql.now c.args.conn c.query.result _ c.query.follows (search bindings)
