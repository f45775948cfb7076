use Rattle.bike_sql.proofs.CallLaws.{walk_returns}
use Rattle.bike_sql.proofs.ParamLemmas.{bindings}
use Rattle.bike_judges.proofs.lines.begin_lines.Goals as goal

pub returns : goal.returns
returns g c = walk_returns g.S.Store (λ db ours. c.text.ensures db ours.has) c.args.conn c.query.result c.query.follows (search bindings)
