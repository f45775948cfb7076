use Rattle.bike_sql.proofs.CallLaws.{named_walk_returns}
use Rattle.bike_sql.proofs.ParamLemmas.{bindings}
use Rattle.bike_office_reads.proofs.NameLemmas.{lists_names}
use Rattle.bike_office_reads.proofs.names.begin_names.Goals as goal

pub returns : goal.returns
returns g c = named_walk_returns g.S.Store (λ db ours. (lists_names c.args.kind c.args.first.now c.args.last.now).lists db ours.has) c.args.conn c.query.result c.query.follows (search bindings)
