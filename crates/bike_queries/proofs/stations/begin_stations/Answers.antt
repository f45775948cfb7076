use Rattle.bike_sql.proofs.CallLaws.{named_walk_returns}
use Rattle.bike_sql.proofs.ParamLemmas.{bindings}
use Rattle.bike_queries.proofs.PageTexts.{lists_stations_from}
use Rattle.bike_queries.proofs.stations.begin_stations.Goals as goal

pub returns : goal.returns
returns g c = named_walk_returns g.S.Store (λ db ours. (lists_stations_from c.args.start.now).lists db ours.has) c.args.conn c.query.result c.query.follows (search bindings)
