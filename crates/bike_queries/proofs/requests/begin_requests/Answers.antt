use Rattle.std.proofs.Common.{min}
use Rattle.bike_sql.proofs.CallLaws.{walk_returns}
use Rattle.bike_sql.proofs.ParamLemmas.{bindings}
use Rattle.bike_book.specs.Numbers.{most_requests}
use Rattle.bike_queries.proofs.RequestTexts.{lists_requests_behind}
use Rattle.bike_queries.proofs.requests.begin_requests.Goals as goal

pub returns : goal.returns
returns g c = walk_returns g.S.Store (λ db ours. (lists_requests_behind (min c.args.number most_requests)).lists db ours.has) c.args.conn c.query.result c.query.follows (search bindings)
