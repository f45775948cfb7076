use Rattle.std.proofs.Common.{ap, rules}
use Rattle.bike_http_connections.specs.Table.{Table}
use Rattle.bike_http_connections.proofs.Losing.{nobody}
use Rattle.bike_http_connections.proofs.open.Open.is_empty.Goals as goal

pub returns : goal.returns
returns g c none =
    nobody c.self.inside.connections c.args.self.now.opened (ap (λ (t : Table). t.opened) c.self.view_is) (search rules)
