use Rattle.std.proofs.Common.{ap, arith}
use Rattle.std.proofs.lemmas.Bool.{ltb-true, lt-ltb}
use Rattle.bike_http_connections.specs.Table.{Table}
use Rattle.bike_http_connections.proofs.Losing.{as_many}
use Rattle.bike_http_connections.proofs.open.Open.has_room.Goals as goal

pub returns : goal.returns
returns g c =
    let many = as_many c.self.inside.connections c.args.self.now.opened (ap (λ (t : Table). t.opened) c.self.view_is) in (
      λ some. omega (arith, many, c.len.ensures, ltb-true c.len.result 1000 some),
      λ few. lt-ltb c.len.result 1000 (omega (arith, many, c.len.ensures, few)),
    )
