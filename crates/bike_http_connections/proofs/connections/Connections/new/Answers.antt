use Rattle.std.proofs.Common.{◌∙◌, List, ◌++◌, ap, map}
use Rattle.bike_http_connections.specs.Kept.{Kept}
use Rattle.bike_http_connections.specs.Ahead.{fresh, ahead_of}
use Rattle.bike_http_connections.proofs.Requests.{all_fresh}
use Rattle.bike_http_connections.proofs.connections.Connections.new.Goals as goal

pub returns-clause-ahead : goal.returns-clause-ahead
returns-clause-ahead g c =
    ap (λ (opened : List Kept). ahead_of (map (λ one. one.who) opened ++ map fresh (g.N.Network.ahead c.args.network))) c.in_ok-connections.ensures
    ∙ all_fresh (g.N.Network.ahead c.args.network)
