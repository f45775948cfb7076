use Rattle.std.proofs.Common.{◌≡◌, take, map}
use Rattle.bike_http_head.specs.Table.{with_routes}
use Rattle.bike_http_head.proofs.routes.add_all.Given as goal

abbrev pub invariant-loop-text : goal.invariant-loop-text
invariant-loop-text l = l.router ≡ with_routes l.initial.router (map (λ r. (r.0.now, r.1)) (take l.text-index l.routes))
