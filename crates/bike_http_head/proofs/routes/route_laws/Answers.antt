use Rattle.std.proofs.Common.{refl}
use Rattle.matchit.proofs.OnLiterals.{matchit_on_literals}
use Rattle.bike_http_head.specs.Table.{table, routes, with_route}
use Rattle.bike_http_head.proofs.routes.route_laws.Goals as goal

pub returns : goal.returns
unfolding matchit_on_literals table routes with_route
returns c = record {
  start = refl;
  rider = refl;
  office = refl;
  staff = refl;
  history = refl;
  feed = refl;
  any_part = refl;
  trailing = refl;
  empty = refl;
  no_rider = refl;
  doubled = refl;
  no_name = refl;
  longer = refl;
  no_after = refl;
  other_feed = refl;
  absolute = refl;
}
