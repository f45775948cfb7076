use Rattle.std.proofs.Common.{◌≡◌, ap, ◌∙◌, refl, map, List, ℕ}
use Rattle.bike_http_head.specs.Table.{Rows, table, routes, with_routes}
use Rattle.bike_http_head.specs.declared.routes.Route.{Route}
use Rattle.bike_http_head.specs.declared.routes.TheConstants.{ROUTES}
use Rattle.bike_http_head.proofs.routes.Routes.new.Goals as goal

-- the constant is the table
same : map (λ r. (r.0.now, r.1)) ROUTES ≡ routes
unfolding routes
same = refl

pub invariant_of-result : goal.invariant_of-result
unfolding table
invariant_of-result c = record {
  holds = c.in_ok-add_all.ensures ∙ (ap (λ (l : List (List ℕ × Route)). with_routes c.new-router.result l) same
      ∙ ap (λ (t : Rows). with_routes t routes) c.new-router.ensures);
}
