use Rattle.std.proofs.Common.{◌≡◌, Result, Ok, Err, OnOk}
use Rattle.matchit.specs.Route.{Scan}
use Rattle.matchit.specs.Router.{InsertsRead}
use Rattle.matchit.specs.declared.error.InsertError.{InsertError}
use Rattle.bike_http_head.specs.Table.{Rows, with_route, with_scan}
use Rattle.bike_http_head.specs.declared.routes.Route.{Route}
use Rattle.bike_http_head.proofs.routes.add.Goals as goal

one_more : (scan : Result Scan InsertError) (value : Route) (old new : Rows) (r : Result (Unit {0}) InsertError)
    → InsertsRead scan value old new r → OnOk r (new ≡ with_scan scan value old)
one_more (Ok s) value old new (Ok u) h = h.1
one_more (Ok s) value old new (Err e) h = tt
one_more (Err e) value old new (Ok u) h = h.0
one_more (Err e) value old new (Err f) h = tt

pub returns : goal.returns
unfolding with_route
returns c = one_more _ _ _ _ _ c.insert.ensures
