use Rattle.bike_http_request.proofs.Objects.{object_other, object_some}
use Rattle.bike_http_request.proofs.action.read_object.Goals as goal

pub returns-then-not-is_object : goal.returns-then-not-is_object
returns-then-not-is_object c = object_other _ _ c.in-Ok.ensures.ok.0 c.in-Ok.ensures.ok.1 c.if-not-is_object.ensures

pub returns-else-not-is_object : goal.returns-else-not-is_object
returns-else-not-is_object c = object_some _ _ c.in-Ok.ensures.ok.0 c.in-Ok.ensures.ok.1 c.if-not-is_object.ensures
