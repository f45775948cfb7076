use Rattle.std.specs.Prelude.{codes}
use Rattle.bike_json.specs.Rows.{items}
use Rattle.bike_http_response.specs.Bodies.{request_tree}
use Rattle.bike_http_response.proofs.Listed.{one_array}
use Rattle.bike_http_response.proofs.requests.write_requests.Goals as goal

pub returns-clause-wrote : goal.returns-clause-wrote
returns-clause-wrote g c =
    one_array (codes "requests") (items request_tree c.args.requests.now) c.begin_object.ensures.wrote c.begin_object.ensures.place.0
    c.member.ensures.wrote c.member.ensures.place.0 c.begin_array.ensures.wrote c.write_items.ensures.wrote c.end_array.ensures.wrote c.end_object.ensures.wrote
