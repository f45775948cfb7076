use Rattle.std.proofs.Common.{◌++◌, ap}
use Rattle.bike_json.specs.Tree.{comma, text_of}
use Rattle.bike_json.specs.State.{has_more}
use Rattle.bike_json.specs.declared.level.Level.{Level}
use Rattle.bike_json.proofs.Series.{Wrote_then, Wrote_as}
use Rattle.bike_http_response.specs.Bodies.{scalar_tree}
use Rattle.bike_http_response.proofs.Listed.{member_parts}
use Rattle.bike_http_response.proofs.members.write_member.Goals as goal

pub returns-clause-wrote : goal.returns-clause-wrote
returns-clause-wrote g c =
    Wrote_as (member_parts _ _ _) (Wrote_then c.member.ensures.wrote
    (Wrote_as (ap (λ (t : Level). comma (has_more t) ++ text_of (scalar_tree c.args.value)) c.member.ensures.place.0) c.write_scalar.ensures.wrote))
