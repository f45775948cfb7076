use Rattle.std.proofs.Common.{◌≡◌, Some, rules}
use Rattle.serde_json.specs.View.{view}
use Rattle.bike_http_request.specs.Members.{key_in}
use Rattle.bike_http_request.specs.Bodies.{caller_at, command_by}
use Rattle.bike_http_request.proofs.Bounds.{request_good}
use Rattle.bike_http_request.proofs.action.act.Goals as goal

pub invariant_of-result : goal.invariant_of-result
invariant_of-result c =
    let from : caller_at c.args.route c.args.part.now ≡ Some c.in_ok-caller.caller = search rules in
    let key : key_in (view c.in-Some-2.object) ≡ Some c.in-Some-3.key = search rules in
    let command : command_by c.args.route c.in_ok-caller.caller (view c.in-Some-2.object) ≡ Some c.in-Some-4.command = search rules in
    request_good _ _ (view c.in-Some-2.object) _ _ _ from key command
