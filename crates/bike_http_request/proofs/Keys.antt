-- A body without a key.
use Rattle.std.proofs.Common.{◌≡◌, Option, Some, None, refl, sym}
use Rattle.serde_json.specs.Data.{Data}
use Rattle.bike_fields.specs.declared.caller.Caller.{Caller}
use Rattle.bike_commands.specs.declared.command.Command.{Command}
use Rattle.bike_http_head.specs.declared.rejection.Rejection.TheVariants.{BadField}
use Rattle.bike_http_request.specs.declared.action.Action.TheVariants.{Reject}
use Rattle.bike_http_request.specs.Members.{key_in}
use Rattle.bike_http_request.specs.Asked.{request_of, application_of}

-- it is a bad field, whatever the command
pub without_key : (caller : Caller) (command : Option Command) (body : Data) → None ≡ key_in body
    → Reject BadField ≡ application_of (request_of caller command body)
unfolding request_of
without_key caller None body none = refl
without_key caller (Some given) body none = rw (sym none) refl
