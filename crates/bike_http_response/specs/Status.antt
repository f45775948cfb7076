-- The status of an answer (RFC 9110, section 15).
use Rattle.std.specs.Prelude.{ℕ, List, codes, Option, Some, None}
use Rattle.bike_commands.specs.declared.refusal.Refusal.{Refusal}
use Rattle.bike_commands.specs.declared.refusal.Refusal.TheVariants as refusal
use Rattle.bike_commands.specs.declared.reply.Reply.{Reply}
use Rattle.bike_commands.specs.declared.reply.Reply.TheVariants.{Refused}
use Rattle.bike_http_head.specs.declared.rejection.Allow.{Allow}
use Rattle.bike_http_head.specs.declared.rejection.Rejection.{Rejection}
use Rattle.bike_http_head.specs.declared.rejection.Rejection.TheVariants.{BadRequest, BadField, NotFound}
use Rattle.bike_http_head.specs.declared.rejection.Rejection.TheVariants.{MethodNotAllowed, TooLarge}
use Rattle.bike_http_response.specs.declared.answer.Answer.{Answer}
use Rattle.bike_http_response.specs.declared.answer.Answer.TheVariants as answer
use Rattle.bike_http_response.specs.declared.status.Status.{Status}
use Rattle.bike_http_response.specs.declared.status.Status.TheVariants as status

-- THE TABLE: each status with its code, and the reason that stands behind it
abbrev pub code_of : Status → ℕ
code_of status.Ok = 200
code_of status.BadRequest = 400
code_of status.NotFound = 404
code_of status.MethodNotAllowed = 405
code_of status.Conflict = 409
code_of status.PayloadTooLarge = 413
code_of status.ServiceUnavailable = 503

abbrev pub reason_of : Status → List ℕ
reason_of status.Ok = codes "OK"
reason_of status.BadRequest = codes "Bad Request"
reason_of status.NotFound = codes "Not Found"
reason_of status.MethodNotAllowed = codes "Method Not Allowed"
reason_of status.Conflict = codes "Conflict"
reason_of status.PayloadTooLarge = codes "Payload Too Large"
reason_of status.ServiceUnavailable = codes "Service Unavailable"

-- a bad field can't be read; every other refusal is a conflict
abbrev pub refused_status : Refusal → Status
refused_status refusal.BadField = status.BadRequest
refused_status _ = status.Conflict

abbrev pub replied_status : Reply → Status
replied_status (Refused r) = refused_status r
replied_status _ = status.Ok

abbrev pub rejected_status : Rejection → Status
rejected_status BadRequest = status.BadRequest
rejected_status BadField = status.BadRequest
rejected_status NotFound = status.NotFound
rejected_status (MethodNotAllowed allow) = status.MethodNotAllowed
rejected_status TooLarge = status.PayloadTooLarge

abbrev pub status_of : Answer → Status
status_of (answer.Rejected r) = rejected_status r
status_of answer.Unavailable = status.ServiceUnavailable
status_of (answer.Replied r) = replied_status r
status_of (answer.Rider row) = status.Ok
status_of (answer.Bike number bike) = status.Ok
status_of (answer.Rental number rental) = status.Ok
status_of (answer.Order number order) = status.Ok
status_of (answer.Requests page) = status.Ok

-- the method that is allowed, where another was used
abbrev pub allow_of : Answer → Option Allow
allow_of (answer.Rejected (MethodNotAllowed allow)) = Some allow
allow_of (answer.Rejected _) = None
allow_of answer.Unavailable = None
allow_of (answer.Replied r) = None
allow_of (answer.Rider row) = None
allow_of (answer.Bike number bike) = None
allow_of (answer.Rental number rental) = None
allow_of (answer.Order number order) = None
allow_of (answer.Requests page) = None
