-- A request that was accepted comes again: what is sent then.
use Rattle.std.specs.Prelude.{◌≡◌, ◌⊎◌, ℕ, List, true, false, Option, Some, Result, Ok, Err}
use Rattle.std.specs.Io.KnownBytes.{Appends}
use Rattle.sqlite_trees.specs.declared.store.Store.{Ghosts}
use Rattle.bike_stream.specs.Writing.{AppendsFront}
use Rattle.bike_commands.specs.declared.request.Request.{Request}
use Rattle.bike_operator.specs.Operator.{Operator}
use Rattle.bike_operator.specs.Runs.{Call, step, after}
use Rattle.bike_laws.specs.Retries.{is_accepted}
use Rattle.bike_desk.specs.Desk.{DeskValue, IsAt}
use Rattle.bike_http_request.specs.declared.action.Action.TheVariants.{Apply}
use Rattle.bike_http_request.specs.Received.{Received}
use Rattle.bike_http.specs.Exchange.{Response, bytes_of, response_of, response_status}
use Rattle.bike_http.specs.Telling.{unavailable}
use Rattle.bike_http.specs.declared.exchange.Served.{Served}
use Rattle.bike_http.specs.declared.exchange.Served.TheVariants.{Empty, Status}
use Rattle.bike_http.specs.declared.exchange.ServeFault.{ServeFault}
use Rattle.bike_http.specs.declared.exchange.ServeFault.TheVariants.{Read, Write, Cut}

-- The input asks for a request that was accepted before, with this
-- response; since then others came, and the operator is the one after them.
-- Whether the program was stopped in between isn't asked: it is the operator that the desk is at now.
pub record CameBefore (input : Option (List ℕ)) (s : Operator) (first : Response) : Type 0 where
  pub bytes : List ℕ
  pub known : input ≡ Some bytes
  pub request : Request
  pub asks : Received bytes (Some (Apply request))
  pub earlier : Operator
  pub moment : ℕ
  pub accepted : is_accepted earlier request ≡ true
  pub since : List Call
  pub now : s ≡ after (step earlier moment request).1 since
  pub first_is : first ≡ response_of earlier moment (Apply request)

-- the first response again, or that there is no answer now
abbrev pub IsFirstOrNone : Response → Response → Type 0
IsFirstOrNone first sent = (sent ≡ first) ⊎ (sent ≡ unavailable)

-- WHAT IS SENT AGAIN: the bytes of the first response, or 503. A desk that goes on is at the operator at which it was.
abbrev pub SendsAgain : {S : Type 0} → Ghosts S → DeskValue S → Operator → Response → Option (List ℕ) → Option (List ℕ)
    → Result Served ServeFault
    → Type 0
SendsAgain g d s first before after (Ok Empty) = ⊥
SendsAgain g d s first before after (Ok (Status status)) =
    (sent : Response) × IsFirstOrNone first sent × (status ≡ response_status sent)
    × Appends before after (bytes_of sent) × (d.is_stopped ≡ false → IsAt g d s)
SendsAgain g d s first before after (Err Read) = Unit {0}
SendsAgain g d s first before after (Err Write) =
    (sent : Response) × IsFirstOrNone first sent × AppendsFront before after (bytes_of sent)
    × (d.is_stopped ≡ false → IsAt g d s)
SendsAgain g d s first before after (Err Cut) = ⊥
