-- What is told of a request, and where the desk is then.
use Rattle.std.specs.Prelude.{◌≡◌, ◌⊎◌, ℕ, List, [], ◌++◌, false, Option, Some, IfSome, IsSomeAnd, Result, Ok, Err}
use Rattle.std.specs.Io.KnownBytes.{Appends, Keeps}
use Rattle.sqlite_trees.specs.declared.store.Store.{Ghosts}
use Rattle.bike_stream.specs.Writing.{AppendsFront}
use Rattle.bike_stream.specs.declared.write.WriteFault.{WriteFault}
use Rattle.bike_commands.specs.declared.request.Request.{Request}
use Rattle.bike_operator.specs.Operator.{Operator}
use Rattle.bike_operator.specs.Runs.{step}
use Rattle.bike_schema.specs.Stands.{AllLeft}
use Rattle.bike_feed_texts.specs.declared.feed.Feed.{Feed}
use Rattle.bike_desk.specs.Desk.{DeskValue, desk_state, IsAt, TreesStandForEither, KeepsDatabase}
use Rattle.bike_http_request.specs.declared.action.Action.{Action}
use Rattle.bike_http_request.specs.declared.action.Action.TheVariants.{Reject, Apply, Show, Publish}
use Rattle.bike_http_request.specs.Received.{Received, WantsMemory}
use Rattle.bike_http_response.specs.declared.answer.Answer.{Answer}
use Rattle.bike_http_response.specs.declared.answer.Answer.TheVariants as answer
use Rattle.bike_http_response.specs.Sent.{answer_text}
use Rattle.bike_http_response.specs.Status.{code_of, status_of}
use Rattle.bike_http_response.specs.declared.status.Status.{Status}
use Rattle.bike_http_response.specs.declared.status.Status.TheVariants as statuses
use Rattle.bike_http.specs.Exchange.{Response, answered, bytes_of, feed_head, feed_response, response_of, status_in}
use Rattle.bike_http.specs.Exchange.{response_status, operator_after, Answers}
use Rattle.bike_http.specs.declared.exchange.Served.{Served}
use Rattle.bike_http.specs.declared.exchange.Served.TheVariants as served
use Rattle.bike_http.specs.declared.exchange.ServeFault.{ServeFault}
use Rattle.bike_http.specs.declared.exchange.ServeFault.TheVariants.{Read, Write, Cut}

-- ---- the desk

-- A request failed: the desk goes on at the operator before it,
-- or it is stopped, and a crash leaves it or the one after it.
pub record IsUndone {S : Type 0} (g : Ghosts S) (d : DeskValue S) (s next : Operator) : Type 0 where
  pub goes_on : d.is_stopped ≡ false → IsAt g d s
  pub left : AllLeft (desk_state g d) (TreesStandForEither s next)

abbrev pub unavailable : Response
unavailable = answered answer.Unavailable

-- WHAT IS TOLD: the response, and the desk is at the operator after the request; or that there is no answer now
abbrev pub Tells : {S : Type 0} → Ghosts S → DeskValue S → Operator → Response → Operator → Response → Type 0
Tells g d s response next sent = ((sent ≡ response) × IsAt g d next) ⊎ ((sent ≡ unavailable) × IsUndone g d s next)

-- the same of a request to act, by the answer to it
abbrev pub TellsReply : {S : Type 0} → Ghosts S → DeskValue S → Operator → ℕ → Request → Answer → Type 0
TellsReply g d s t q sent = Tells g d s (answered (answer.Replied (step s t q).0)) (step s t q).1 (answered sent)

-- the same of what was asked: what is answered at once is told whatever the desk is
abbrev pub TellsAsked : {S : Type 0} → Ghosts S → DeskValue S → Operator → Action → Response → Operator → Response
    → Type 0
TellsAsked g d s (Reject rejection) response next sent = (sent ≡ response) × IsAt g d next
TellsAsked g d s (Apply q) response next sent = Tells g d s response next sent
TellsAsked g d s (Show row) response next sent = Tells g d s response next sent
TellsAsked g d s (Publish named) response next sent = Tells g d s response next sent

-- What is told of an input by its response.
pub record TellsResponse {S : Type 0} (g : Ghosts S) (d : DeskValue S) (s : Operator) (t : ℕ) (input : Option (List ℕ))
    (sent : Response) : Type 0 where
  pub response : Response
  pub next : Operator
  pub answers : Answers input s t response next
  pub told : TellsAsked g d s answers.asked response next sent

-- What is told of an input; where memory was refused while it was read, as it may be for a whole request to act alone,
-- the desk is asked nothing.
abbrev pub TellsFor : {S : Type 0} → Ghosts S → DeskValue S → Operator → ℕ → Option (List ℕ) → Response → Type 0
TellsFor g d s t input sent =
    ((sent ≡ unavailable) × IfSome input WantsMemory × IsAt g d s) ⊎ TellsResponse g d s t input sent

-- the input asks for something, and the desk is at the operator after it
abbrev pub IsDone : {S : Type 0} → Ghosts S → DeskValue S → Operator → ℕ → Option (List ℕ) → Type 0
IsDone g d s t input = (response : Response) × (next : Operator) × Answers input s t response next × IsAt g d next

-- ---- the tables

-- what was asked leaves the operator as it is
abbrev pub LeavesOperator : Operator → ℕ → Action → Type 0
LeavesOperator s t (Reject rejection) = Unit {0}
LeavesOperator s t (Apply q) = (step s t q).1 ≡ s
LeavesOperator s t (Show row) = Unit {0}
LeavesOperator s t (Publish named) = Unit {0}

-- where it does, and the desk goes on, the whole database is as it was
abbrev pub RestsAfter : {S : Type 0} → Ghosts S → DeskValue S → DeskValue S → Operator → ℕ → Action → Type 0
RestsAfter g old new s t asked =
    LeavesOperator s t asked → new.is_stopped ≡ false → KeepsDatabase g old new

-- A REQUEST THAT CHANGES NOTHING of the operator, since it is rejected or refused, comes again or asks what is shown,
-- changes nothing of the database
abbrev pub LeavesTables : {S : Type 0} → Ghosts S → DeskValue S → DeskValue S → Operator → ℕ → Option (List ℕ) → Type 0
LeavesTables g old new s t input =
    (asked : Action) → IsSomeAnd input (λ bytes. Received bytes (Some asked)) → RestsAfter g old new s t asked

-- ---- the bytes

-- how the sending of a feed's text ends
abbrev pub SendsText : Option (List ℕ) → Option (List ℕ) → List ℕ → Result Status WriteFault → Type 0
SendsText before after text (Ok status) = (status ≡ statuses.Ok) × Appends before after (feed_head text ++ text)
SendsText before after text (Err fault) = AppendsFront before after (feed_head text ++ text)

-- how the sending of a response ends
abbrev pub Responds : {S : Type 0} → Ghosts S → DeskValue S → Operator → Response → Operator → Option (List ℕ)
    → Option (List ℕ)
    → Result Status WriteFault → Type 0
Responds g d s response next before after (Ok status) =
    (sent : Response) × Tells g d s response next sent × (status ≡ status_in sent)
    × Appends before after (bytes_of sent)
Responds g d s response next before after (Err fault) =
    (sent : Response) × Tells g d s response next sent × AppendsFront before after (bytes_of sent)

-- the same of a feed, or of its lack
abbrev pub Publishes : {S : Type 0} → Ghosts S → DeskValue S → Operator → ℕ → Feed → Option (List ℕ) → Option (List ℕ)
    → Result Status WriteFault → Type 0
Publishes g d s t feed before after result = Responds g d s (feed_response s t feed s.system) s before after result

-- the same of the response to what was asked
abbrev pub RespondsTo : {S : Type 0} → Ghosts S → DeskValue S → Operator → ℕ → Action → Option (List ℕ)
    → Option (List ℕ) → Result Status WriteFault
    → Type 0
RespondsTo g d s t asked before after (Ok status) =
    (sent : Response) × TellsAsked g d s asked (response_of s t asked) (operator_after s t asked) sent
    × (status ≡ status_in sent)
    × Appends before after (bytes_of sent)
RespondsTo g d s t asked before after (Err fault) =
    (sent : Response) × TellsAsked g d s asked (response_of s t asked) (operator_after s t asked) sent
    × AppendsFront before after (bytes_of sent)

-- ---- the exchange

-- how it ends, as the sending of its response ended
abbrev pub end_of_sending : Result Status WriteFault → Result Served ServeFault
end_of_sending (Ok status) = Ok (served.Status (code_of status))
end_of_sending (Err fault) = Err Write

-- HOW AN EXCHANGE ENDS over an input
abbrev pub Serves : {S : Type 0} → Ghosts S → DeskValue S → Operator → ℕ → Option (List ℕ) → Option (List ℕ)
    → Option (List ℕ)
    → Result Served ServeFault → Type 0
Serves g d s t input before after (Ok served.Empty) = IfSome input (λ bytes. bytes ≡ [])
Serves g d s t input before after (Ok (served.Status code)) =
    (sent : Response) × TellsFor g d s t input sent × (code ≡ response_status sent)
    × Appends before after (bytes_of sent)
Serves g d s t input before after (Err Read) = Unit {0}
Serves g d s t input before after (Err Write) =
    (sent : Response) × TellsFor g d s t input sent × AppendsFront before after (bytes_of sent)
Serves g d s t input before after (Err Cut) = ⊥

-- nothing was asked of the desk, and nothing was written, where the input is empty or a read failed
abbrev pub Rests : {S : Type 0} → DeskValue S → DeskValue S → Option (List ℕ) → Option (List ℕ)
    → Result Served ServeFault → Type 0
Rests old new before after (Ok served.Empty) = (new ≡ old) × Keeps before after
Rests old new before after (Ok (served.Status code)) = Unit {0}
Rests old new before after (Err Read) = (new ≡ old) × Keeps before after
Rests old new before after (Err Write) = Unit {0}
Rests old new before after (Err Cut) = Unit {0}

-- ---- a stopped desk

-- what is sent where a stopped desk is asked: an input that asks
-- for nothing is rejected as ever, and all else has no answer now
abbrev pub refusal_of : Action → Answer
refusal_of (Reject rejection) = answer.Rejected rejection
refusal_of (Apply q) = answer.Unavailable
refusal_of (Show row) = answer.Unavailable
refusal_of (Publish named) = answer.Unavailable

-- What is sent of an input; where memory was refused while it was read, there is no answer now.
abbrev pub RefusesWith : Option (List ℕ) → Answer → Type 0
RefusesWith input a =
    ((a ≡ answer.Unavailable) × IfSome input WantsMemory)
    ⊎ ((asked : Action) × IfSome input (λ bytes. Received bytes (Some asked)) × (a ≡ refusal_of asked))

-- HOW AN EXCHANGE WITH A STOPPED DESK ENDS over an input
abbrev pub Refuses : Option (List ℕ) → Option (List ℕ) → Option (List ℕ) → Result Served ServeFault → Type 0
Refuses input before after (Ok served.Empty) = IfSome input (λ bytes. bytes ≡ [])
Refuses input before after (Ok (served.Status code)) =
    (a : Answer) × RefusesWith input a × (code ≡ code_of (status_of a)) × Appends before after (answer_text a)
Refuses input before after (Err Read) = Unit {0}
Refuses input before after (Err Write) = (a : Answer) × RefusesWith input a × AppendsFront before after (answer_text a)
Refuses input before after (Err Cut) = ⊥
