-- What an input is answered, and the operator after it.
use Rattle.std.specs.Prelude.{◌≡◌, ℕ, max, List, ◌++◌, length, Option, Some, None, IfSome}
use Rattle.bike_catalogue.specs.Rows.{SystemRow}
use Rattle.bike_operator.specs.Operator.{Operator}
use Rattle.bike_operator.specs.Runs.{step}
use Rattle.bike_operator.specs.Sound.{IsCall}
use Rattle.bike_feed_texts.specs.declared.feed.Feed.{Feed}
use Rattle.bike_feeds.specs.Publishing.{feed_text}
use Rattle.bike_http_request.specs.declared.action.Action.{Action}
use Rattle.bike_http_request.specs.declared.action.Action.TheVariants.{Reject, Apply, Show, Publish}
use Rattle.bike_http_request.specs.Received.{Received}
use Rattle.bike_http_response.specs.declared.answer.Answer.{Answer}
use Rattle.bike_http_response.specs.declared.answer.Answer.TheVariants as answer
use Rattle.bike_http_response.specs.Head.{head_text}
use Rattle.bike_http_response.specs.Sent.{answer_text}
use Rattle.bike_http_response.specs.Status.{code_of, status_of}
use Rattle.bike_http_response.specs.declared.status.Status.{Status}
use Rattle.bike_http_response.specs.declared.status.Status.TheVariants as statuses
use Rattle.bike_http.specs.Shown.{not_found, shown_of}

-- what is sent: an answer, or a feed of that text
pub data Response : Type 0 where
  answered : Answer → Response
  published : List ℕ → Response

-- an operator without a system has no feed
abbrev pub feed_response : Operator → ℕ → Feed → Option SystemRow → Response
feed_response s t feed None = answered not_found
feed_response s t feed (Some x) = published (feed_text s x feed t)

-- THE TABLE: the response to what is asked of an operator at a
-- moment; a feed is for the operator's `now` where that is later ..
abbrev pub response_of : Operator → ℕ → Action → Response
response_of s t (Reject rejection) = answered (answer.Rejected rejection)
response_of s t (Apply q) = answered (answer.Replied (step s t q).0)
response_of s t (Show row) = answered (shown_of s row)
response_of s t (Publish feed) = feed_response s (max t s.now) feed s.system

-- .. and the operator after it
abbrev pub operator_after : Operator → ℕ → Action → Operator
operator_after s t (Reject rejection) = s
operator_after s t (Apply q) = (step s t q).1
operator_after s t (Show row) = s
operator_after s t (Publish feed) = s

-- a request to act is a good one, at a moment of the program
abbrev pub IsGood : ℕ → Action → Type 0
IsGood t (Reject rejection) = Unit {0}
IsGood t (Apply q) = IsCall (t, q)
IsGood t (Show row) = Unit {0}
IsGood t (Publish feed) = Unit {0}

-- the head of a feed of that text
abbrev pub feed_head : List ℕ → List ℕ
feed_head text = head_text statuses.Ok None (length text)

-- the bytes of a response, and its status
abbrev pub bytes_of : Response → List ℕ
bytes_of (answered a) = answer_text a
bytes_of (published text) = feed_head text ++ text

abbrev pub status_in : Response → Status
status_in (answered a) = status_of a
status_in (published text) = statuses.Ok

abbrev pub response_status : Response → ℕ
response_status response = code_of (status_in response)

-- WHAT AN INPUT ASKS OF AN OPERATOR at a moment: its response, and the operator after it. An input that isn't known
-- asks for something.
pub record Answers (input : Option (List ℕ)) (s : Operator) (t : ℕ) (response : Response)
    (next : Operator) : Type 0 where
  pub asked : Action
  pub received : IfSome input (λ bytes. Received bytes (Some asked))
  pub good : IsGood t asked
  pub gives : response ≡ response_of s t asked
  pub leads : next ≡ operator_after s t asked
