-- What is read of an input, and what it asks for.
use Rattle.std.specs.Prelude.{◌≡◌, ◌⊎◌, ℕ, ◌<◌, ◌≤◌, List, [], ◌++◌, length, map, Bool, true, false, Option, Some, None}
use Rattle.std.specs.Io.KnownBytes.{Consumes, IsAtEnd}
use Rattle.httparse.specs.Grammar.{RequestHead}
use Rattle.httparse.specs.Spans.{name_and_value}
use Rattle.bike_http_head.specs.Head.{HasHead, HasNoHead, IsTold}
use Rattle.bike_http_head.specs.Length.{body_length}
use Rattle.bike_http_head.specs.declared.length.BodyLength.TheVariants.{Of}
use Rattle.bike_http_head.specs.declared.head.Head.{Head}
use Rattle.bike_http_request.specs.Asked.{Asks, IsToAct}
use Rattle.bike_http_request.specs.declared.action.Action.{Action}
use Rattle.bike_http_request.specs.declared.incoming.Opening.{Opening}
use Rattle.bike_http_request.specs.declared.incoming.Opening.TheVariants.{Empty, Unreadable, Whole}

-- more bytes stand behind those that were read, and the input lost them
pub record Grew (old new : Option (List ℕ)) (before after : List ℕ) : Type 0 where
  pub got : List ℕ
  pub grown : after ≡ before ++ got
  pub consumed : Consumes old new got

-- some came, or the input is at its end
abbrev pub Came : Bool → Option (List ℕ) → List ℕ → List ℕ → Type 0
Came true left before after = length before < length after
Came false left before after = (after ≡ before) × IsAtEnd left

abbrev pub ReadsMore : Option (List ℕ) → Option (List ℕ) → List ℕ → List ℕ → Bool → Type 0
ReadsMore old new before after more = Grew old new before after × Came more new before after

-- what is told of a head that stands at the front of what was read
pub record IsOpened (read : List ℕ) (told : Head) : Type 0 where
  pub head : RequestHead
  pub rest : List ℕ
  pub has : HasHead read head rest
  pub tells : IsTold read head told

-- the input has no head, and ended or has none whatever follows
abbrev pub NeverOpens : List ℕ → Option (List ℕ) → Type 0
NeverOpens read left = (IsAtEnd left × HasNoHead read) ⊎ ((more : List ℕ) → HasNoHead (read ++ more))

-- what the front that was read is, with what is left
abbrev pub Opens : List ℕ → Option (List ℕ) → Opening → Type 0
Opens read left Empty = (read ≡ []) × IsAtEnd left
Opens read left Unreadable = (0 < length read) × NeverOpens read left
Opens read left (Whole told) = IsOpened read told

-- so many bytes are there, or the input is at its end before
abbrev pub Filled : Bool → ℕ → ℕ → Option (List ℕ) → Type 0
Filled true length end left = end ≤ length
Filled false length end left = (length < end) × IsAtEnd left

abbrev pub Fills : Option (List ℕ) → Option (List ℕ) → List ℕ → List ℕ → ℕ → Bool → Type 0
Fills old new before after end filled = Grew old new before after × Filled filled (length after) end new

-- what the input asks for; nothing where it has no byte
abbrev pub Received : List ℕ → Option Action → Type 0
Received input None = input ≡ []
Received input (Some asked) = (0 < length input) × Asks input asked

-- memory is asked for only to act: the head was read, its path takes a route of POST that names what it is to, POST is
-- its method, and the body is whole
pub record WantsMemory (input : List ℕ) : Type 0 where
  pub head : RequestHead
  pub rest : List ℕ
  pub has : HasHead input head rest
  pub size : ℕ
  pub told : body_length (map name_and_value head.fields) ≡ Of size
  pub whole : size ≤ length rest
  pub acts : IsToAct head.method head.target
