-- The head of a request, at the front of an input.
use Rattle.std.specs.Prelude.{◌≡◌, ℕ, ◌≤◌, ◌<◌, List, ◌++◌, length, map}
use Rattle.httparse.specs.Grammar.{RequestHead, print_request, ReadsRequest, HasNoRequest, MayBecomeRequest}
use Rattle.httparse.specs.Spans.{span_bytes, IsWithin, name_and_value}
use Rattle.bike_http_head.specs.Length.{body_length}
use Rattle.bike_http_head.specs.declared.head.TheConstants.{HEAD_LENGTH, MOST_FIELDS}
use Rattle.bike_http_head.specs.declared.head.Head.{Head}
use Rattle.bike_http_head.specs.declared.head.HeadReading.{HeadReading}
use Rattle.bike_http_head.specs.declared.head.HeadReading.TheVariants.{Incomplete, Unreadable, Whole}

-- the input is the head, within the bounds, and then the rest
pub record HasHead (input : List ℕ) (head : RequestHead) (rest : List ℕ) : Type 0 where
  pub reads : ReadsRequest input head rest
  pub short : length (print_request head) ≤ HEAD_LENGTH
  pub few : length head.fields ≤ MOST_FIELDS

-- no head within the bounds stands at the front
abbrev pub HasNoHead : List ℕ → Type 0
HasNoHead input = (head : RequestHead) (rest : List ℕ) → HasHead input head rest → ⊥

-- what is told of a head at the front of the bytes
pub record IsTold (bytes : List ℕ) (head : RequestHead) (told : Head) : Type 0 where
  pub method : span_bytes bytes told.method ≡ head.method
  pub target : span_bytes bytes told.target ≡ head.target
  pub within : IsWithin told.length told.method × IsWithin told.length told.target
  pub length : told.length ≡ length (print_request head)
  pub body : told.body ≡ body_length (map name_and_value head.fields)

-- what is read of the front of an input
abbrev pub IsRead : List ℕ → HeadReading → Type 0
IsRead bytes Incomplete = (length bytes < HEAD_LENGTH) × HasNoRequest bytes × MayBecomeRequest bytes
IsRead bytes Unreadable = (more : List ℕ) → HasNoHead (bytes ++ more)
IsRead bytes (Whole told) = (head : RequestHead) × (rest : List ℕ) × HasHead bytes head rest × IsTold bytes head told
