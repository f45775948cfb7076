-- The bytes of an answer, and what writing one leaves.
use Rattle.std.specs.Prelude.{◌≡◌, ℕ, List, ◌++◌, length, Option, Result, Ok, Err}
use Rattle.std.specs.Io.KnownBytes.{Appends}
use Rattle.bike_stream.specs.Writing.{AppendsFront}
use Rattle.bike_stream.specs.declared.write.WriteFault.{WriteFault}
use Rattle.bike_json.specs.Tree.{text_of}
use Rattle.bike_http_response.specs.Head.{head_text}
use Rattle.bike_http_response.specs.Status.{status_of, allow_of}
use Rattle.bike_http_response.specs.Bodies.{body_of}
use Rattle.bike_http_response.specs.declared.answer.Answer.{Answer}
use Rattle.bike_http_response.specs.declared.status.Status.{Status}

-- the head, which tells the length of the body, and the body
abbrev pub answer_text : Answer → List ℕ
answer_text a = head_text (status_of a) (allow_of a) (length (text_of (body_of a))) ++ text_of (body_of a)

-- WHAT SENDING AN ANSWER LEAVES: its bytes are written, and its status is told; or a write failed, and a front of them
-- is written
abbrev pub Sends : Option (List ℕ) → Option (List ℕ) → Answer → Result Status WriteFault → Type 0
Sends old new answer (Ok status) = (status ≡ status_of answer) × Appends old new (answer_text answer)
Sends old new answer (Err fault) = AppendsFront old new (answer_text answer)
