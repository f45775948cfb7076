-- What a head and a body that were written make together.
use Rattle.std.proofs.Common.{ℕ, ◌+◌, List, ◌++◌, Option, length, take, arith, length-append}
use Rattle.std.proofs.Math.Seq.{take-append-add}
use Rattle.std.proofs.KnownBytes.{Appends-nil, Appends-trans}
use Rattle.std.specs.Io.KnownBytes.{Appends}
use Rattle.bike_stream.specs.Writing.{AppendsFront}
use Rattle.bike_http_response.specs.Head.{head_text}
use Rattle.bike_http_response.specs.Sent.{answer_text}
use Rattle.bike_http_response.specs.declared.answer.Answer.{Answer}

pub front_then : (a b c : Option (List ℕ)) (x y : List ℕ) → Appends a b x → AppendsFront b c y → AppendsFront a c (x ++ y)
front_then a b c x y h k =
    (length x + k.0, omega (arith, length-append x y, k.1), rw (take-append-add x y k.0) (Appends-trans a b c x (take k.0 y) h k.2))

-- of an answer, which has bytes, nothing is a front
pub nothing_of : (a : Option (List ℕ)) (answer : Answer) → AppendsFront a a (answer_text answer)
unfolding head_text
nothing_of a answer = (0, omega arith, Appends-nil a)
