-- What each line of an input asks for, and what it is answered.
use Rattle.std.specs.Prelude.{◌≡◌, ℕ, ◌≤◌, List, [], ◌∷◌, ◌++◌, Option, Some, None}
use Rattle.bike_fixed.specs.Whole.{last_moment}
use Rattle.bike_commands.specs.declared.request.Request.{Request}
use Rattle.bike_commands.specs.declared.reply.Reply.{Reply}
use Rattle.bike_commands.specs.declared.reply.Reply.TheVariants.{Refused}
use Rattle.bike_commands.specs.declared.refusal.Refusal.TheVariants.{BadField}
use Rattle.bike_commands.specs.Replies.{reply_text}
use Rattle.bike_commands.specs.Requests.{IsRequest, IsLine}
use Rattle.bike_operator.specs.Operator.{Operator}
use Rattle.bike_operator.specs.Runs.{Call, step}

-- the line spells the request at the moment, or spells none
abbrev pub IsReadAs : List ℕ → Option Call → Type 0
IsReadAs line (Some c) = IsLine line c.0 c.1 × IsRequest c.1 × (c.0 ≤ last_moment)
IsReadAs line None = (t : ℕ) (q : Request) → t ≤ last_moment → IsRequest q → IsLine line t q → ⊥

-- the same of each line
abbrev pub AreReadAs : List (List ℕ) → List (Option Call) → Type 0
AreReadAs [] [] = Unit {0}
AreReadAs [] (c ∷ cs) = ⊥
AreReadAs (line ∷ lines) [] = ⊥
AreReadAs (line ∷ lines) (c ∷ cs) = IsReadAs line c × AreReadAs lines cs

-- a line that spells no request is refused, and changes nothing
abbrev pub reply_to : Operator → Option Call → Reply
reply_to s (Some c) = (step s c.0 c.1).0
reply_to s None = Refused BadField

abbrev pub after_line : Operator → Option Call → Operator
after_line s (Some c) = (step s c.0 c.1).1
after_line s None = s

-- whatever the line spells changes nothing of the operator: it is refused, or its key is kept
abbrev pub ChangesNothing : Operator → List ℕ → Type 0
ChangesNothing s line = (t : ℕ) (q : Request) → t ≤ last_moment → IsRequest q → IsLine line t q → (step s t q).1 ≡ s

-- the answer to a line: its reply's text and a line feed
abbrev pub answer : Operator → Option Call → List ℕ
answer s c = reply_text (reply_to s c) ++ 10 ∷ []

-- the operator after lines, and the answers to them, one after the other
abbrev pub after_lines : Operator → List (Option Call) → Operator
after_lines s [] = s
after_lines s (c ∷ cs) = after_lines (after_line s c) cs

abbrev pub answers : Operator → List (Option Call) → List ℕ
answers s [] = []
answers s (c ∷ cs) = answer s c ++ answers (after_line s c) cs
