-- What a run over lines leaves.
use Rattle.std.specs.Prelude.{◌≡◌, ◌⊎◌, ℕ, ◌+◌, ◌<◌, ◌≤◌, IsTrue, List, [], ◌∷◌, ◌++◌, length, take, ⊤, Option, None}
use Rattle.std.specs.Prelude.{Some, Result, Ok, Err}
use Rattle.std.specs.Io.KnownBytes.{Appends, Keeps, IsAtEnd}
use Rattle.sqlite.specs.Store.{Ghosts}
use Rattle.bike_requests.specs.Spelling.{SpellsRequest}
use Rattle.bike_operator.specs.Operator.{Operator}
use Rattle.bike_operator.specs.Runs.{Call, after}
use Rattle.bike_operator.specs.Sound.{IsCall, AreCalls}
use Rattle.bike_schema.specs.Stands.{AllLeft}
use Rattle.bike_desk.specs.Desk.{DeskValue, desk_state, IsAt, TreesStandForEither}
use Rattle.bike_desk.specs.declared.fault.DeskFault.{DeskFault}
use Rattle.bike_desk.specs.declared.fault.DeskFault.TheVariants.{NoMemory, StoreFailed, Stopped}
use Rattle.bike_stream.specs.Lines.{lines_of, IsFree}
use Rattle.bike_batch.specs.declared.line_fault.LinesFault.{LinesFault}
use Rattle.bike_batch.specs.declared.line_fault.LinesFault.TheVariants.{Read, TooManyReads, Write, Desk}
use Rattle.bike_batch.specs.declared.lines.TheConstants.{MOST_READS}
use Rattle.bike_batch.specs.Answers.{IsReadAs, AreReadAs, ChangesNothing, after_line, after_lines, answer, answers}
use Rattle.bike_desk.specs.Runs.{LeavesEither}

-- ---- the bytes of an input, as far as they are known

-- these are its lines
abbrev pub AreLinesOf : Option (List ℕ) → List (List ℕ) → Type 0
AreLinesOf None lines = ⊤
AreLinesOf (Some text) lines = lines_of text ≡ lines

-- each of its lines changes nothing of the operator; where they aren't known, no line does
abbrev pub AllChangeNothing : Operator → Option (List ℕ) → Type 0
AllChangeNothing s input =
    (done rest : List (List ℕ)) (line : List ℕ) → AreLinesOf input (done ++ line ∷ rest) → ChangesNothing s line

-- nothing of it is ahead
abbrev pub IsReadWhole : Option (List ℕ) → Option (List ℕ) → Type 0
IsReadWhole None ahead = ⊤
IsReadWhole (Some text) ahead = IsAtEnd ahead

-- what was read of it are these lines and the front of one more, and the rest is ahead
abbrev pub IsReadTo : Option (List ℕ) → Option (List ℕ) → List (List ℕ) → List ℕ → Type 0
IsReadTo None ahead lines front = ⊤
IsReadTo (Some text) None lines front = ⊥
IsReadTo (Some text) (Some ahead) lines front = lines_of text ≡ lines ++ lines_of (front ++ ahead)

-- as many reads as are made at most gave a byte each, but one, which may have found the end
abbrev pub TakesMostReads : Option (List ℕ) → Option (List ℕ) → Type 0
TakesMostReads None ahead = ⊤
TakesMostReads (Some text) None = ⊥
TakesMostReads (Some text) (Some ahead) = MOST_READS + length ahead ≤ length text + 1

-- ---- the run

-- the fault of the desk, if that ended the run
abbrev pub desk_fault : Result ℕ LinesFault → Option DeskFault
desk_fault (Ok count) = None
desk_fault (Err Read) = None
desk_fault (Err TooManyReads) = None
desk_fault (Err Write) = None
desk_fault (Err (Desk fault)) = Some fault

module _ {S : Type 0} (g : Ghosts S) (desk : DeskValue S) (s : Operator) where
  -- The desk after requests were served: at the operator after them, or its store failed at one more.
  abbrev pub EndsAfter : List Call → Option DeskFault → Type 0
  EndsAfter calls None = IsAt g desk (after s calls)
  EndsAfter calls (Some NoMemory) = IsAt g desk (after s calls)
  EndsAfter calls (Some StoreFailed) =
      IsTrue desk.is_stopped × (c : Call) × IsCall c
      × AllLeft (desk_state g desk) (TreesStandForEither (after s calls) (after s (calls ++ c ∷ [])))
  EndsAfter calls (Some Stopped) = ⊥

  -- some requests were served
  pub record ServesSome (fault : Option DeskFault) : Type 0 where
    pub calls : List Call
    pub good : AreCalls calls
    pub ends : EndsAfter calls fault

  -- these lines are answered, and nothing else is written
  pub record Answered (old new : Option (List ℕ)) (done : List (List ℕ)) (calls : List (Option Call)) : Type 0 where
    pub read : AreReadAs done calls
    pub at : IsAt g desk (after_lines s calls)
    pub written : Appends old new (answers s calls)

  -- the input before and after the run, and what was written before and after
  module _ (input ahead old new : Option (List ℕ)) where
    -- all lines are answered
    pub record AnswersAll (count : ℕ) : Type 0 where
      pub lines : List (List ℕ)
      pub calls : List (Option Call)
      pub text : AreLinesOf input lines
      pub ended : IsReadWhole input ahead
      pub all : Answered old new lines calls
      pub counted : count ≡ length lines

    -- what was read are the answered lines and a front of the next one
    pub record BreaksOff : Type 0 where
      pub done : List (List ℕ)
      pub front : List ℕ
      pub calls : List (Option Call)
      pub text : IsReadTo input ahead done front
      pub unended : IsFree front
      pub before : Answered old new done calls

    -- the lines before are answered; for the request of the next one memory was refused, and it changed nothing
    pub record WantsMemory : Type 0 where
      pub done : List (List ℕ)
      pub line : List ℕ
      pub rest : List (List ℕ)
      pub calls : List (Option Call)
      pub text : AreLinesOf input (done ++ line ∷ rest)
      pub spelled : SpellsRequest line
      pub before : Answered old new done calls

    -- nothing was read or written, and nothing served
    pub record DoesNothing : Type 0 where
      pub read : Keeps input ahead
      pub before : Answered old new [] []

    -- the lines before are answered; the next one is served, and less than its answer is written
    pub record AnswersInto : Type 0 where
      pub done : List (List ℕ)
      pub line : List ℕ
      pub rest : List (List ℕ)
      pub calls : List (Option Call)
      pub call : Option Call
      pub count : ℕ
      pub text : AreLinesOf input (done ++ line ∷ rest)
      pub read : AreReadAs done calls
      pub next : IsReadAs line call
      pub at : IsAt g desk (after_line (after_lines s calls) call)
      pub short : count < length (answer (after_lines s calls) call)
      pub written : Appends old new (answers s calls ++ take count (answer (after_lines s calls) call))

    -- the lines before are answered; the store failed at the next one
    pub record FailsAt : Type 0 where
      pub done : List (List ℕ)
      pub line : List ℕ
      pub rest : List (List ℕ)
      pub calls : List (Option Call)
      pub call : Call
      pub text : AreLinesOf input (done ++ line ∷ rest)
      pub read : AreReadAs done calls
      pub next : IsReadAs line (Some call)
      pub stopped : IsTrue desk.is_stopped
      pub left : LeavesEither g desk (after_lines s calls) call
      pub written : Appends old new (answers s calls)

    -- what stands after each fault; the buffers want memory before the first line
    abbrev pub EndsBy : LinesFault → Type 0
    EndsBy Read = BreaksOff
    EndsBy TooManyReads = BreaksOff × TakesMostReads input ahead
    EndsBy Write = AnswersInto
    EndsBy (Desk NoMemory) = DoesNothing ⊎ WantsMemory
    EndsBy (Desk StoreFailed) = FailsAt
    EndsBy (Desk Stopped) = ⊥

    -- what stands after the run
    abbrev pub RanLines : Result ℕ LinesFault → Type 0
    RanLines (Ok count) = AnswersAll count
    RanLines (Err fault) = EndsBy fault
