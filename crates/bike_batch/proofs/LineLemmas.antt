-- What a line was read as, and the reply to it.
use Rattle.std.proofs.Common.{◌≡◌, ℕ, ◌≤◌, List, Option, Some, None, Result, Ok, Err, IsTrue, false, refl, ap, subst, sym}
use Rattle.std.specs.Prelude.{◌≢◌, IfSome, IfOk, OnOk}
use Rattle.std.proofs.lemmas.Option.{none-some}
use Rattle.std.proofs.lemmas.Bool.{both_ways}
use Rattle.sqlite.specs.Store.{Ghosts}
use Rattle.bike_fixed.specs.Whole.{last_moment}
use Rattle.bike_commands.specs.declared.reply.Reply.{Reply}
use Rattle.bike_commands.specs.declared.request.Request.{Request}
use Rattle.bike_commands.specs.Requests.{IsRequest, IsLine}
use Rattle.bike_requests.specs.Spelling.{SpellsRequest}
use Rattle.bike_operator.specs.Operator.{Operator}
use Rattle.bike_operator.specs.Runs.{Call, step}
use Rattle.bike_schema.specs.Stands.{AllLeft}
use Rattle.bike_desk.specs.Desk.{DeskValue, desk_state, IsAt, KeepsDatabase, TreesStandForEither}
use Rattle.bike_desk.specs.declared.fault.DeskFault.{DeskFault}
use Rattle.bike_desk.specs.declared.fault.DeskFault.TheVariants.{NoMemory, StoreFailed, Stopped}
use Rattle.bike_batch.specs.Answers.{IsReadAs, ChangesNothing, after_line}
use Rattle.bike_batch.specs.LineServing.{RepliesAt, GoesOn}

pub read_as : (line : List ℕ) (o : Option Call) → IfSome o (λ r. IsLine line r.0 r.1 × IsRequest r.1 × (r.0 ≤ last_moment))
    → ((t : ℕ) (q : Request) → t ≤ last_moment → IsRequest q → IsLine line t q → o ≡ Some (t, q)) → IsReadAs line o
read_as line (Some c) found only = found
read_as line None found only = λ t q h r l. absurd (none-some (t, q) (only t q h r l))

pub spells : (line : List ℕ) (c : Call) → IsReadAs line (Some c) → SpellsRequest line
spells line c read = record { moment = c.0; request = c.1; spelled = read.0; good = read.1; moment_good = read.2 }

-- a line that changes nothing was read
pub after_none : (s : Operator) (line : List ℕ) (c : Option Call) → ChangesNothing s line → IsReadAs line c → after_line s c ≡ s
after_none s line None none read = refl
after_none s line (Some c) none read = none c.0 c.1 read.2 read.1 read.0

module _ {S : Type 0} (g : Ghosts S) (old new : DeskValue S) where
  -- a desk that serves a request goes on, but where its store failed
  pub goes_on : (result : Result Reply DeskFault) → old.is_stopped ≡ false → OnOk result (new.is_stopped ≡ false) → (result ≡ Err NoMemory → new ≡ old)
      → (result ≡ Err StoreFailed → IsTrue new.is_stopped) → (result ≡ Err Stopped → IsTrue old.is_stopped) → GoesOn g old new result
  goes_on (Ok reply) on ok same failed stopped = ok
  goes_on (Err NoMemory) on ok same failed stopped = subst (λ (d : DeskValue S). d.is_stopped ≡ false) (sym (same refl)) on
  goes_on (Err StoreFailed) on ok same failed stopped = failed refl
  goes_on (Err Stopped) on ok same failed stopped = both_ways old.is_stopped on (stopped refl)

  -- the reply to a line is that to the request which it spells
  pub replies_at : (line : List ℕ) (c : Call) (s : Operator) (result : Result Reply DeskFault) → IsReadAs line (Some c) → IsAt g old s
      → IfOk result (λ reply. (reply ≡ (step s c.0 c.1).0) × IsAt g new (step s c.0 c.1).1) → (result ≡ Err NoMemory → new ≡ old)
      → (result ≡ Err StoreFailed → AllLeft (desk_state g new) (TreesStandForEither s (step s c.0 c.1).1)) → (result ≡ Err Stopped → IsTrue old.is_stopped) → RepliesAt g old new line s result
  replies_at line c s (Ok reply) read at ok same failed stopped = (Some c, read, ok.0, ok.1)
  replies_at line c s (Err NoMemory) read at ok same failed stopped = (spells line c read, subst (λ (d : DeskValue S). IsAt g d s) (sym (same refl)) at)
  replies_at line c s (Err StoreFailed) read at ok same failed stopped = (c, read, failed refl)
  replies_at line c s (Err Stopped) read at ok same failed stopped = both_ways old.is_stopped at.goes_on (stopped refl)

  -- a request that changes nothing of the operator changes nothing of the database
  pub keeps_database : (line : List ℕ) (c : Call) (s : Operator) (result : Result Reply DeskFault) → IsReadAs line (Some c) → ChangesNothing s line
      → ((step s c.0 c.1).1 ≡ s → OnOk result (KeepsDatabase g old new)) → (result ≡ Err NoMemory → new ≡ old) → (result ≡ Err Stopped → IsTrue old.is_stopped)
      → (IsTrue old.is_stopped → (result ≡ Err Stopped) × (new ≡ old)) → result ≢ Err StoreFailed → KeepsDatabase g old new
  keeps_database line c s (Ok reply) read none ok same stopped stays other = ok (none c.0 c.1 read.2 read.1 read.0)
  keeps_database line c s (Err NoMemory) read none ok same stopped stays other = ap (λ (d : DeskValue S). (desk_state g d).now) (same refl)
  keeps_database line c s (Err StoreFailed) read none ok same stopped stays other = absurd (other refl)
  keeps_database line c s (Err Stopped) read none ok same stopped stays other = ap (λ (d : DeskValue S). (desk_state g d).now) (stays (stopped refl)).1
