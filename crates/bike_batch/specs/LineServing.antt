-- What serving one line leaves, and what it replies.
use Rattle.std.specs.Prelude.{◌≡◌, ◌≢◌, ℕ, ◌≤◌, IsTrue, false, List, Option, Some, Result, Ok, Err}
use Rattle.sqlite.specs.Store.{Ghosts}
use Rattle.sqlite.specs.State.{HasCleanDisk}
use Rattle.sqlite_trees.specs.View.{doubt}
use Rattle.bike_commands.specs.declared.reply.Reply.{Reply}
use Rattle.bike_requests.specs.Spelling.{SpellsRequest}
use Rattle.bike_operator.specs.Operator.{Operator}
use Rattle.bike_operator.specs.Runs.{Call}
use Rattle.bike_desk.specs.Desk.{DeskValue, desk_state, IsAt, KeepsDatabase}
use Rattle.bike_desk.specs.Runs.{LeavesEither}
use Rattle.bike_desk.specs.declared.fault.DeskFault.{DeskFault}
use Rattle.bike_desk.specs.declared.fault.DeskFault.TheVariants.{NoMemory, StoreFailed, Stopped}
use Rattle.bike_batch.specs.Answers.{IsReadAs, ChangesNothing, reply_to, after_line}

module _ {S : Type 0} (g : Ghosts S) (old new : DeskValue S) where
  -- on a clean disk: the desk at an operator gives its reply to what the line is read as, or fails at the request of it
  abbrev pub RepliesAt : List ℕ → Operator → Result Reply DeskFault → Type 0
  RepliesAt line s (Ok reply) =
      (c : Option Call) × IsReadAs line c × (reply ≡ reply_to s c) × IsAt g new (after_line s c)
  RepliesAt line s (Err NoMemory) = SpellsRequest line × IsAt g new s
  RepliesAt line s (Err StoreFailed) = (c : Call) × IsReadAs line (Some c) × LeavesEither g new s c
  RepliesAt line s (Err Stopped) = ⊥

  -- whatever the disk: only a failed store stops a desk, and only a stopped desk tells that
  abbrev pub GoesOn : Result Reply DeskFault → Type 0
  GoesOn (Ok reply) = new.is_stopped ≡ false
  GoesOn (Err NoMemory) = new.is_stopped ≡ false
  GoesOn (Err StoreFailed) = IsTrue new.is_stopped
  GoesOn (Err Stopped) = ⊥

  -- A line is served.
  pub record RepliesTo (line : List ℕ) (result : Result Reply DeskFault) : Type 0 where
    pub clean : doubt (desk_state g old).is_clean ≤ doubt (desk_state g new).is_clean
    pub goes_on : old.is_stopped ≡ false → GoesOn result
    pub replied : HasCleanDisk (desk_state g new) → (s : Operator) → IsAt g old s → RepliesAt line s result
    pub rests : HasCleanDisk (desk_state g new) → (s : Operator) → IsAt g old s → ChangesNothing s line
        → result ≢ Err StoreFailed → KeepsDatabase g old new
