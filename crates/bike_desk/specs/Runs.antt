-- What a run over a list of requests leaves, and what it answers.
use Rattle.std.specs.Prelude.{◌≡◌, ◌⊎◌, ◌≤◌, ◌<◌, ◌+◌, ℕ, IsTrue, false, List, length, take, Option, Some, None}
use Rattle.sqlite_trees.specs.Tree.{Trees}
use Rattle.sqlite_trees.specs.declared.store.Store.{Ghosts}
use Rattle.bike_commands.specs.declared.reply.Reply.{Reply}
use Rattle.bike_operator.specs.Operator.{Operator}
use Rattle.bike_operator.specs.Runs.{Call, step, after, replies}
use Rattle.bike_schema.specs.Stands.{AllLeft, TreesStandFor}
use Rattle.bike_desk.specs.declared.fault.DeskFault.{DeskFault}
use Rattle.bike_desk.specs.declared.fault.DeskFault.TheVariants.{NoMemory, StoreFailed, Stopped}
use Rattle.bike_desk.specs.Desk.{DeskValue, desk_state, IsAt, TreesStandForEither}

-- what a crash may leave stands for the operator before or after the request
abbrev pub LeavesEither : {S : Type 0} → Ghosts S → DeskValue S → Operator → Call → Type 0
LeavesEither g desk s c = AllLeft (desk_state g desk) (TreesStandForEither s (step s c.0 c.1).1)

module _ {S : Type 0} (g : Ghosts S) (desk : DeskValue S) (s : Operator) (calls : List Call) where
  -- the desk after k answers, as the fault of the next request tells, or of
  -- the room for replies; an unstopped desk is not told that it is stopped
  abbrev pub EndsAt : ℕ → Option DeskFault → Type 0
  EndsAt k None = (k ≡ length calls) × IsAt g desk (after s calls)
  EndsAt k (Some NoMemory) = ((k ≡ 0) ⊎ (k < length calls)) × IsAt g desk (after s (take k calls))
  EndsAt k (Some StoreFailed) =
      (k < length calls) × IsTrue desk.is_stopped
      × AllLeft (desk_state g desk) (TreesStandForEither (after s (take k calls)) (after s (take (k + 1) calls)))
  EndsAt k (Some Stopped) = ⊥

  -- The answers are the replies to a front of the list, and the desk is as the end tells.
  pub record Ran (told : List Reply) (end : Option DeskFault) : Type 0 where
    pub within : length told ≤ length calls
    pub front : told ≡ replies s (take (length told) calls)
    pub ends : EndsAt (length told) end

-- A stopped desk refuses and stays as it is, and no other desk
-- tells that; a failed store stops the desk, and nothing else does.
pub record StopsBy {S : Type 0} (old new : DeskValue S) (end : Option DeskFault) : Type 0 where
  pub refused : IsTrue old.is_stopped → (end ≡ Some Stopped) × (new ≡ old)
  pub only : end ≡ Some Stopped → IsTrue old.is_stopped
  pub stopped : end ≡ Some StoreFailed → IsTrue new.is_stopped
  pub goes_on : old.is_stopped ≡ false → IsTrue new.is_stopped → end ≡ Some StoreFailed

-- the trees stand for the operator after a front of the list
-- that holds the k acknowledged requests and at most one more
abbrev pub IsAfterFront : Operator → List Call → ℕ → Trees → Type 0
IsAfterFront s calls k trees =
    (j : ℕ) × (k ≤ j) × (j ≤ k + 1) × (j ≤ length calls) × TreesStandFor (after s (take j calls)) trees

-- the desk is at the operator after such a front
abbrev pub IsAtFront : {S : Type 0} → Ghosts S → DeskValue S → Operator → List Call → ℕ → Type 0
IsAtFront g d s calls k = (j : ℕ) × (k ≤ j) × (j ≤ k + 1) × (j ≤ length calls) × IsAt g d (after s (take j calls))
