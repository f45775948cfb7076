-- What each word of the program does with a database, and what it leaves.
use Rattle.std.specs.Prelude.{◌≡◌, ◌⊎◌, ℕ, List, codes, Option, Result}
use Rattle.std.specs.Io.KnownBytes.{Keeps as KeepsBytes}
use Rattle.sqlite_trees.specs.Tree.{Trees}
use Rattle.sqlite.specs.Store.{Ghosts}
use Rattle.sqlite.specs.Held.{Held, state}
use Rattle.sqlite.specs.State.{IsUnchanged}
use Rattle.bike_operator.specs.Operator.{Operator}
use Rattle.bike_schema.specs.Stands.{IsOf, Keeps, TreesStandFor}
use Rattle.bike_command_line.specs.declared.task.FileTask.{FileTask}
use Rattle.bike_command_line.specs.declared.task.FileTask.TheVariants.{Init, Check, Raise, Lines, Feed, Day, History}
use Rattle.bike_command_line.specs.declared.task.FileTask.TheVariants.{Import}
use Rattle.bike_console.specs.declared.end.Fault.{Fault}
use Rattle.bike_app.specs.Program.{StandsAfterSome, Refuses, Serves, FailsToBegin, ServesInMemory}
use Rattle.bike_app.specs.Feeds.{TellsPublished, PublishesInMemory, moment_of}
use Rattle.bike_app.specs.Days.{TellsReported, ReportsInMemory}
use Rattle.bike_app.specs.History.{TellsRecounted, RecountsInMemory}
use Rattle.bike_app.specs.Imports.{TellsImported, ImportsInMemory}
use Rattle.bike_app.specs.Raises.{WritesLine, TellsRaised, version_line}

-- The database stood for an operator, or had none of the tables, and stands for it, with all that a crash may leave.
pub record TakenUp {S : Type 0} (g : Ghosts S) (first last : Held S) : Type 0 where
  pub operator : Operator
  pub was : IsOf (state g first).now operator
  pub keeps : Keeps (state g last) operator

-- The database stands for an operator, or has none of the tables, and is as it was.
pub record LookedAt {S : Type 0} (g : Ghosts S) (first last : Held S) : Type 0 where
  pub operator : Operator
  pub was : IsOf (state g first).now operator
  pub same : (last ≡ first) ⊎ IsUnchanged (state g first) (state g last)

-- what was written before and after
module _ {S : Type 0} (g : Ghosts S) (old new : Option (List ℕ)) where
  -- the database isn't one that is served, or it is, and a line tells that
  abbrev pub TellsLookedAt : Held S → Held S → List ℕ → Result ℕ Fault → Type 0
  TellsLookedAt first last line end =
      Refuses g old new first last end ⊎ (LookedAt g first last × WritesLine old new line end)

  -- the connection couldn't be adopted, or it was and a line tells that
  abbrev pub TellsTakenUp : Held S → Held S → List ℕ → Result ℕ Fault → Type 0
  TellsTakenUp first last line end =
      Refuses g old new first last end ⊎ (TakenUp g first last × WritesLine old new line end)

-- the input before and after, and what was written before and after
module _ {S : Type 0} (g : Ghosts S) (input ahead old new : Option (List ℕ)) where
  -- WHAT A TASK DOES over this connection, which becomes that one,
  -- where the clock gave this moment; lines and an import alone read
  abbrev pub Does : FileTask → Option ℕ → Held S → Held S → Result ℕ Fault → Type 0
  Does Init clock first last end = KeepsBytes input ahead × TellsTakenUp g old new first last (codes "ready\n") end
  Does Check clock first last end = KeepsBytes input ahead × TellsLookedAt g old new first last (codes "sound\n") end
  Does Raise clock first last end = KeepsBytes input ahead × TellsRaised g old new first last end
  Does Lines clock first last end = Serves g input ahead old new first last end
  Does (Feed f at) clock first last end =
      KeepsBytes input ahead × TellsPublished g old new first last f (moment_of at clock) end
  Does (Day table date zone) clock first last end =
      KeepsBytes input ahead × TellsReported table date.now zone.now g old new first last end
  Does (History after) clock first last end =
      KeepsBytes input ahead × TellsRecounted after g old new first last end
  Does (Import name at) clock first last end =
      TellsImported g input ahead old new name.now first last (moment_of at clock) end

-- the words that only look
abbrev pub Looks : FileTask → Type 0
Looks Check = Unit {0}
Looks (Feed f at) = Unit {0}
Looks (Day table date zone) = Unit {0}
Looks (History after) = Unit {0}
Looks _ = ⊥

-- the word that raises
abbrev pub IsRaise : FileTask → Type 0
IsRaise Raise = Unit {0}
IsRaise _ = ⊥

-- what a crash may leave of a database that stood for the operator
abbrev pub MayStand : FileTask → Operator → Trees → Type 0
MayStand Lines s trees = StandsAfterSome s trees
MayStand (Import name at) s trees = StandsAfterSome s trees
MayStand _ s trees = TreesStandFor s trees

-- over a database in memory
module _ (input ahead old new : Option (List ℕ)) where
  abbrev pub DoesInMemory : FileTask → Option ℕ → Result ℕ Fault → Type 0
  DoesInMemory Init clock end =
      KeepsBytes input ahead × (FailsToBegin old new end ⊎ WritesLine old new (codes "ready\n") end)
  DoesInMemory Check clock end =
      KeepsBytes input ahead × (FailsToBegin old new end ⊎ WritesLine old new (codes "sound\n") end)
  DoesInMemory Raise clock end =
      KeepsBytes input ahead × (FailsToBegin old new end ⊎ WritesLine old new version_line end)
  DoesInMemory Lines clock end = ServesInMemory input ahead old new end
  DoesInMemory (Feed f at) clock end = KeepsBytes input ahead × PublishesInMemory old new f (moment_of at clock) end
  DoesInMemory (Day table date zone) clock end =
      KeepsBytes input ahead × ReportsInMemory table date.now zone.now old new end
  DoesInMemory (History after) clock end = KeepsBytes input ahead × RecountsInMemory old new end
  DoesInMemory (Import name at) clock end = ImportsInMemory input ahead old new name.now (moment_of at clock) end
