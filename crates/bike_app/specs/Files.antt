-- What the program does over a file, by the bytes that the file and its log held.
use Rattle.std.specs.Prelude.{◌≡◌, ◌⊎◌, ℕ, Bool, true, false, List, Option, Some, None, Result, Err}
use Rattle.std.specs.Io.KnownBytes.{Keeps}
use Rattle.sqlite_disk.specs.declared.Disk as disk
use Rattle.sqlite_disk.specs.declared.Files.{Files}
use Rattle.sqlite_disk.specs.declared.start.Start as start
use Rattle.sqlite_wal.specs.Reads.{AreClean}
use Rattle.sqlite_wal.specs.Recovery.{Image}
use Rattle.sqlite_wal.specs.Files.{image_at}
use Rattle.sqlite_store.specs.declared.store.FileStore.{FileStore}
use Rattle.sqlite_store.specs.FileStore.{files}
use Rattle.sqlite.specs.Held.{Held}
use Rattle.sqlite.specs.Start.{FindsIn}
use Rattle.sqlite.specs.State.{HasCleanDisk}
use Rattle.sqlite.specs.Closing.{IsCopied}
use Rattle.sqlite.specs.Files.{over_files, file_state, HoldsDatabase, IsClosed, IsOpened}
use Rattle.sqlite_trees.specs.Tree.{Trees}
use Rattle.bike_operator.specs.Operator.{Operator}
use Rattle.bike_schema.specs.Stands.{AllLeft}
use Rattle.bike_recognition.specs.declared.earlier_versions.earlier.Earlier.{Earlier}
use Rattle.bike_recognition.specs.EarlierVersions.Stores.{TreesStandForAt}
use Rattle.bike_migrate.specs.Raising.{TreesStandSince}
use Rattle.bike_recognition.specs.Added.{has_added_unique}
use Rattle.bike_command_line.specs.declared.task.FileTask.{FileTask}
use Rattle.bike_command_line.specs.declared.task.FileTask.TheVariants.{Init, Raise, Lines, Import}
use Rattle.bike_console.specs.declared.end.Fault.{Fault}
use Rattle.bike_console.specs.declared.end.Fault.TheVariants.{StoreFailed}
use Rattle.bike_console.specs.declared.closing.Remains.{Remains}
use Rattle.bike_console.specs.declared.closing.Remains.TheVariants as remains
use Rattle.bike_console.specs.declared.look.KeptFiles.{KeptFiles}
use Rattle.bike_console.specs.Files.{IsOpeningFault, IsRefused}
use Rattle.bike_console.specs.Looks.{AreSeen, Shown, shown}
use Rattle.bike_read_only.specs.Files.{IsStill}
use Rattle.bike_app.specs.Words.{Does}

-- There is no connection to a file of these bytes, for the reason
-- that the end tells. Nothing was read, and nothing written.
pub record IsUntouched {D : Type 0} {g : disk.Ghosts D} (image : Image) (conn : Option (Held (FileStore D g)))
    (input ahead old new : Option (List ℕ)) (end : Result ℕ Fault) : Type 0 where
  pub read : Keeps input ahead
  pub wrote : Keeps old new
  pub fault : Fault
  pub told : end ≡ Err fault
  pub is : IsOpeningFault fault
  pub why : IsRefused g image fault

-- WHAT THE PROGRAM DOES OVER A FILE: what its task does over a connection that was opened on what the bytes hold, where
-- nobody added a UNIQUE index to a table of the product's
pub record DoesOverFile {E : Type 0} {e : disk.Ghosts E} (image : Image) (input ahead old new : Option (List ℕ))
    (task : FileTask) (clock : Option ℕ) (last : Held (FileStore E e)) (end : Result ℕ Fault) : Type 0 where
  pub first : Held (FileStore E e)
  pub opened : IsOpened first
  pub found : FindsIn image (file_state first)
  pub own : has_added_unique (file_state first).now.schema ≡ false
  pub does : Does over_files input ahead old new task clock first last end

-- the bytes hold a database that stands for the operator at the version
abbrev pub HoldsOperatorAt : Image → Option Earlier → Operator → Type 0
HoldsOperatorAt image v s = (db : Trees) × HoldsDatabase image db × TreesStandForAt v s db

-- all that a crash may leave of a file that held an operator at
-- a version stands for that operator, there or at the newest
abbrev pub LeavesRaised : {E : Type 0} {e : disk.Ghosts E} → Image → Held (FileStore E e) → Type 0
LeavesRaised image last =
    HasCleanDisk (file_state last) → (v : Option Earlier) (s : Operator) → HoldsOperatorAt image v s
    → AllLeft (file_state last) (TreesStandSince v s)

-- ---- how a word over a file ends

-- the words that may change a database, which is closed at their end
abbrev pub settles : FileTask → Bool
settles Init = true
settles Raise = true
settles Lines = true
settles (Import name at) = true
settles _ = false

-- Nothing was opened, read or written: there is no file at the path, or none that
-- is to be raised, and none may be made, or a log stands there without its file.
pub record IsNotThere (input ahead old new : Option (List ℕ)) (end : Result ℕ Fault) : Type 0 where
  pub read : Keeps input ahead
  pub wrote : Keeps old new
  pub fault : Fault
  pub told : end ≡ Err fault
  pub is : IsOpeningFault fault

-- The task was done over a connection, and the database file holds by
-- itself what that committed last: as it reads now, and after a crash.
pub record EndsSettled {D : Type 0} (g : disk.Ghosts D) (image : Image) (input ahead old new : Option (List ℕ))
    (task : FileTask) (clock : Option ℕ)
    (files : Files D) (end : Result ℕ Fault) : Type 0 where
  pub last : Held (FileStore D g)
  pub does : HasCleanDisk (file_state last) → DoesOverFile image input ahead old new task clock last end
  pub alone : AreClean g files.log files.db → IsCopied last files

module _ {D S : Type 0} (g : disk.Ghosts D) (s : start.Ghosts S) where
  -- The task was done over a connection to the bytes that were
  -- found; a database file that it reads itself holds what it held.
  pub record LooksThrough (found : Image) (input ahead old new : Option (List ℕ)) (task : FileTask) (clock : Option ℕ)
      (end : Result ℕ Fault) : Type 0 where
    pub last : Held (FileStore (Shown g s) (shown g s))
    pub does : HasCleanDisk (file_state last) → DoesOverFile found input ahead old new task clock last end
    pub log_still : IsStill g s (files last.store).0
    pub db_still : IsStill g s (files last.store).1

  -- WHAT A WORD DOES THAT ONLY LOOKS: the files hold what they held, now and after a crash, and it was done over the
  -- bytes that were found, or there is no connection to these for the reason that the end tells.
  pub record LooksOver (input ahead old new : Option (List ℕ)) (task : FileTask) (clock : Option ℕ)
      (end : Result ℕ Fault) : Type 0 where
    pub looks : settles task ≡ false
    pub kept : KeptFiles D
    pub found : Image
    pub seen : AreSeen g s kept found
    pub told : IsUntouched {D = Shown g s} {g = shown g s} found None input ahead old new end
        ⊎ LooksThrough found input ahead old new task clock end

module _ {D S : Type 0} {g : disk.Ghosts D} (s : start.Ghosts S) (input ahead old new : Option (List ℕ))
    (task : FileTask) (clock : Option ℕ) where
  -- The task was done over a connection, and its log couldn't be brought into the file.
  pub record EndsUnsettled (store : FileStore D g) (end : Result ℕ Fault) : Type 0 where
    pub last : Held (FileStore D g)
    pub was : Result ℕ Fault
    pub does : HasCleanDisk (file_state last) → DoesOverFile (image_at s) input ahead old new task clock last was
    pub kept : IsClosed last store
    pub told : end ≡ Err StoreFailed

  -- HOW A WORD OVER A FILE ENDS: by what is left of its connection
  abbrev pub EndsOnFile : Option (Remains D g) → Result ℕ Fault → Type 0
  EndsOnFile None end =
      IsNotThere input ahead old new end ⊎ (IsUntouched {D = D} {g = g} (image_at s) None input ahead old new end
      ⊎ LooksOver g s input ahead old new task clock end)
  EndsOnFile (Some (remains.Open c)) end =
      HasCleanDisk (file_state c) → DoesOverFile (image_at s) input ahead old new task clock c end
  EndsOnFile (Some (remains.Settled files)) end = EndsSettled g (image_at s) input ahead old new task clock files end
  EndsOnFile (Some (remains.Unsettled store)) end = EndsUnsettled store end

-- the database file is the whole database by itself
abbrev pub IsAlone : {D : Type 0} {g : disk.Ghosts D} → Option (Remains D g) → Type 0
IsAlone (Some (remains.Settled files)) = Unit {0}
IsAlone _ = ⊥
