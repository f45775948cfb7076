-- Why a file isn't open.
use Rattle.std.specs.Prelude.{◌≡◌, ◌⊎◌, ◌≤◌, ◌/◌, ℕ, true, List, length, slice_index, Result, Ok, Err}
use Rattle.sqlite_disk.specs.declared.Disk as disk
use Rattle.sqlite_disk.specs.declared.Files.{Files}
use Rattle.sqlite_wal.specs.Format.{IsSigned}
use Rattle.sqlite_wal.specs.Recovery.{Image, header}
use Rattle.sqlite_wal.specs.Reads.{AreClean}
use Rattle.sqlite_store.specs.declared.store.FileStore.{FileStore}
use Rattle.sqlite.specs.Held.{Held}
use Rattle.sqlite.specs.State.{HasCleanDisk}
use Rattle.sqlite.specs.Start.{FindsIn}
use Rattle.sqlite.specs.Files.{file_state, image_of, IsOpened, IsCleanLeft, FailsToOpenFiles, HoldsDatabase}
use Rattle.sqlite.specs.Files.{LeavesFiles}
use Rattle.sqlite.specs.declared.file.Leftover.{Leftover}
use Rattle.sqlite.specs.declared.file.Leftover.TheVariants as left
use Rattle.sqlite.specs.declared.error.Error.{Error}
use Rattle.sqlite.specs.declared.error.Error.TheVariants.{SqliteFailure}
use Rattle.sqlite.specs.declared.error.ErrorCode.TheVariants as code
use Rattle.sqlite_trees.specs.Tree.{Trees}
use Rattle.bike_operator.specs.Operator.{Operator}
use Rattle.bike_schema.specs.Stands.{TreesStandFor}
use Rattle.bike_recognition.specs.Added.{has_added_unique}
use Rattle.bike_console.specs.declared.end.Fault.{Fault}
use Rattle.bike_console.specs.declared.end.Fault.TheVariants.{OutOfMemory, StoreFailed, Foreign}
use Rattle.bike_console.specs.Ends.{open_fault}
use Rattle.bike_console.specs.declared.log.TheConstants.{LEAST_LOG}

-- memory was refused, or the file can't be opened, or is no
-- database, or has an index on which a good request could fail
abbrev pub IsOpeningFault : Fault → Type 0
IsOpeningFault fault = (fault ≡ OutOfMemory) ⊎ ((fault ≡ StoreFailed) ⊎ (fault ≡ Foreign))

-- no file was opened: none can be at the path, another program holds it, or memory was refused
abbrev pub IsBarred : Error → Type 0
IsBarred e =
    (e ≡ SqliteFailure code.CannotOpen) ⊎ ((e ≡ SqliteFailure code.OutOfMemory) ⊎ (e ≡ SqliteFailure code.DatabaseBusy))

-- that is told, and no file was opened
abbrev pub TellsBarred : Fault → Type 0
TellsBarred told = (e : Error) × (told ≡ open_fault e) × IsBarred e

-- A LOG ALONE: the database file has at most one byte, and its log is long enough to hold a commit.
abbrev pub IsLoneLog : Image → Type 0
IsLoneLog image = (length image.db ≤ 1) × (LEAST_LOG ≤ length image.log)

-- The engine had begun to write a header anew: it took the first
-- byte of the magic number away before, and puts it back last.
abbrev pub IsBegunAnew : List ℕ → Type 0
IsBegunAnew head =
    (slice_index head 0 ≡ 0) × ((slice_index head 1 ≡ 0x7f)
    × ((slice_index head 2 ≡ 0x06) × (slice_index head 3 / 2 ≡ 0x82 / 2)))

-- a header that fails its own test, and isn't being written anew
abbrev pub IsBroken : List ℕ → Type 0
IsBroken head = (¬ IsBegunAnew head) × (¬ IsSigned head)

-- A DAMAGED LOG: it is long enough to hold a commit, and its header is broken.
abbrev pub IsDamagedLog : List ℕ → Type 0
IsDamagedLog log = (LEAST_LOG ≤ length log) × IsBroken (header log)

-- the log may hold commits, and an engine begins anew over it
abbrev pub IsLostLog : Image → Type 0
IsLostLog image = IsLoneLog image ⊎ IsDamagedLog image.log

module _ {D : Type 0} (g : disk.Ghosts D) (image : Image) where
  -- Files that hold these bytes were opened, and the engine could not go on. Where nothing else wrote to them, memory
  -- was refused, the disk failed or is full, or the bytes are neither a database nor an empty file; and what is left of
  -- them opens as they did.
  pub record FailsOnFiles (e : Error) : Type 0 where
    pub files : Files D
    pub bytes : image_of g files ≡ image
    pub left : Leftover D g
    pub why : IsCleanLeft left → FailsToOpenFiles files left e
    pub keeps : IsCleanLeft left → LeavesFiles files left

  -- Files that hold these bytes were opened, and an engine would begin anew over their log. They were only read.
  pub record FindsLostLog : Type 0 where
    pub files : Files D
    pub bytes : image_of g files ≡ image
    pub now : Files D
    pub lost : AreClean g now.log now.db → IsLostLog image
    pub keeps : LeavesFiles {g = g} files (left.Files now)

  -- what is told of a file that isn't open, and why
  pub record IsUnopened (told : Fault) : Type 0 where
    pub error : Error
    pub told_of : told ≡ open_fault error
    pub cause : IsBarred error ⊎ (FailsOnFiles error ⊎ FindsLostLog)

  -- Files that hold these bytes were opened, and in what was found
  -- there somebody added a UNIQUE index to a table of the product's.
  pub record HasAdded (told : Fault) : Type 0 where
    pub told_of : told ≡ Foreign
    pub conn : Held (FileStore D g)
    pub opened : HasCleanDisk (file_state conn) → IsOpened conn
    pub found : HasCleanDisk (file_state conn) → FindsIn image (file_state conn)
    pub added : has_added_unique (file_state conn).now.schema ≡ true

  -- the file isn't open, or has such an index
  abbrev pub IsRefused : Fault → Type 0
  IsRefused told = IsUnopened told ⊎ HasAdded told

-- why no database of these bytes is open
abbrev pub TellsUnopened : {D : Type 0} {g : disk.Ghosts D} → Image → Result (Held (FileStore D g)) Fault → Type 0
TellsUnopened image (Ok conn) = Unit {0}
TellsUnopened {g = g} image (Err told) = IsUnopened g image told

-- why there is no connection to a file of these bytes
abbrev pub TellsWhy : {D : Type 0} {g : disk.Ghosts D} → Image → Result (Held (FileStore D g)) Fault → Type 0
TellsWhy image (Ok conn) = Unit {0}
TellsWhy {g = g} image (Err told) = IsRefused g image told

-- the bytes hold a database that stands for the operator
abbrev pub HoldsOperator : Image → Operator → Type 0
HoldsOperator image s = (db : Trees) × HoldsDatabase image db × TreesStandFor s db
