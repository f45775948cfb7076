-- How a connection to a database file ends.
use Rattle.std.specs.Prelude.{◌≡◌, ℕ, Bool, true, false, Result, Err}
use Rattle.sqlite_disk.specs.declared.Disk as disk
use Rattle.sqlite_wal.specs.Reads.{AreClean}
use Rattle.sqlite_store.specs.declared.store.FileStore.{FileStore}
use Rattle.sqlite.specs.Held.{Held}
use Rattle.sqlite.specs.Closing.{IsCopied}
use Rattle.sqlite.specs.Files.{IsClosed}
use Rattle.bike_console.specs.declared.end.Fault.{Fault}
use Rattle.bike_console.specs.declared.end.Fault.TheVariants.{StoreFailed, OutOfMemory, Foreign, Unsound, Older, Newer}
use Rattle.bike_console.specs.declared.closing.Remains.{Remains}
use Rattle.bike_console.specs.declared.closing.Remains.TheVariants.{Open, Settled, Unsettled}

-- the store failed, memory was refused, or the database isn't one that is served
abbrev pub is_log_kept : Result ℕ Fault → Bool
is_log_kept (Err StoreFailed) = true
is_log_kept (Err OutOfMemory) = true
is_log_kept (Err Foreign) = true
is_log_kept (Err (Unsound bad)) = true
is_log_kept (Err (Older version)) = true
is_log_kept (Err (Newer version)) = true
is_log_kept _ = false

-- HOW IT CLOSES after a task that ended so: what is left, and what is told of the end. Where the files were settled,
-- the database file holds the last commit by itself, as it reads now and after a crash.
abbrev pub Closes : {D : Type 0} {g : disk.Ghosts D} → Held (FileStore D g) → Result ℕ Fault → Remains D g
    → Result ℕ Fault → Type 0
Closes conn end (Open c) told = (c ≡ conn) × (told ≡ end) × (is_log_kept end ≡ true)
Closes {g = g} conn end (Settled files) told = (told ≡ end) × (AreClean g files.log files.db → IsCopied conn files)
Closes conn end (Unsettled store) told = (told ≡ Err StoreFailed) × IsClosed conn store
