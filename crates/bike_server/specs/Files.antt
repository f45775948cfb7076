-- How listening over a database file ends, by the bytes that the file and its log held.
use Rattle.std.specs.Prelude.{◌≡◌, ℕ, false, List, Option, Result, Err}
use Rattle.std.specs.Io.KnownBytes.{Keeps}
use Rattle.sqlite_disk.specs.declared.Disk as disk
use Rattle.sqlite_wal.specs.Recovery.{Image}
use Rattle.sqlite_store.specs.declared.store.FileStore.{FileStore}
use Rattle.sqlite.specs.Held.{Held}
use Rattle.sqlite.specs.State.{HasCleanDisk}
use Rattle.sqlite.specs.Start.{FindsIn}
use Rattle.sqlite.specs.Files.{over_files, file_state, IsOpened}
use Rattle.bike_recognition.specs.Added.{has_added_unique}
use Rattle.bike_console.specs.declared.end.Fault.{Fault}
use Rattle.bike_console.specs.Files.{IsOpeningFault}
use Rattle.bike_server.specs.Listening.{EndsListening}

-- A connection was opened on what the bytes hold, and listening over it ended so.
pub record ListensOnFile {D : Type 0} {g : disk.Ghosts D} (image : Image) (old new : Option (List ℕ))
    (last : Held (FileStore D g)) (end : Result ℕ Fault) : Type 0 where
  pub first : Held (FileStore D g)
  pub opened : HasCleanDisk (file_state first) → IsOpened first
  pub found : HasCleanDisk (file_state first) → FindsIn image (file_state first)
  pub own : has_added_unique (file_state first).now.schema ≡ false
  pub ends : EndsListening over_files first last old new end

-- There is no connection, and nothing was written.
pub record IsUnopened (old new : Option (List ℕ)) (end : Result ℕ Fault) : Type 0 where
  pub fault : Fault
  pub told : end ≡ Err fault
  pub is : IsOpeningFault fault
  pub wrote : Keeps old new
