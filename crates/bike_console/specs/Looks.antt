-- A database file that is only looked at.
use Rattle.std.specs.Prelude.{◌≡◌, ◌⊎◌, false, IsTrue, IfSome, Result, Ok, Err}
use Rattle.sqlite_disk.specs.declared.Disk as disk
use Rattle.sqlite_disk.specs.declared.Files.{Files}
use Rattle.sqlite_disk.specs.declared.start.Start as start
use Rattle.sqlite_disk.specs.declared.memory.Memory.{Memory}
use Rattle.sqlite_wal.specs.Recovery.{Image}
use Rattle.sqlite_wal.specs.Files.{image_at}
use Rattle.sqlite_wal.specs.Reads.{IsClean}
use Rattle.sqlite_store.specs.declared.store.FileStore.{FileStore}
use Rattle.sqlite.specs.Held.{Held}
use Rattle.sqlite.specs.State.{HasCleanDisk}
use Rattle.sqlite.specs.Start.{FindsIn}
use Rattle.sqlite.specs.Files.{file_state, image_of, IsOpened}
use Rattle.bike_read_only.specs.Held.{HoldsOnly}
use Rattle.bike_read_only.specs.Files.{looking}
use Rattle.bike_read_only.specs.declared.read_only.ReadOnly.{ReadOnly}
use Rattle.bike_read_only.specs.declared.source.Source.{Source}
use Rattle.bike_recognition.specs.Added.{has_added_unique}
use Rattle.bike_console.specs.declared.look.KeptFiles.{KeptFiles}
use Rattle.bike_console.specs.declared.end.Fault.{Fault}
use Rattle.bike_console.specs.Files.{IsLostLog, IsRefused, IsUnopened}

module _ {D S : Type 0} (g : disk.Ghosts D) (s : start.Ghosts S) where
  -- what shows the bytes of one of the files
  abbrev pub Shown : Type 0
  Shown = Source (ReadOnly D S g s) Memory

  -- as a disk
  abbrev pub shown : disk.Ghosts Shown
  shown = looking g s

  -- the bytes that are shown
  abbrev pub shown_by : Files Shown → Image
  shown_by files = image_of shown files

  abbrev pub AreUsable : Files Shown → Type 0
  AreUsable files = IsTrue (shown.is_usable files.log) × IsTrue (shown.is_usable files.db)

  -- THE FILES ARE ONLY LOOKED AT: each holds what it held, now and after
  -- a crash, and these bytes are those that a disk without faults showed.
  pub record AreSeen (kept : KeptFiles D) (found : Image) : Type 0 where
    pub log : HoldsOnly g s.log kept.log
    pub db : IfSome kept.db (HoldsOnly g s.db)
    pub same : IsClean g kept.log → IfSome kept.db (IsClean g) → found ≡ image_at s

  -- A database is looked at: over the bytes that were found a connection was
  -- opened, and nobody added a UNIQUE index to a table of the product's.
  pub record Sees (conn : Held (FileStore Shown shown)) (kept : KeptFiles D) : Type 0 where
    pub found : Image
    pub seen : AreSeen kept found
    pub opened : HasCleanDisk (file_state conn) → IsOpened conn
    pub finds : HasCleanDisk (file_state conn) → FindsIn found (file_state conn)
    pub lost : HasCleanDisk (file_state conn) → IsLostLog found → ⊥
    pub autocommit : conn.in_transaction ≡ false
    pub own : has_added_unique (file_state conn).now.schema ≡ false

  -- There is no connection over the bytes that were found, for the reason that is told.
  pub record IsUnseen (told : Fault) : Type 0 where
    pub kept : KeptFiles D
    pub found : Image
    pub seen : AreSeen kept found
    pub why : IsRefused shown found told

  -- what is told of a file that is to be looked at: it isn't open, or there's no connection, or there is
  abbrev pub TellsSeen : Result (Held (FileStore Shown shown) × KeptFiles D) Fault → Type 0
  TellsSeen (Ok it) = Sees it.0 it.1
  TellsSeen (Err told) = IsUnopened g (image_at s) told ⊎ IsUnseen told
