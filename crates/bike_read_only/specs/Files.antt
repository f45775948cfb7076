-- The files of a database that is only looked at.
use Rattle.std.specs.Prelude.{◌+◌, true, false}
use Rattle.sqlite_disk.specs.declared.Disk as disk
use Rattle.sqlite_disk.specs.declared.start.Start as start
use Rattle.sqlite_disk.specs.declared.memory.Memory.{Memory}
use Rattle.sqlite_disk.specs.History.{MayLeave, steps_of}
use Rattle.bike_read_only.specs.Held.{HoldsOnly}
use Rattle.bike_read_only.specs.declared.read_only.ReadOnly.{ReadOnly}
use Rattle.bike_read_only.specs.declared.source.Source.{Source}
use Rattle.bike_read_only.specs.declared.source.Source.TheVariants.{File, Copy}
use Rattle.bike_read_only.specs.Either.{from_either}

-- the file itself, as a disk
abbrev pub over_file : {D S : Type 0} (g : disk.Ghosts D) (s : start.Ghosts S) → disk.Ghosts (ReadOnly D S g s)
over_file g s = record {
  seen = λ f. g.seen f.file;
  may_leave = λ f. g.may_leave f.file;
  is_usable = λ f. g.is_usable f.file;
  faults = λ f. g.faults f.file + f.refused;
  tally_of = λ f. g.tally_of f.file;
  is_clean = λ f. g.is_clean f.file;
  key_of = λ f. g.key_of f.file;
  is_fair = λ f. g.is_fair f.file;
  is_frozen = λ f. false;
  is_rotten = λ f. g.is_rotten f.file;
  is_mixing = λ f. g.is_mixing f.file;
}

-- a copy, as a disk
abbrev pub over_copy : disk.Ghosts Memory
over_copy = record {
  seen = λ m. m.bytes.items;
  may_leave = λ m. MayLeave false m.bytes.items m.synced.items (steps_of m.steps.items);
  is_usable = λ m. m.usable;
  faults = λ m. m.faults;
  tally_of = λ m. record { caught = m.caught; refused = 0 };
  is_clean = λ m. true;
  key_of = λ m. 0;
  is_fair = λ m key. true;
  is_frozen = λ m. false;
  is_rotten = λ m at n. false;
  is_mixing = λ m. false;
}

-- either, as a disk
abbrev pub over_source : {A B : Type 0} → disk.Ghosts A → disk.Ghosts B → disk.Ghosts (Source A B)
over_source a b = record {
  seen = from_either a.seen b.seen;
  may_leave = from_either a.may_leave b.may_leave;
  is_usable = from_either a.is_usable b.is_usable;
  faults = from_either a.faults b.faults;
  tally_of = from_either a.tally_of b.tally_of;
  is_clean = from_either a.is_clean b.is_clean;
  key_of = from_either a.key_of b.key_of;
  is_fair = from_either a.is_fair b.is_fair;
  is_frozen = λ f. false;
  is_rotten = from_either a.is_rotten b.is_rotten;
  is_mixing = from_either a.is_mixing b.is_mixing;
}

module _ {D S : Type 0} (g : disk.Ghosts D) (s : start.Ghosts S) where
  -- THE FILES OF A DATABASE THAT IS ONLY LOOKED AT, as a disk: the database file, and a copy of its log
  abbrev pub looking : disk.Ghosts (Source (ReadOnly D S g s) Memory)
  looking = over_source (over_file g s) over_copy

  -- a database file that is looked at holds what it held, now and after a crash
  abbrev pub IsStill : Source (ReadOnly D S g s) Memory → Type 0
  IsStill (File f) = HoldsOnly g s.db f.file
  IsStill (Copy m) = Unit {0}

  -- whatever was done over it
  pub still : (it : Source (ReadOnly D S g s) Memory) → IsStill it
  still (File f) = f.holds
  still (Copy m) = tt
