-- What a file holds.
use Rattle.std.specs.Prelude.{◌≡◌, List, ℕ}
use Rattle.sqlite_disk.specs.declared.Disk as disk

-- Only these bytes are in the file, now and after a crash.
pub record HoldsOnly {D : Type 0} (g : disk.Ghosts D) (bytes : List ℕ) (file : D) : Type 0 where
  pub now : g.seen file ≡ bytes
  pub left : (c : List ℕ) → g.may_leave file c → c ≡ bytes
