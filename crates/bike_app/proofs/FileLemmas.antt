-- How a word over a file ends.
use Rattle.std.proofs.Common.{◌≡◌, ◌⊎◌, ◌≤◌, inl, inr, ℕ, List, Option, Some, None, false, Result, Ok, Err, IfOk, refl, sym, subst, arith}
use Rattle.std.specs.Io.KnownBytes.{Keeps}
use Rattle.sqlite_disk.specs.declared.Disk as disk
use Rattle.sqlite_disk.specs.declared.start.Start as start
use Rattle.sqlite_wal.specs.Files.{image_at}
use Rattle.sqlite_store.specs.declared.store.FileStore.{FileStore}
use Rattle.sqlite_store.specs.FileStore.{files}
use Rattle.sqlite_trees.specs.View.{doubt}
use Rattle.sqlite.specs.Held.{Held}
use Rattle.sqlite.specs.State.{HasCleanDisk}
use Rattle.sqlite.specs.Files.{file_state, over_files}
use Rattle.bike_read_only.specs.Files.{still}
use Rattle.bike_command_line.specs.declared.task.FileTask.{FileTask}
use Rattle.bike_console.specs.declared.end.Fault.{Fault}
use Rattle.bike_console.specs.declared.closing.Remains.{Remains}
use Rattle.bike_console.specs.declared.closing.Remains.TheVariants.{Open, Settled, Unsettled}
use Rattle.bike_console.specs.declared.look.KeptFiles.{KeptFiles}
use Rattle.bike_console.specs.Closing.{Closes}
use Rattle.bike_console.specs.Files.{IsOpeningFault, IsUnopened}
use Rattle.bike_console.specs.Looks.{IsUnseen, Sees, Shown, shown}
use Rattle.bike_app.specs.Words.{Does}
use Rattle.bike_app.specs.Files.{DoesOverFile, EndsOnFile, IsAlone, IsUntouched, LooksOver, settles}

module _ {D S : Type 0} {g : disk.Ghosts D} (s : start.Ghosts S) (input ahead old new : Option (List ℕ)) (task : FileTask) (clock : Option ℕ) (conn : Held (FileStore D g)) (end : Result ℕ Fault)
    (does : HasCleanDisk (file_state conn) → DoesOverFile (image_at s) input ahead old new task clock conn end) where
  -- a connection over which the task was done was closed, or its log stays
  pub closed_ends : (remains : Remains D g) (told : Result ℕ Fault) → Closes conn end remains told → EndsOnFile s input ahead old new task clock (Some remains) told
  closed_ends (Open c) told it = λ clean.
      subst (λ (h : Held (FileStore D g)). DoesOverFile (image_at s) input ahead old new task clock h told) (sym it.0)
      (subst (DoesOverFile (image_at s) input ahead old new task clock conn) (sym it.1) (does (subst (λ (h : Held (FileStore D g)). HasCleanDisk (file_state h)) it.0 clean)))
  closed_ends (Settled files) told it =
      record { last = conn; does = λ clean. subst (DoesOverFile (image_at s) input ahead old new task clock conn) (sym it.0) (does clean); alone = it.1 }
  closed_ends (Unsettled store) told it = record { last = conn; was = end; does = does; kept = it.1; told = it.0 }

-- after a number the file was closed
pub closed_alone : {D : Type 0} {g : disk.Ghosts D} (conn : Held (FileStore D g)) (end : Result ℕ Fault) (remains : Remains D g) (told : Result ℕ Fault) → Closes conn end remains told
    → IfOk told (λ count. IsAlone (Some remains))
closed_alone conn end remains (Err fault) it = tt
closed_alone conn end (Settled files) (Ok count) it = tt
closed_alone conn (Ok n) (Open c) (Ok count) it = absurd (let kept = it.2 in cc)
closed_alone conn (Err fault) (Open c) (Ok count) it = absurd (let same = it.1 in cc)
closed_alone conn end (Unsettled store) (Ok count) it = absurd (let told = it.0 in cc)

module _ {D S : Type 0} {g : disk.Ghosts D} {s : start.Ghosts S} (input ahead old new : Option (List ℕ)) (task : FileTask) (clock : Option ℕ) (looks : settles task ≡ false) where
  -- a file was looked at
  pub looked_over : (conn : Held (FileStore (Shown g s) (shown g s))) (kept : KeptFiles D) (sees : Sees g s conn kept) (last : Held (FileStore (Shown g s) (shown g s))) (end : Result ℕ Fault)
      → doubt (file_state conn).is_clean ≤ doubt (file_state last).is_clean → (HasCleanDisk (file_state last) → Does over_files input ahead old new task clock conn last end)
      → LooksOver g s input ahead old new task clock end
  looked_over conn kept sees last end falls does =
      let over : HasCleanDisk (file_state last) → DoesOverFile sees.found input ahead old new task clock last end = λ clean.
      let early : HasCleanDisk (file_state conn) = omega (arith, clean, falls) in
      record { first = conn; opened = sees.opened early; found = sees.finds early; own = sees.own; does = does clean } in
      record {
        looks = looks;
        kept = kept;
        found = sees.found;
        seen = sees.seen;
        told = inr (record { last = last; does = over; log_still = still g s (files last.store).0; db_still = still g s (files last.store).1 });
      }

  -- there is no connection to a file that was to be looked at
  pub unseen : (told : Fault) → IsOpeningFault told → IsUnopened g (image_at s) told ⊎ IsUnseen g s told → Keeps input ahead → Keeps old new
      → EndsOnFile {D = D} {g = g} s input ahead old new task clock None (Err told)
  unseen told is (inl unopened) read wrote = inr (inl (record { read = read; wrote = wrote; fault = told; told = refl; is = is; why = inl unopened }))
  unseen told is (inr it) read wrote =
      let untouched : IsUntouched {D = Shown g s} {g = shown g s} it.found None input ahead old new (Err told) =
      record { read = read; wrote = wrote; fault = told; told = refl; is = is; why = it.why } in
      inr (inr (record { looks = looks; kept = it.kept; found = it.found; seen = it.seen; told = inl untouched }))
