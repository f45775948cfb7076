-- What an open finds after a stop.
use Rattle.std.proofs.Common.{◌≡◌, IsTrue, Bool, true, false, Option, Some, None, Result, Ok, Err, inl, inr, refl, sym, subst, arith}
use Rattle.std.proofs.Math.Logic.{∥∥₁_map, ∥∥₁_elim}
use Rattle.std.specs.Prelude.{◌≤◌, ◌⊎◌, ◌+◌, IfOk, IfErr, IfSome, if◌then◌else◌}
use Rattle.sqlite_disk.specs.declared.Disk as disk
use Rattle.sqlite_wal.specs.Recovery.{Image}
use Rattle.sqlite_trees.specs.View.{IsClean}
use Rattle.sqlite_trees.specs.Tree.{Trees}
use Rattle.sqlite_store.specs.declared.store.FileStore.{FileStore}
use Rattle.sqlite_store.specs.FileStore as store
use Rattle.sqlite.specs.Held.{Held, AreDatabases}
use Rattle.sqlite.specs.Files.{file_state, IsOpened}
use Rattle.sqlite.specs.Start.{FindsIn}
use Rattle.sqlite.specs.Files.{image_of, faults_of, faults_left, HoldsDatabase, IsCleanLeft, IsFullLeft, FailsToOpenFiles}
use Rattle.sqlite.specs.declared.error.Error.{Error}
use Rattle.sqlite.specs.declared.error.Error.TheVariants.{SqliteFailure}
use Rattle.sqlite.specs.declared.error.ErrorCode.TheVariants.{OutOfMemory, CannotOpen, DatabaseBusy, DiskFull}
use Rattle.sqlite.specs.declared.file.Leftover.{Leftover}
use Rattle.sqlite_disk.specs.declared.Files.{Files}
use Rattle.sqlite_disk.specs.declared.start.Start as start
use Rattle.sqlite_disk.specs.declared.calls.Calls as calls
use Rattle.sqlite_disk.specs.declared.modelled.Modelled.{Modelled}
use Rattle.sqlite_std_file.specs.declared.host.Host.{Host}
use Rattle.sqlite_std_file.specs.File.{IsFresh}
use Rattle.sqlite_disk.specs.Events.{replay}
use Rattle.sqlite_disk.specs.Modelled.{start_of}
use Rattle.sqlite_wal.specs.Files.{image_at}
use Rattle.sqlite.proofs.Theorems.{next_run, opens_again}
use Rattle.bike_recovery.specs.Files.{MayHold, IsExcused}

-- two things that are told of what came well tell a third
pub both_tell : {T E : Type 0} {P Q R : T → Type 0} (r : Result T E) → ((x : T) → P x → Q x → R x) → IfOk r P → IfOk r Q → IfOk r R
both_tell (Ok x) tells p q = tells x p q
both_tell (Err e) tells p q = tt

-- the same of what failed
pub both_blame : {T E : Type 0} {P Q R : E → Type 0} (r : Result T E) → ((x : E) → P x → Q x → R x) → IfErr r P → IfErr r Q → IfErr r R
both_blame (Ok x) tells p q = tt
both_blame (Err e) tells p q = tells e p q

-- the trees that an open finds are some that the stop may have left
pub finds_left : {D E : Type 0} {d : disk.Ghosts D} {e : disk.Ghosts E} (it : FileStore D d) (image : Image) (again : Held (FileStore E e))
    → (IsClean (store.view it) → IsTrue (store.view it).is_numbered) → (IsClean (store.view it) → AreDatabases (store.recovers it))
    → MayHold it image → IsOpened again → FindsIn image (file_state again) → ∥ store.recovers it (file_state again).now.trees ∥₁
finds_left it image again numbered sound hold opened found =
    subst (λ db. ∥ store.recovers it db.trees ∥₁) (sym (opened.0).clean) (next_run it (numbered hold.clean) (sound hold.clean) image hold.may (file_state again) found)

-- what a stop left holds a database
pub holds_some : {D : Type 0} {d : disk.Ghosts D} (it : FileStore D d) (image : Image)
    → (IsClean (store.view it) → IsTrue (store.view it).is_numbered) → (IsClean (store.view it) → AreDatabases (store.recovers it))
    → MayHold it image → ∥ ((db : Trees) × HoldsDatabase image db) ∥₁
holds_some it image numbered sound hold = ∥∥₁_map (opens_again it (numbered hold.clean) (sound hold.clean) image hold.may) (λ it. (it.0, it.2))

-- files that hold a database fail to open for memory, a fault or their length alone
module _ {D : Type 0} {d : disk.Ghosts D} (image : Image) (holds : ∥ ((db : Trees) × HoldsDatabase image db) ∥₁) (e : Error) where
  excused_by : (left : Leftover D d) (files : Files D) → image_of d files ≡ image → faults_of d files ≡ 0 → FailsToOpenFiles files left e
      → (e ≡ SqliteFailure OutOfMemory) ⊎ ((1 ≤ faults_left left) ⊎ ((e ≡ SqliteFailure DiskFull) × IsFullLeft left))
  excused_by left files is none (inl memory) = inl memory
  excused_by left files is none (inr (inl bad)) =
      absurd (∥∥₁_elim holds (λ x y. absurd x) (λ db. bad.1 (inl (db.0, subst (λ i. HoldsDatabase i db.0) (sym is) db.1))))
  excused_by left files is none (inr (inr (inl fault))) = inr (inl (let more = fault.1 in omega (arith, more, none)))
  excused_by left files is none (inr (inr (inr full))) = inr (inr full)

  -- whatever is left of them
  pub excused : (left : Option (Leftover D d)) → (left ≡ None → (e ≡ SqliteFailure CannotOpen) ⊎ ((e ≡ SqliteFailure OutOfMemory) ⊎ (e ≡ SqliteFailure DatabaseBusy)))
      → IfSome left (λ l. (files : Files D) × ((image_of d files ≡ image) × (faults_of d files ≡ 0)) × (IsCleanLeft l → FailsToOpenFiles files l e)) → IsExcused e left
  excused None unopened fails = unopened refl
  excused (Some left) unopened fails = λ clean. excused_by left fails.0 fails.1.0 fails.1.1 (fails.2 clean)

-- files of which nothing was asked yet hold what they held at first, and had no fault
module _ {F : Type 0} {calls : calls.Ghosts Host} (first : start.Ghosts F) (f : Modelled Host F calls first) where
  pub fresh_seen : (is_log : Bool) → IsFresh is_log f → (replay (start_of first f) f.calls.log.events).seen ≡ (if is_log then first.log else first.db)
  fresh_seen is_log fresh = rw fresh.1 (rw fresh.0 refl)

  pub fresh_faults : (is_log : Bool) → IsFresh is_log f → (replay (start_of first f) f.calls.log.events).faults ≡ 0
  fresh_faults is_log fresh = rw fresh.1 refl

-- what is told of something that is there is told in other words
pub some_tells : {A : Type 0} {P Q : A → Type 0} (o : Option A) → ((x : A) → P x → Q x) → IfSome o P → IfSome o Q
some_tells None tells p = tt
some_tells (Some x) tells p = tells x p

module _ {F : Type 0} {calls : calls.Ghosts Host} {first : start.Ghosts F} (files : Files (Modelled Host F calls first)) (log : IsFresh true files.log) (db : IsFresh false files.db) where
  pub seen_of : record { log = (replay (start_of first files.log) files.log.calls.log.events).seen; db = (replay (start_of first files.db) files.db.calls.log.events).seen } ≡ image_at first
  seen_of = rw (fresh_seen first files.log true log) (rw (fresh_seen first files.db false db) refl)

  pub none_of : (replay (start_of first files.log) files.log.calls.log.events).faults + (replay (start_of first files.db) files.db.calls.log.events).faults ≡ 0
  none_of = rw (fresh_faults first files.log true log) (rw (fresh_faults first files.db false db) refl)
