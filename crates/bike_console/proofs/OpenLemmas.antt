-- Why a file isn't open, where its length was asked for before the engine opened it.
use Rattle.std.proofs.Common.{◌≡◌, ℕ, ◌+◌, inl, inr, Bool, true, false, ◌==◌, cond, List, length, take, slice_index, Result, Ok, Err, IfOk, IfErr, refl, sym, ap₂, subst, arith, ◌∙◌}
use Rattle.std.proofs.lemmas.List.{ext_get_or, length-take-le, get_or-take}
use Rattle.std.proofs.lemmas.Result.{IfOk-weaker}
use Rattle.sqlite_disk.specs.declared.Disk as disk
use Rattle.sqlite_disk.specs.declared.Files.{Files}
use Rattle.sqlite_disk.specs.declared.tally.Tally.{Tally}
use Rattle.sqlite_disk.specs.Disk.{Holds, MoreFaults}
use Rattle.sqlite_wal.specs.Format.{part}
use Rattle.sqlite_wal.specs.Recovery.{Image, header}
use Rattle.sqlite_wal.specs.Files.{outcomes}
use Rattle.sqlite_wal.specs.Reads.{AreClean, OnlyReads, tally_of_files}
use Rattle.sqlite_store.specs.Report.{named}
use Rattle.sqlite.specs.State.{store_error}
use Rattle.sqlite_store.specs.declared.store.FileStore.{FileStore}
use Rattle.sqlite.specs.Held.{Held}
use Rattle.sqlite.specs.State.{HasCleanDisk}
use Rattle.sqlite.specs.Start.{FindsIn}
use Rattle.sqlite.specs.Files.{faults_of, file_state, image_of, tally_left, IsCleanLeft, IsOpened, FailsToOpenFiles, LeavesFiles}
use Rattle.sqlite.specs.declared.file.Leftover.{Leftover}
use Rattle.sqlite.specs.declared.file.Leftover.TheVariants as left
use Rattle.sqlite.specs.declared.error.Error.{Error}
use Rattle.sqlite.specs.declared.error.Error.TheVariants.{SqliteFailure}
use Rattle.sqlite.specs.declared.error.ErrorCode.TheVariants as code
use Rattle.sqlite_trees.specs.declared.error.StoreError.TheVariants.{Io, Full, Corrupt}
use Rattle.bike_recognition.specs.Added.{has_added_unique}
use Rattle.bike_console.specs.declared.end.Fault.{Fault}
use Rattle.bike_console.specs.declared.end.Fault.TheVariants.{StoreFailed, Foreign}
use Rattle.bike_console.specs.Ends.{open_fault}
use Rattle.bike_console.specs.Files.{IsLostLog, IsUnopened, TellsWhy}

-- a fault of the disk is one of the store, whatever its name
named_told : (old new : Tally) → StoreFailed ≡ open_fault (store_error (named old new))
named_told old new = by (new.caught == old.caught) (new.refused == old.refused)
  where
    by : (same_caught same_refused : Bool) → StoreFailed ≡ open_fault (store_error (cond same_caught (cond same_refused Io Full) Corrupt))
    by true true = refl
    by true false = refl
    by false refused = refl

module _ {D : Type 0} {g : disk.Ghosts D} (image : Image) (files now : Files D) (bytes : image_of g files ≡ image) (log : OnlyReads g files.log now.log) (db : OnlyReads g files.db now.db) where
  -- what was asked of the files changed nothing
  pub bytes_now : image_of g now ≡ image
  bytes_now = ap₂ (λ log db. record { log = log; db = db }) log.seen db.seen ∙ bytes

  leaves_both : (left : Image) → outcomes g now.log now.db left → outcomes g files.log files.db left
  leaves_both left may = (log.crash left.log may.0, db.crash left.db may.1)

  pub found_lost : (AreClean g now.log now.db → IsLostLog (image_of g files)) → IsUnopened g image StoreFailed
  found_lost lost = record {
    error = SqliteFailure code.CannotOpen;
    told_of = refl;
    cause = inr (inr (record { files = files; bytes = bytes; now = now; lost = λ clean. subst IsLostLog bytes (lost clean); keeps = leaves_both }));
  }

  pub unread : (told : Fault) → told ≡ StoreFailed → (AreClean g now.log now.db → MoreFaults (faults_of g files) (faults_of g now)) → IsUnopened g image told
  unread told is more =
      let before = tally_of_files g (files.log, files.db) in
      let after = tally_left {g = g} (left.Files now) in
      record {
        error = store_error (named before after);
        told_of = is ∙ named_told before after;
        cause = inr (inl (record { files = files; bytes = bytes; left = left.Files now; why = λ clean. inr (inr (inl (refl, more clean))); keeps = λ clean. leaves_both }));
      }

  -- the engine could not go on
  pub unopened : (told : Fault) (e : Error) (rest : Leftover D g) → told ≡ open_fault e → (IsCleanLeft rest → FailsToOpenFiles now rest e) → (IsCleanLeft rest → LeavesFiles now rest)
      → IsUnopened g image told
  unopened told e rest is why keeps = record { error = e; told_of = is; cause = inr (inl (record { files = now; bytes = bytes_now; left = rest; why = why; keeps = keeps })) }

-- the first bytes of a log that are known are its header
pub is_header : (log head : List ℕ) → length head ≡ 32 → Holds log 0 head → head ≡ header log
unfolding part
is_header log head long holds =
    ext_get_or 0 head (take 32 log) (long ∙ sym (length-take-le 32 log (omega (arith, holds.within, long))))
    (λ i within.
    let same : 0 + i ≡ i = omega (arith) in
    sym (subst (λ n. slice_index log n ≡ slice_index head i) same (holds.each i within))
    ∙ sym (get_or-take 32 log i 0 (omega (arith, within, long))))

-- what is so of a connection is so of it where it wasn't refused
pub of_same : {X E : Type 0} (P : X → Type 0) (conn : X) (result : Result X E) → IfOk result (λ it. it ≡ conn) → P conn → IfOk result P
of_same P conn result same of_conn = IfOk-weaker result _ P (λ it is. subst P (sym is) of_conn) same

-- a connection that was opened, and was refused for its index or not
pub tells_added : {D : Type 0} {g : disk.Ghosts D} (image : Image) (conn : Held (FileStore D g)) (result : Result (Held (FileStore D g)) Fault) → (HasCleanDisk (file_state conn) → IsOpened conn)
    → (HasCleanDisk (file_state conn) → FindsIn image (file_state conn))
    → IfErr result (λ fault. (fault ≡ Foreign) × (has_added_unique (file_state conn).now.schema ≡ true)) → TellsWhy image result
tells_added image conn (Ok it) opened found added = tt
tells_added image conn (Err fault) opened found added = inr (record { told_of = added.0; conn = conn; opened = opened; found = found; added = added.1 })
