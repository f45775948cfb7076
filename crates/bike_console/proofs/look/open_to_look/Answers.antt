use Rattle.std.proofs.Common.{rules, ◌≡◌, ℕ, Bool, cond, List, Err, refl, inl, inr, ap₂}
use Rattle.sqlite_disk.specs.Events.{Event, replay}
use Rattle.sqlite_wal.specs.Files.{image_at}
use Rattle.sqlite_wal.specs.Recovery.{Image}
use Rattle.sqlite.specs.declared.error.Error.TheVariants.{SqliteFailure}
use Rattle.sqlite.specs.declared.error.ErrorCode.TheVariants as code
use Rattle.bike_read_only.specs.declared.copy.CopyFault.TheVariants.{Unread}
use Rattle.bike_console.specs.declared.end.Fault.TheVariants.{StoreFailed}
use Rattle.bike_console.proofs.OpenLemmas.{unread}
use Rattle.bike_console.proofs.look.open_to_look.Goals as goal

abbrev image : List ℕ → List ℕ → Image
image log db = record { log = log; db = db }

abbrev seen : List ℕ → List ℕ → Bool → List Event → List ℕ
seen log db is_log history = (replay (cond is_log log db) history).seen

pub returns-in_default-clause-seen : goal.returns-in_default-clause-seen
returns-in_default-clause-seen g c = inl (record { error = SqliteFailure code.CannotOpen; told_of = refl; cause = inl (inl refl) })

pub returns-in-Err-OutOfMemory-clause-seen : goal.returns-in-Err-OutOfMemory-clause-seen
returns-in-Err-OutOfMemory-clause-seen g c = inl (record { error = SqliteFailure code.OutOfMemory; told_of = refl; cause = inl (inr (inl refl)) })

pub returns-clause-seen : goal.returns-clause-seen
returns-clause-seen g c =
    let (log, db) = c.in_ok-files.ensures.fresh in
    let begun = ap₂ image (ap₂ (seen g.F.Start.log g.F.Start.db) log.0 log.1) (ap₂ (seen g.F.Start.log g.F.Start.db) db.0 db.1) in
    let read = c.copies_of-copies.ensures in
    let failed : c.copies_of-copies.result ≡ Err Unread = search rules in
    inl (unread (image_at g.F.Start) c.in_ok-files.files c.copies_of-copies.new.files begun read.log_read read.db_read StoreFailed refl (read.failed failed))
