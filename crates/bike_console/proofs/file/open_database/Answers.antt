use Rattle.std.proofs.Common.{ℕ, Bool, cond, List, IfOk, refl, inl, ap₂, subst}
use Rattle.sqlite_disk.specs.Events.{Event, replay}
use Rattle.sqlite_wal.specs.Recovery.{Image}
use Rattle.sqlite.specs.State.{HasCleanDisk}
use Rattle.sqlite.specs.Start.{FindsIn}
use Rattle.sqlite.specs.Files.{file_state}
use Rattle.sqlite.specs.declared.error.Error.TheVariants.{SqliteFailure}
use Rattle.sqlite.specs.declared.error.ErrorCode.TheVariants as code
use Rattle.bike_console.specs.Files.{IsLostLog, TellsUnopened}
use Rattle.bike_console.proofs.file.open_database.Goals as goal

abbrev image : List ℕ → List ℕ → Image
image log db = record { log = log; db = db }

abbrev seen : List ℕ → List ℕ → Bool → List Event → List ℕ
seen log db is_log history = (replay (cond is_log log db) history).seen

pub returns-in_default-clause-why : goal.returns-in_default-clause-why
returns-in_default-clause-why g c = record { error = SqliteFailure code.CannotOpen; told_of = refl; cause = inl (inl refl) }

pub returns-clause-found : goal.returns-clause-found
returns-clause-found g c =
    let (log, db) = c.in_ok-files.ensures.fresh in
    let begun = ap₂ image (ap₂ (seen g.F.Start.log g.F.Start.db) log.0 log.1) (ap₂ (seen g.F.Start.log g.F.Start.db) db.0 db.1) in
    subst (λ i. IfOk c.open_over.result (λ conn. HasCleanDisk (file_state conn) → FindsIn i (file_state conn))) begun c.open_over.ensures.found

pub returns-clause-lost : goal.returns-clause-lost
returns-clause-lost g c =
    let (log, db) = c.in_ok-files.ensures.fresh in
    let begun = ap₂ image (ap₂ (seen g.F.Start.log g.F.Start.db) log.0 log.1) (ap₂ (seen g.F.Start.log g.F.Start.db) db.0 db.1) in
    subst (λ i. IfOk c.open_over.result (λ conn. HasCleanDisk (file_state conn) → IsLostLog i → ⊥)) begun c.open_over.ensures.lost

pub returns-clause-why : goal.returns-clause-why
returns-clause-why g c =
    let (log, db) = c.in_ok-files.ensures.fresh in
    let begun = ap₂ image (ap₂ (seen g.F.Start.log g.F.Start.db) log.0 log.1) (ap₂ (seen g.F.Start.log g.F.Start.db) db.0 db.1) in
    subst (λ i. TellsUnopened i c.open_over.result) begun c.open_over.ensures.why
