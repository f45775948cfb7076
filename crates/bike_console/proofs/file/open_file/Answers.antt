use Rattle.std.proofs.Common.{inl, inr}
use Rattle.sqlite.specs.State.{HasCleanDisk}
use Rattle.sqlite.specs.Start.{FindsIn}
use Rattle.sqlite.specs.Files.{file_state, IsOpened}
use Rattle.sqlite_wal.specs.Files.{image_at}
use Rattle.bike_console.specs.Files.{IsDamagedLog, IsLoneLog}
use Rattle.bike_console.proofs.OpenLemmas.{of_same, tells_added}
use Rattle.bike_console.proofs.file.open_file.Goals as goal

pub returns-in-Err-clause-why : goal.returns-in-Err-clause-why
returns-in-Err-clause-why g c = inl c.in-Err.ensures.why

pub returns-in-Ok-clause-opened : goal.returns-in-Ok-clause-opened
returns-in-Ok-clause-opened g c = of_same (λ conn. HasCleanDisk (file_state conn) → IsOpened conn) c.in-Ok.conn c.refuse_added.result c.refuse_added.ensures.same c.in-Ok.ensures.opened

pub returns-in-Ok-clause-found : goal.returns-in-Ok-clause-found
returns-in-Ok-clause-found g c =
    of_same (λ conn. HasCleanDisk (file_state conn) → FindsIn (image_at g.F.Start) (file_state conn)) c.in-Ok.conn c.refuse_added.result c.refuse_added.ensures.same c.in-Ok.ensures.found

pub returns-in-Ok-clause-lone : goal.returns-in-Ok-clause-lone
returns-in-Ok-clause-lone g c =
    of_same (λ conn. HasCleanDisk (file_state conn) → IsLoneLog (image_at g.F.Start) → ⊥) c.in-Ok.conn c.refuse_added.result c.refuse_added.ensures.same
    (λ clean lone. c.in-Ok.ensures.lost clean (inl lone))

pub returns-in-Ok-clause-whole : goal.returns-in-Ok-clause-whole
returns-in-Ok-clause-whole g c =
    of_same (λ conn. HasCleanDisk (file_state conn) → IsDamagedLog (image_at g.F.Start).log → ⊥) c.in-Ok.conn c.refuse_added.result c.refuse_added.ensures.same
    (λ clean damaged. c.in-Ok.ensures.lost clean (inr damaged))

pub returns-in-Ok-clause-why : goal.returns-in-Ok-clause-why
returns-in-Ok-clause-why g c = tells_added (image_at g.F.Start) c.in-Ok.conn c.refuse_added.result c.in-Ok.ensures.opened c.in-Ok.ensures.found c.refuse_added.ensures.added
