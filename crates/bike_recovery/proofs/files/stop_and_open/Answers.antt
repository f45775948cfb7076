use Rattle.std.proofs.Math.Logic.{∥∥₁_map}
use Rattle.sqlite_wal.specs.Files.{image_at}
use Rattle.bike_recovery.proofs.FileLemmas.{both_tell, both_blame, finds_left, holds_some, excused, some_tells, seen_of, none_of}
use Rattle.bike_recovery.proofs.files.stop_and_open.Goals as goal

pub returns-clause-left : goal.returns-clause-left
returns-clause-left g c hold =
    let it = c.into_store-store.result in
    both_tell c.open_from-opened.result (λ again opened found clean.
    ∥∥₁_map (finds_left it (image_at g.F.Start) again c.into_store-store.ensures.numbered c.into_store-store.ensures.sound hold (opened clean) (found clean))
    (λ trees. c.into_store-store.ensures.quiet.outcomes _ trees))
    c.open_from-opened.ensures.opened c.open_from-opened.ensures.found

pub returns-clause-refused : goal.returns-clause-refused
returns-clause-refused g c hold =
    let it = c.into_store-store.result in
    let image = image_at g.F.Start in
    let holds = holds_some it image c.into_store-store.ensures.numbered c.into_store-store.ensures.sound hold in
    both_blame c.open_from-opened.result (λ e unopened cause.
    excused image holds e.0 e.1 unopened (some_tells e.1 (λ left fails. (
      fails.0,
      (seen_of fails.0 fails.1 fails.2, none_of fails.0 fails.1 fails.2),
      (λ clean. (fails.3 clean).0),
    )) cause))
    c.open_from-opened.ensures.unopened c.open_from-opened.ensures.cause
