use Rattle.std.proofs.Common.{◌≡◌, false, inl, inr, subst, sym}
use Rattle.sqlite.specs.State.{HasCleanDisk}
use Rattle.sqlite.specs.Start.{FindsIn}
use Rattle.sqlite.specs.Files.{file_state, IsOpened}
use Rattle.bike_console.specs.Files.{IsLostLog}
use Rattle.bike_console.specs.Looks.{shown_by}
use Rattle.bike_console.proofs.look.look_over.Goals as goal

pub returns-in-Ok-refuse_added : goal.returns-in-Ok-refuse_added
returns-in-Ok-refuse_added g c =
    let found = shown_by g.D.Disk g.S.Start c.stand_in-kept.result.1 in
    let same = sym c.in-Ok-refuse_added.ensures.same in
    let it = c.in-Ok.ensures in
    record {
      found = found;
      seen = c.stand_in-kept.ensures.seen;
      opened = subst (λ conn. HasCleanDisk (file_state conn) → IsOpened conn) same it.opened;
      finds = subst (λ conn. HasCleanDisk (file_state conn) → FindsIn found (file_state conn)) same it.found;
      lost = subst (λ conn. HasCleanDisk (file_state conn) → IsLostLog found → ⊥) same it.lost;
      autocommit = subst (λ conn. conn.in_transaction ≡ false) same it.autocommit;
      own = c.in-Ok-refuse_added.ensures.own;
    }

pub returns-in-Err-refuse_added : goal.returns-in-Err-refuse_added
returns-in-Err-refuse_added g c =
    let it = c.in-Ok.ensures in
    let added = c.in-Err-refuse_added.ensures.added in
    inr (record {
      kept = c.stand_in-kept.result.0;
      found = shown_by g.D.Disk g.S.Start c.stand_in-kept.result.1;
      seen = c.stand_in-kept.ensures.seen;
      why = inr (record { told_of = added.0; conn = c.in-Ok.conn; opened = it.opened; found = it.found; added = added.1 });
    })

pub returns-in-Err : goal.returns-in-Err
returns-in-Err g c = inr (record {
  kept = c.stand_in-kept.result.0;
  found = shown_by g.D.Disk g.S.Start c.stand_in-kept.result.1;
  seen = c.stand_in-kept.ensures.seen;
  why = inl c.in-Err.ensures.why;
})
