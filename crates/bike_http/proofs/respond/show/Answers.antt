use Rattle.std.proofs.Common.{◌≡◌, inr, refl}
use Rattle.bike_http.specs.Shown.{shown_of}
use Rattle.bike_http.proofs.Told.{query_undone}
use Rattle.bike_http.proofs.respond.show.Goals as goal

pub returns-in-Err-clause-told : goal.returns-in-Err-clause-told
returns-in-Err-clause-told g c clean s at =
    inr (refl, query_undone g.S.Store c.args.desk.now c.find_row.new.desk s s clean at (λ s answer. answer ≡ shown_of s c.args.row) c.in-Err.field-0 c.in-Err.ensures)

pub returns-in-Ok-clause-rests : goal.returns-in-Ok-clause-rests
returns-in-Ok-clause-rests g c = c.in-Ok.ensures.rests

pub returns-in-Err-clause-rests : goal.returns-in-Err-clause-rests
returns-in-Err-clause-rests g c = c.in-Err.ensures.rests
