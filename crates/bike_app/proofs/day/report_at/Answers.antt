use Rattle.bike_app.proofs.DayLemmas.{reported_at}
use Rattle.bike_app.proofs.day.report_at.Goals as goal

pub returns-clause-told : goal.returns-clause-told
returns-clause-told g c clean s at =
    let written = c.day_csv-written in
    rw c.told.ensures (reported_at g.S.Store _ _ s clean at c.args.table c.args.date.now c.args.zone.now _ _ written.result written.ensures.desk
    written.ensures.day (written.ensures.wrote clean s at))

pub returns-clause-left : goal.returns-clause-left
returns-clause-left g c clean s at = c.day_csv-written.ensures.desk.left clean s at
