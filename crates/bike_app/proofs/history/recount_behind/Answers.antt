use Rattle.std.proofs.Common.{◌∙◌}
use Rattle.bike_app.proofs.HistoryLemmas.{desk_at}
use Rattle.bike_app.proofs.history.recount_behind.Goals as goal

pub returns-clause-told : goal.returns-clause-told
returns-clause-told g c clean s at =
    let written = c.write_history-written in
    record { result = written.result; told = c.told.ensures; written = written.ensures.wrote clean s at }

pub returns-clause-at : goal.returns-clause-at
returns-clause-at g c clean s at other =
    let written = c.write_history-written in
    desk_at g.S.Store _ _ s clean at written.result written.ensures.desk (λ is. other (c.told.ensures ∙ is))

pub returns-clause-left : goal.returns-clause-left
returns-clause-left g c clean s at = c.write_history-written.ensures.desk.left clean s at
