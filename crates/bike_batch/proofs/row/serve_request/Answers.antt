use Rattle.std.proofs.Common.{ap, Err}
use Rattle.bike_batch.proofs.ImportServingLemmas.{fails, keeps_database}
use Rattle.bike_batch.proofs.row.serve_request.Goals as goal

pub returns-in_err-refusal-clause-served : goal.returns-in_err-refusal-clause-served
returns-in_err-refusal-clause-served g c clean s at =
    let it = c.in_err-refusal.ensures in
    fails g.S.Store c.args.desk.now c.apply.new.self s c.args.number (c.args.moment, c.args.request.now) _ c.in_err-refusal.field-0.0 c.from_residual.ensures.1 at
    (λ e. it.no_memory (ap Err e)) (λ e. it.stops (ap Err e)) (λ e. it.store_failed clean s at (ap Err e)) (λ e. it.stopped (ap Err e))

pub returns-in_err-refusal-clause-rests : goal.returns-in_err-refusal-clause-rests
returns-in_err-refusal-clause-rests g c clean s at none other =
    let it = c.in_err-refusal.ensures in
    keeps_database g.S.Store c.args.desk.now c.apply.new.self s _ c.in_err-refusal.field-0.0 c.from_residual.ensures.1
    (λ e. it.no_memory (ap Err e)) (λ e. (it.stays (it.stopped (ap Err e))).1) other
