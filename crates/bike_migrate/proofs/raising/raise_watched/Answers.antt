use Rattle.bike_migrate.proofs.RaiseLemmas.{ready_owes, cause_owes, failed_owes}
use Rattle.bike_migrate.proofs.raising.raise_watched.Goals as goal

pub returns-in-Ok-None : goal.returns-in-Ok-None
returns-in-Ok-None g c =
    let settled = c.is_at_rest.ensures.settled in
    ready_owes g.S.Store g.met.S.Store.settled c.args.conn settled c.is_at_rest.ensures.live c.raise_any.new.conn (rw c.in-Ok-None.field-0-is at c.in-Ok-None.ensures)

pub returns-in-Ok-Some : goal.returns-in-Ok-Some
returns-in-Ok-Some g c =
    let settled = c.is_at_rest.ensures.settled in
    cause_owes g.S.Store g.met.S.Store.settled c.args.conn settled c.is_at_rest.ensures.live c.raise_any.new.conn c.in-Ok-Some.cause (rw c.in-Ok-Some.field-0-is at c.in-Ok-Some.ensures)

pub returns-in-Err : goal.returns-in-Err
returns-in-Err g c =
    let settled = c.is_at_rest.ensures.settled in
    rw c.failed.ensures (failed_owes g.S.Store g.met.S.Store.settled c.args.conn settled c.is_at_rest.ensures.live c.raise_any.new.conn c.in-Err.ensures.survives c.in-Err.ensures.ended c.in-Err.fault)
