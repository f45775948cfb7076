use Rattle.std.proofs.Common.{ap}
use Rattle.bike_schema.specs.declared.fault.StatementFault.TheVariants.{StoreFailed}
use Rattle.bike_audit.specs.declared.adoption.AdoptFault.{AdoptFault}
use Rattle.bike_audit.proofs.AdoptLemmas.{fresh_at, crash_after}
use Rattle.bike_audit.proofs.adoption.begin.Goals as goal

pub returns-in-Ok-clause-begun : goal.returns-in-Ok-clause-begun
returns-in-Ok-clause-begun g c none =
    rw c.over.ensures (λ clean.
    let made = c.in-Ok.ensures.made clean none in
    record { was_open = made.0.was_open; at = fresh_at g.S.Store g.met.S.Store.settled c.args.conn c.make_tables.new.conn made.0 made.1; fresh = made.1 })

pub returns-then-not-has_room-clause-told : goal.returns-then-not-has_room-clause-told
returns-then-not-has_room-clause-told g c = (StoreFailed, ap (λ (e : AdoptFault _). e.cause) c.failed.ensures)

pub returns-in-Err-clause-told : goal.returns-in-Err-clause-told
returns-in-Err-clause-told g c = (c.in-Err.fault, ap (λ (e : AdoptFault _). e.cause) c.failed-in-Err.ensures)

pub returns-in-Err-clause-crash : goal.returns-in-Err-clause-crash
returns-in-Err-clause-crash g c none s stands =
    rw c.failed-in-Err.ensures (crash_after g.S.Store c.args.conn c.make_tables.new.conn c.is_at_rest.ensures.live none (c.make_tables.ensures.crash none) s stands)
