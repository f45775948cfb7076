use Rattle.std.proofs.Common.{Some, None}
use Rattle.bike_sql.proofs.WalkLaw.{walk_goes}
use Rattle.bike_office_reads.proofs.CollectLaws.{one_read}
use Rattle.bike_office_reads.proofs.collect.read_next.Goals as goal

pub returns-in_ok-read-in-Some-clause-next : goal.returns-in_ok-read-in-Some-clause-next
returns-in_ok-read-in-Some-clause-next g c clean left it =
    let new = c.advance.new.self.conn.now in
    one_read g.S.Store g.R.ReadRow.reads new c.in-Some.row.now c.in_ok-read-in-Some.field-0 c.in_ok-read-in-Some.ensures left
    (walk_goes g.S.Store c.args.rows.now.conn.now new (Some c.in-Some.row.now) (rw (← c.in-Some.ensures) at (c.in_ok-advance.ensures.ok clean)) (c.in_ok-advance.ensures.same clean) left it)

pub returns-in-None-clause-next : goal.returns-in-None-clause-next
returns-in-None-clause-next g c clean left it =
    walk_goes g.S.Store c.args.rows.now.conn.now c.advance.new.self.conn.now None (rw (← c.in-None.ensures) at (c.in_ok-advance.ensures.ok clean)) (c.in_ok-advance.ensures.same clean) left it
