use Rattle.std.proofs.Common.{rules, ◌∙◌}
use Rattle.bike_sql.proofs.ChainLaws.{reads_as}
use Rattle.bike_schema.specs.declared.fault.StatementFault.{StatementFault}
use Rattle.bike_migrate.proofs.InPlaceLemmas.{attempt_failed, begin_failed, attempted}
use Rattle.bike_migrate.proofs.raising.attempt.Goals as goal

pub returns-in_err-rows : goal.returns-in_err-rows
returns-in_err-rows g c = attempt_failed g.S.Store c.args.earlier c.in_err-rows.ensures (search rules)

pub returns-in_err-begin : goal.returns-in_err-begin
returns-in_err-begin g c =
    begin_failed g.S.Store c.args.earlier c.args.conn.now c.read_old.new.conn c.in_ok-rows.rows.stations.items c.in_ok-rows.rows.riders.items c.in_ok-rows.rows.kept.items {x = c.in_ok-rows.rows}
    (reads_as {F = StatementFault} c.in_ok-rows.ensures (λ db is. is)) c.begin.new.conn (search rules) c.in_err-begin.ensures.survives

pub returns : goal.returns
returns g c =
    attempted g.S.Store c.args.earlier c.args.conn.now c.read_old.new.conn c.as_slice.result.now c.as_slice-2.result.now c.as_slice-3.result.now {x = c.in_ok-rows.rows}
    (reads_as {F = StatementFault} c.in_ok-rows.ensures (λ db is. (c.as_slice.ensures.value ∙ is.0, c.as_slice-2.ensures.value ∙ is.1, c.as_slice-3.ensures.value ∙ is.2)))
    c.begin.new.conn c.raise_inside.new.conn c.in_ok-begin.ensures.begun c.in_ok-begin.ensures.survives c.raise_inside.ensures
