use Rattle.std.proofs.Common.{rules, subst, sym}
use Rattle.bike_sql.proofs.ChainLaws.{reads_as, reads_refused}
use Rattle.bike_readings.proofs.RulesLaws.{stored_in_order}
use Rattle.bike_schema.specs.Tables.{tables_of}
use Rattle.bike_migrate.specs.Verdicts.{IsVerdictBefore}
use Rattle.bike_migrate.proofs.VerdictLemmas.{judged}
use Rattle.bike_migrate.proofs.judge.judge_bounded.Goals as goal

pub returns-in_err-over : goal.returns-in_err-over
returns-in_err-over g c = reads_refused c.in_ok-found.ensures.verdict (search rules)

pub returns : goal.returns
returns g c =
    reads_as c.in_ok-found.ensures.verdict (λ db verdict copies. subst (IsVerdictBefore (tables_of db)) (sym c.first_of.ensures)
    (judged (tables_of db) (stored_in_order db) c.args.rows.now copies _ verdict _ c.in_ok-over.ensures))
