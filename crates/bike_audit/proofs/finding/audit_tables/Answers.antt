use Rattle.std.proofs.Common.{rules, subst}
use Rattle.std.specs.Prelude.{option_map}
use Rattle.bike_sql.proofs.ChainLaws.{reads_as, reads_failed}
use Rattle.bike_schema.specs.Tables.{tables_of}
use Rattle.bike_readings.specs.Rules.{IsVerdict}
use Rattle.bike_audit.specs.Audit.{row_name}
use Rattle.bike_audit.proofs.AuditLemmas.{ours_then}
use Rattle.bike_audit.proofs.finding.audit_tables.Goals as goal

pub returns-in_err-bad-clause-found : goal.returns-in_err-bad-clause-found
returns-in_err-bad-clause-found g c = reads_failed (ours_then c.in_ok-check_open.ensures c.obeys_schema.ensures c.in_err-bad.ensures.verdict) (search rules)

pub returns-in-Some-clause-found : goal.returns-in-Some-clause-found
returns-in-Some-clause-found g c =
    reads_as (ours_then c.in_ok-check_open.ensures c.obeys_schema.ensures c.in_ok-bad.ensures.verdict)
    (λ db is. (is.0, subst (λ o. IsVerdict (tables_of db) (option_map row_name o)) c.in-Some.is is.1))

pub returns-in-None-clause-found : goal.returns-in-None-clause-found
returns-in-None-clause-found g c =
    reads_as (ours_then c.in_ok-check_open.ensures c.obeys_schema.ensures c.in_ok-bad.ensures.verdict)
    (λ db is. (is.0, subst (λ o. IsVerdict (tables_of db) (option_map row_name o)) c.in-None.is is.1))
