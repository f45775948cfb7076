use Rattle.std.proofs.Common.{subst}
use Rattle.bike_sql.proofs.ChainLaws.{reads_as}
use Rattle.bike_recognition.specs.Recognition.{IsRecognised}
use Rattle.bike_audit.proofs.AuditLemmas.{ours_audited}
use Rattle.bike_audit.proofs.finding.audit.Goals as goal

pub returns-in-Foreign-clause-audited : goal.returns-in-Foreign-clause-audited
returns-in-Foreign-clause-audited g c = reads_as c.in_ok-recognise.ensures (λ db told. subst (IsRecognised db) c.in-Foreign.is told)

pub returns-in-Ours-clause-audited : goal.returns-in-Ours-clause-audited
returns-in-Ours-clause-audited g c = ours_audited c.in_ok-recognise.ensures c.in-Ours.is c.audit_tables.ensures.found
