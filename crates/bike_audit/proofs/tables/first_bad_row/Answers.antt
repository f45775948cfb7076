use Rattle.bike_schema.proofs.AnswerLemmas.{reads_weaker}
use Rattle.bike_audit.proofs.AuditLemmas.{found_verdict}
use Rattle.bike_audit.proofs.tables.first_bad_row.Goals as goal

pub returns-clause-verdict : goal.returns-clause-verdict
returns-clause-verdict g c = reads_weaker c.first_bad_of.ensures.found found_verdict
