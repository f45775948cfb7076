use Rattle.std.proofs.Common.{refl, subst}
use Rattle.bike_sql.proofs.ChainLaws.{reads_as, reads_refused}
use Rattle.bike_audit.specs.Audit.{IsAudited}
use Rattle.bike_migrate.proofs.raising.audit_newest.Goals as goal

pub returns-in-Sound : goal.returns-in-Sound
returns-in-Sound g c = reads_as c.in_ok-audit.ensures.audited (λ db is. subst (IsAudited db) c.in-Sound.is is)

pub returns-in-Unsound : goal.returns-in-Unsound
returns-in-Unsound g c = reads_as c.in_ok-audit.ensures.audited (λ db is. subst (IsAudited db) c.in-Unsound.is is)

pub returns-in_default : goal.returns-in_default
returns-in_default g c = reads_refused c.in_ok-audit.ensures.audited refl
