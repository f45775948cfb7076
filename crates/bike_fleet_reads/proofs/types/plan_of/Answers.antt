use Rattle.bike_fleet_reads.proofs.ColumnLemmas.{holds_ident}
use Rattle.bike_fleet_reads.proofs.types.plan_of.Goals as goal

pub returns-in_ok-plan-in-Some : goal.returns-in_ok-plan-in-Some
returns-in_ok-plan-in-Some c = rw c.in-Some.is (holds_ident _ _ c.in_ok-plan-in-Some.ensures.ok).0
