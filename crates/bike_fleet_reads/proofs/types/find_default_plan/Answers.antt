use Rattle.bike_schema.proofs.AnswerLemmas.{answers_made}
use Rattle.bike_fleet_reads.proofs.FoundLemmas.{plan_found}
use Rattle.bike_fleet_reads.proofs.types.find_default_plan.Goals as goal

pub returns : goal.returns
returns g c = answers_made c.in_ok-row.ensures c.plan_of.ensures (λ db x is held s h. plan_found s h.listed h.sound h.listing c.args.type_id.now _ x (is s h) held)
