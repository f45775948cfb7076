use Rattle.std.proofs.Common.{sym, ◌∙◌}
use Rattle.bike_schema.proofs.AnswerLemmas.{answers_then, answers_both, reads_weaker}
use Rattle.bike_queries.proofs.NextLemmas.{next_plan, no_plan}
use Rattle.bike_queries.proofs.plans.find_plan_after.Goals as goal

pub returns-in-Some : goal.returns-in-Some
returns-in-Some g c =
    reads_weaker (answers_both _ _ c.in_ok-plan.ensures c.find_plan.ensures) (λ db x both s h.
    let it = both s h in next_plan s h.sound _ c.in-Some.plan x (sym c.in-Some.is ∙ it.0) it.1)

pub returns-in-None : goal.returns-in-None
returns-in-None g c = answers_then _ _ c.in_ok-plan.ensures (λ s m sound listing is. no_plan _ (sym c.in-None.is ∙ is))
