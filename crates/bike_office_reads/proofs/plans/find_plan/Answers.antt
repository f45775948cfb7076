use Rattle.std.proofs.Common.{sym, ◌∙◌}
use Rattle.bike_book.proofs.FoundKeys.{found_by_key}
use Rattle.bike_schema.proofs.AnswerLemmas.{answers_then, answers_both, none_is}
use Rattle.bike_office_reads.proofs.RowLemmas.{plan_found}
use Rattle.bike_office_reads.proofs.plans.find_plan.Goals as goal

pub returns-in_ok-read_plan-in-Some : goal.returns-in_ok-read_plan-in-Some
returns-in_ok-read_plan-in-Some g c =
    let plan = c.args.plan.now in
    answers_then _ _ (answers_both _ _ c.in_ok-row.ensures c.in_ok-segments-in-Some.ensures) (λ s m sound listing both.
    plan_found plan _ (λ p found. (sound.catalogue.plans plan p found).id_is) (sym c.in-Some.is ∙ both.0 ∙ (found_by_key s m sound listing).plans plan) both.1 c.in_ok-read_plan-in-Some.ensures)

pub returns-in-None : goal.returns-in-None
returns-in-None g c = answers_then _ _ c.in_ok-row.ensures (λ s m sound listing is. none_is _ _ (sym c.in-None.is ∙ is ∙ (found_by_key s m sound listing).plans c.args.plan.now))
