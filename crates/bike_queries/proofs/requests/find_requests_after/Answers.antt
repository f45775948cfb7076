use Rattle.std.proofs.Common.{◌∙◌}
use Rattle.std.proofs.lemmas.Result.{IfOk-weaker}
use Rattle.bike_schema.proofs.AnswerLemmas.{answers_then}
use Rattle.bike_queries.proofs.requests.find_requests_after.Goals as goal

pub returns : goal.returns
returns g c = answers_then _ _ c.in_ok-rows.ensures (λ s m sound listing is. IfOk-weaker c.page_of.result _ _ (λ page made. made ∙ is) c.page_of.ensures)
