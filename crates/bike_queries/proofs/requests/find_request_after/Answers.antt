use Rattle.std.proofs.Common.{sym, ◌∙◌}
use Rattle.bike_schema.proofs.AnswerLemmas.{answers_then}
use Rattle.bike_queries.proofs.RequestLemmas.{request_shown, no_request}
use Rattle.bike_queries.proofs.requests.find_request_after.Goals as goal

pub returns-in_ok-read_request-in-Some : goal.returns-in_ok-read_request-in-Some
returns-in_ok-read_request-in-Some g c =
    answers_then _ _ c.in_ok-row.ensures (λ s m sound listing is. request_shown s c.args.number c.args.begin c.args.end c.in_ok-read_request-in-Some.ensures (sym c.in-Some.is ∙ is))

pub returns-in-None : goal.returns-in-None
returns-in-None g c = answers_then _ _ c.in_ok-row.ensures (λ s m sound listing is. no_request s c.args.number c.args.begin c.args.end (sym c.in-None.is ∙ is))
