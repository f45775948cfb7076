use Rattle.std.proofs.Common.{min, ◌∙◌}
use Rattle.bike_sql.proofs.ParamLemmas.{bindings}
use Rattle.bike_book.specs.Numbers.{most_requests}
use Rattle.bike_schema.proofs.AnswerLemmas.{row_answers, reads_weaker}
use Rattle.bike_queries.proofs.RequestLemmas.{request_found}
use Rattle.bike_queries.proofs.SpanLaw.{finds_request_after}
use Rattle.bike_queries.proofs.requests.select_request.Goals as goal

pub returns : goal.returns
returns g c =
    let start = min c.args.number most_requests in
    reads_weaker (row_answers (finds_request_after start c.args.begin c.args.end) c.first_row.ensures (search bindings)) (λ db row is s h.
    is s h ∙ request_found s start c.args.begin c.args.end)
