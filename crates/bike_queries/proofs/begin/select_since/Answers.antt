use Rattle.std.proofs.Common.{◌∙◌}
use Rattle.bike_sql.proofs.ParamLemmas.{bindings}
use Rattle.bike_schema.proofs.AnswerLemmas.{row_answers, reads_weaker}
use Rattle.bike_queries.proofs.RequestLemmas.{request_found}
use Rattle.bike_queries.proofs.SpanLaw.{finds_request_after}
use Rattle.bike_queries.proofs.BeginLemmas.{END}
use Rattle.bike_queries.proofs.begin.select_since.Goals as goal

pub returns : goal.returns
returns g c =
    reads_weaker (row_answers (finds_request_after 0 c.args.since END) c.first_row.ensures (search bindings)) (λ db row is s h.
    is s h ∙ request_found s 0 c.args.since END)
