use Rattle.std.proofs.Common.{◌∙◌}
use Rattle.bike_sql.proofs.ParamLemmas.{bindings}
use Rattle.bike_schema.proofs.AnswerLemmas.{row_answers, reads_weaker}
use Rattle.bike_queries.proofs.SpanLaw.{finds_ended_after}
use Rattle.bike_queries.proofs.SpanLemmas.{ended_found}
use Rattle.bike_queries.proofs.rentals.select_ended.Goals as goal

pub returns : goal.returns
returns g c =
    reads_weaker (row_answers (finds_ended_after c.start_at.result c.args.begin c.args.end) c.first_row.ensures (search bindings)) (λ db row is s h.
    is s h ∙ ended_found s h.sound c.args.number c.args.begin c.args.end c.start_at.result c.start_at.ensures)
