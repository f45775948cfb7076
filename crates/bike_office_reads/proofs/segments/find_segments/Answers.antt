use Rattle.std.proofs.Common.{ap, ◌∙◌}
use Rattle.std.proofs.lemmas.Result.{IfOk-weaker}
use Rattle.bike_book.specs.Found.{segments_in}
use Rattle.bike_book.proofs.FoundColumns.{found_by_columns}
use Rattle.bike_schema.proofs.AnswerLemmas.{answers_then}
use Rattle.bike_office_reads.proofs.segments.find_segments.Goals as goal

pub returns : goal.returns
returns g c =
    let plan = c.args.plan.now in
    answers_then _ _ c.in_ok-rows.ensures (λ s m sound listing is. IfOk-weaker c.read_segments.result _ _
    (λ x reads p found. reads plan p.segments (c.as_slice.ensures.value ∙ is ∙ (found_by_columns s m sound listing).segments plan ∙ ap (segments_in plan) found)) c.read_segments.ensures)
