use Rattle.std.proofs.Common.{sym, ◌∙◌}
use Rattle.std.proofs.lemmas.Result.{IfOk-weaker}
use Rattle.bike_schema.proofs.AnswerLemmas.{answers_then}
use Rattle.bike_office_reads.specs.Newest.{newest_rental}
use Rattle.bike_office_reads.proofs.NewestRows.{open_told, none_told}
use Rattle.bike_office_reads.proofs.newest.find_newest_open.Goals as goal

pub returns-in-Some : goal.returns-in-Some
returns-in-Some g c =
    answers_then _ _ c.in_ok-row.ensures (λ s m sound listing is. IfOk-weaker c.read_open_number.result _ _
    (λ x reads. open_told s.entries.items (newest_rental s c.args.rider) (sym c.in-Some.is ∙ is) reads) c.read_open_number.ensures)

pub returns-in-None : goal.returns-in-None
returns-in-None g c = answers_then _ _ c.in_ok-row.ensures (λ s m sound listing is. none_told s.entries.items (newest_rental s c.args.rider) (sym c.in-None.is ∙ is))
