use Rattle.std.proofs.Common.{◌∙◌}
use Rattle.std.proofs.lemmas.Result.{IfOk-weaker}
use Rattle.bike_schema.proofs.AnswerLemmas.{answers_then, reads_weaker}
use Rattle.bike_office_reads.proofs.NewestLemmas.{newest_decides}
use Rattle.bike_office_reads.proofs.OpenLemmas.{open_found}
use Rattle.bike_office_reads.proofs.rentals.find_open_rental.Goals as goal

pub returns-then-newest_tells : goal.returns-then-newest_tells
returns-then-newest_tells g c = reads_weaker c.find_newest_open.ensures (λ db x is s h tells. is s h ∙ newest_decides s c.args.rider (tells c.if-newest_tells.true))

pub returns : goal.returns
returns g c =
    answers_then _ _ c.in_ok-row.ensures (λ s m sound listing is.
    IfOk-weaker c.read_number.result _ _ (λ x held tells. open_found s m sound listing c.args.rider _ x is held) c.read_number.ensures)
