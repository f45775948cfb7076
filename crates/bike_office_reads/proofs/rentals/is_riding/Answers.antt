use Rattle.std.proofs.Common.{is_some, ap, ◌∙◌}
use Rattle.bike_schema.proofs.AnswerLemmas.{answers_then}
use Rattle.bike_office_reads.proofs.OpenLemmas.{rides_where_open}
use Rattle.bike_office_reads.proofs.rentals.is_riding.Goals as goal

pub returns : goal.returns
returns g c = answers_then _ _ c.in_ok-rental.ensures (λ s m sound listing is tells. c.is_some.ensures ∙ ap is_some (is tells) ∙ rides_where_open s m sound listing c.args.rider)
