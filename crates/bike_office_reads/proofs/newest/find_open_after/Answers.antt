use Rattle.std.proofs.Common.{sym, ◌∙◌}
use Rattle.bike_schema.proofs.AnswerLemmas.{answers_then}
use Rattle.bike_office_reads.specs.Newest.{open_after}
use Rattle.bike_office_reads.proofs.NewestRows.{ride_told, no_ride}
use Rattle.bike_office_reads.proofs.newest.find_open_after.Goals as goal

pub returns-in_ok-read_ride-in-Some : goal.returns-in_ok-read_ride-in-Some
returns-in_ok-read_ride-in-Some g c =
    answers_then _ _ c.in_ok-row.ensures (λ s m sound listing is. ride_told s.entries.items (open_after s c.args.number) (sym c.in-Some.is ∙ is) c.in_ok-read_ride-in-Some.ensures)

pub returns-in-None : goal.returns-in-None
returns-in-None g c = answers_then _ _ c.in_ok-row.ensures (λ s m sound listing is. no_ride s.entries.items (open_after s c.args.number) (sym c.in-None.is ∙ is))
