use Rattle.std.proofs.Common.{sym, ap, ◌∙◌}
use Rattle.bike_operator.specs.View.{rental_in, rental_of}
use Rattle.bike_schema.proofs.AnswerLemmas.{reads_weaker}
use Rattle.bike_views.proofs.OpenLaws.{open_of}
use Rattle.bike_views.proofs.rentals.find_rental_of.Goals as goal

pub returns-in-Rental : goal.returns-in-Rental
returns-in-Rental g c = open_of (reads_weaker c.find_rental_view.ensures (λ db x it s h.
    it s h ∙ sym (ap (rental_of s) c.in-Some.is ∙ ap (rental_in s) c.in-Rental.is)))
