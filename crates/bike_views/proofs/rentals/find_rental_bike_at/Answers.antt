use Rattle.std.proofs.Common.{Option, sym, ap, ◌∙◌}
use Rattle.bike_sql.proofs.ChainLaws.{reads_as, reads_both}
use Rattle.bike_operator.specs.declared.records.Rental.{Rental}
use Rattle.bike_operator.specs.Operator.{item_numbered}
use Rattle.bike_operator.specs.View.{bike_of, rental_view}
use Rattle.bike_views.specs.declared.rentals.RentalBike.{RentalBike}
use Rattle.bike_schema.proofs.AnswerLemmas.{reads_weaker}
use Rattle.bike_views.proofs.PartLemmas.{rental_lacks, rental_read}
use Rattle.bike_views.proofs.rentals.find_rental_bike_at.Goals as goal

pub returns-in-None : goal.returns-in-None
returns-in-None g c = reads_as c.in_ok-find_rental.ensures (λ db it s h.
    let none = rental_lacks c.args.rental s.entries.items (item_numbered c.args.rental s.rentals) (it s h) c.in-None.is in
    λ i. record { bike = bike_of s (none i); rental = rental_view s c.args.rental (none i) })

pub returns-in-Some : goal.returns-in-Some
returns-in-Some g c = reads_weaker (reads_both c.in_ok-find_rental.ensures c.find_rental_bike.ensures) (λ db x it s h.
    let found = rental_read c.args.rental s.entries.items (item_numbered c.args.rental s.rentals) (it.0 s h) c.in-Some.is in
    let whole = λ (o : Option Rental). let ridden : RentalBike = record { bike = bike_of s o; rental = rental_view s c.args.rental o } in ridden in
    it.1 s h found.1 ∙ ap whole (sym found.0))
