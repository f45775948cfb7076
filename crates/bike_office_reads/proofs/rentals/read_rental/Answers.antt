use Rattle.bike_sql.proofs.ParamLemmas.{bindings}
use Rattle.bike_office_reads.proofs.RowLemmas.{rental_read}
use Rattle.bike_office_reads.proofs.rentals.read_rental.Goals as goal

pub returns : goal.returns
returns c = λ number y is.
    rental_read number y c.in_ok-rider.ensures c.in_ok-bike.ensures c.in_ok-plan.ensures.ok c.in_ok-from_station.ensures.ok c.in_ok-start.ensures c.in_ok-closing.ensures c.in_ok-refunded.ensures
    (search bindings) is
