use Rattle.std.proofs.Common.{ap}
use Rattle.sqlite_value.specs.Order.{column}
use Rattle.bike_schema.proofs.ReadLemmas.{number_read}
use Rattle.bike_office_reads.proofs.newest.read_ride.Goals as goal

pub returns : goal.returns
returns c = λ number r refunded is.
    let number_is = number_read 1 100000000 c.in_ok-number.ensures (ap (λ row. column row 0) is) in
    let rider_is = number_read 1 999999 c.in_ok-rider.ensures (ap (λ row. column row 1) is) in
    λ i. record { number = number_is i; rider = rider_is i }
