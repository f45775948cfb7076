use Rattle.std.proofs.Common.{rules}
use Rattle.bike_sql.proofs.ChainLaws.{reads_as, reads_both, reads_failed}
use Rattle.bike_views.proofs.rentals.find_rental_bike.Goals as goal

pub returns-in_err-rental : goal.returns-in_err-rental
returns-in_err-rental g c = reads_failed (reads_both c.in_ok-bike.ensures c.in_err-rental.ensures) (search rules)

pub returns : goal.returns
returns g c = reads_as (reads_both c.in_ok-bike.ensures c.in_ok-rental.ensures) (λ db it s h refunds.
    let rental = it.1 s h refunds in
    λ i. record { bike = it.0 s h i; rental = rental i })
