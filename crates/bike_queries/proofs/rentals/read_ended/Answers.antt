use Rattle.std.proofs.Common.{ℤ, ap, ◌∙◌}
use Rattle.sqlite_value.specs.Order.{Row, column}
use Rattle.bike_ledger.specs.Ledger.{refunded_of}
use Rattle.bike_operator.specs.declared.records.Rental.{Rental}
use Rattle.bike_schema.proofs.ReadLemmas.{number_read}
use Rattle.bike_queries.specs.Infos.{rental_info}
use Rattle.bike_queries.proofs.rentals.read_ended.Goals as goal

pub returns : goal.returns
returns c = λ entries e is.
    let number_is = number_read 1 100000000 c.in_ok-number.ensures (ap (λ (r : Row). column r 0) is) in
    let info_is = c.rental_info.ensures ∙ ap (λ (x : Rental × ℤ). rental_info x.1 x.0) (c.in_ok-rental.ensures e.0 (e.1, refunded_of e.0 entries) is) in
    λ i. (number_is i, info_is i)
