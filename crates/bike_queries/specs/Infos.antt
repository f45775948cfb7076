-- What queries show of bicycles, riders and rentals.
use Rattle.std.specs.Prelude.{ℕ, ℤ, Option, option_map}
use Rattle.std.specs.FinMap as map
use Rattle.bike_ledger.specs.Ledger.{refunded_of}
use Rattle.bike_operator.specs.declared.records.Place.{Place}
use Rattle.bike_operator.specs.declared.records.Rental.{Rental}
use Rattle.bike_operator.specs.declared.records.Closing.{Closing}
use Rattle.bike_operator.specs.Operator.{Operator, Rider, item_numbered}
use Rattle.bike_operator.specs.View.{rider_balance}
use Rattle.bike_office_reads.specs.Newest.{open_number}
use Rattle.bike_operator.specs.declared.rental_info.ClosingInfo.{ClosingInfo}
use Rattle.bike_operator.specs.declared.rental_info.RentalInfo.{RentalInfo}
use Rattle.bike_queries.specs.declared.riders.RiderInfo.{RiderInfo}

-- ---- bicycles

-- where a bicycle is
abbrev pub place_at : Operator → ℕ → Option Place
place_at s bike = option_map (λ b. b.place) (map.get s.bikes bike)

-- ---- riders

-- the sum of what the ledger books for a rider, and has booked in entries that were archived
abbrev pub balance_at : Operator → ℕ → Option ℤ
balance_at s rider = option_map (λ _. rider_balance s rider) (map.get s.riders rider)

abbrev pub rider_info : Operator → ℕ → Rider → RiderInfo
rider_info s rider r =
    record { is_blocked = r.is_blocked; balance = rider_balance s rider; rental = open_number s rider }

abbrev pub rider_info_at : Operator → ℕ → Option RiderInfo
rider_info_at s rider = option_map (rider_info s rider) (map.get s.riders rider)

-- ---- rentals

-- how a rental was closed, with the sum of its refunds
abbrev pub closing_info : ℤ → Closing → ClosingInfo
closing_info refunded c = record { to_station = c.to_station; finish = c.finish; fare = c.fare; refunded = refunded }

abbrev pub rental_info : ℤ → Rental → RentalInfo
rental_info refunded r =
    record {
      rider = r.rider;
      bike = r.bike;
      plan = r.plan;
      from_station = r.from_station;
      start = r.start;
      closing = option_map (closing_info refunded) r.closing;
    }

abbrev pub rental_info_at : Operator → ℕ → Option RentalInfo
rental_info_at s rental = option_map (rental_info (refunded_of rental s.entries.items)) (item_numbered rental s.rentals)
