-- Parts of a view that are read together.
use Rattle.std.specs.Prelude.{ℕ, List, Bool}
use Rattle.std.specs.List.{list_any}
use Rattle.std.specs.Str.{bytes_eq}
use Rattle.std.specs.FinMap as map
use Rattle.bike_catalogue.specs.Rows.{MoreNameRow}
use Rattle.bike_operator.specs.declared.records.Rental.{Rental}
use Rattle.bike_operator.specs.Operator.{Operator, item_numbered}
use Rattle.bike_operator.specs.View.{bike_of, planned_rental, rental_at}
use Rattle.bike_views.specs.declared.rentals.RentalBike.{RentalBike}

-- a rental's bicycle, and the rental with its plan
abbrev pub rental_bike : Operator → ℕ → Rental → RentalBike
rental_bike s number r = record {
  bike = map.get s.bikes r.bike;
  rental = planned_rental s number r (map.get s.plans r.plan);
}

-- the same by the rental's number, where it is there
abbrev pub rental_bike_at : Operator → ℕ → RentalBike
rental_bike_at s rental = record { bike = bike_of s (item_numbered rental s.rentals); rental = rental_at s rental }

-- one of these names is in the language
abbrev pub is_among : List ℕ → List MoreNameRow → Bool
is_among language = list_any (λ m. bytes_eq m.language language)
