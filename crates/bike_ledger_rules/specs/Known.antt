-- What is known of numbers and identifiers: what the tables have under each, and the same as it is held in memory.
use Rattle.std.specs.Prelude.{ℕ, ◌+◌, ◌-◌, List, ◌∷◌, [], ◌++◌, length, get_or, set, replicate, Bool, Option, Some}
use Rattle.std.specs.Prelude.{None, is_some, option_map, option_and_then}
use Rattle.std.specs.FinSet as set
use Rattle.sqlite_value.specs.declared.value.Value.TheVariants.{Text}
use Rattle.sqlite_value.specs.Order.{Row}
use Rattle.bike_operator.specs.declared.records.Place.{Place}
use Rattle.bike_operator.specs.declared.records.Place.TheVariants as place
use Rattle.bike_book.specs.Tables.{Tables, Riders, Bikes, Plans, Stations}
use Rattle.bike_book.specs.Rows.{number_value}
use Rattle.bike_book.specs.declared.columns.riders.TheConstants as riders
use Rattle.bike_book.specs.declared.columns.stations.TheConstants as stations
use Rattle.bike_book.specs.declared.columns.bikes.TheConstants as bikes
use Rattle.bike_readings.specs.Readings.{rider_read, bike_read, plan_read, station_read}
use Rattle.bike_readings.specs.Rules.{row_under}
use Rattle.bike_judges.specs.Lines.{part}
use Rattle.bike_ledger_rules.specs.declared.known.RiderSet.{RiderSet}
use Rattle.bike_ledger_rules.specs.declared.known.BikeSet.{BikeSet}
use Rattle.bike_ledger_rules.specs.declared.known.PlanSet.{PlanSet}
use Rattle.bike_ledger_rules.specs.declared.known.StationSet.{StationSet}
use Rattle.bike_ledger_rules.specs.declared.known.Names.{Names}
use Rattle.bike_ledger_rules.specs.Sums.{with_read}

-- ---- values by number: a list has one, or none, for each number below its length

-- the value of a number; beyond the end there is none
abbrev pub value_at : {V : Type 0} → List (Option V) → ℕ → Option V
value_at values number = get_or values number None

-- as long as this at least, with no values in what is added
abbrev pub reaching : {V : Type 0} → ℕ → List (Option V) → List (Option V)
reaching size values = values ++ replicate (size - length values) None

-- with this value of the number
abbrev pub with_value : {V : Type 0} → List (Option V) → ℕ → V → List (Option V)
with_value values number v = set (reaching (number + 1) values) number (Some v)

-- ---- riders

-- THE TABLE has a row under the number that spells a rider
abbrev pub has_rider : Tables → ℕ → Bool
has_rider t number = is_some (option_and_then rider_read (row_under t Riders (number_value number ∷ [])))

-- the number is in the set
abbrev pub is_listed : List (Option (Unit {0})) → ℕ → Bool
is_listed numbers number = is_some (value_at numbers number)

-- of a line with the rider in front
abbrev pub with_rider : RiderSet → Row → RiderSet
with_rider a line =
    record a {
      numbers = with_read (λ numbers e. with_value numbers e.0 tt) a.numbers
          (rider_read (part 0 riders.COLUMNS line));
    }

-- ---- bicycles

-- the rental in which a bicycle is, if it is in one
abbrev pub rental_at : Place → Option ℕ
rental_at (place.Dock station dock) = None
rental_at (place.Rental rental) = Some rental
rental_at (place.Truck truck order) = None
rental_at place.Depot = None

-- where the TABLE has a row under the number that spells a bicycle, the rental in which that is, if any
abbrev pub bike_rental : Tables → ℕ → Option (Option ℕ)
bike_rental t number =
    option_map (λ b. rental_at b.1.place) (option_and_then bike_read (row_under t Bikes (number_value number ∷ [])))

-- of a line with the bicycle in front
abbrev pub with_bike : BikeSet → Row → BikeSet
with_bike a line =
    record a {
      rentals = with_read (λ rentals b. with_value rentals b.0 (rental_at b.1.place)) a.rentals
          (bike_read (part 0 bikes.COLUMNS line));
    }

-- ---- plans and stations

-- THE TABLE has a row under the identifier that spells a plan
abbrev pub has_plan : Tables → List ℕ → Bool
has_plan t id = is_some (option_and_then plan_read (row_under t Plans (Text id ∷ [])))

abbrev pub with_plan : PlanSet → Row → PlanSet
with_plan a row = record a { idents = with_read (λ idents e. set.insert idents e.0) a.idents (plan_read row) }

-- THE TABLE has a row under the identifier that spells a station
abbrev pub has_station : Tables → List ℕ → Bool
has_station t id = is_some (option_and_then station_read (row_under t Stations (Text id ∷ [])))

-- of a line with the station in front
abbrev pub with_station : StationSet → Row → StationSet
with_station a line =
    record a {
      idents = with_read (λ idents e. set.insert idents e.0) a.idents
          (station_read (part 0 stations.COLUMNS line));
    }

-- ---- all that rentals name

-- what is known of the numbers and identifiers
pub record Known : Type 0 where
  pub riders : ℕ → Bool
  -- of each bicycle that is there the rental in which it is, if any
  pub bikes : ℕ → Option (Option ℕ)
  pub plans : List ℕ → Bool
  pub stations : List ℕ → Bool

-- as the tables have it
abbrev pub known_in : Tables → Known
known_in t = record { riders = has_rider t; bikes = bike_rental t; plans = has_plan t; stations = has_station t }

-- as it is held in memory
abbrev pub held_in : Names → Known
held_in names = record {
  riders = is_listed names.riders;
  bikes = value_at names.bikes;
  plans = set.contains names.plans;
  stations = set.contains names.stations;
}
