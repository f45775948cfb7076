-- The numbers that the tables store and the operator does not keep, each as a count over its records.
use Rattle.std.specs.Prelude.{ℕ, List, ◌&&◌, not, Bool}
use Rattle.std.specs.Str.{bytes_eq}
use Rattle.std.specs.FinMap as map
use Rattle.bike_operator.specs.declared.records.Bike.{Bike}
use Rattle.bike_operator.specs.Operator.{Operator}
use Rattle.bike_operator.specs.Counts.{count, is_at, is_available, is_working_dock}

-- the bicycle is of this type and can be rented at this station
abbrev pub is_available_of : Operator → List ℕ → List ℕ → Bike → Bool
is_available_of s station type_id b = bytes_eq b.type_id type_id && is_available s station b

-- the bicycle is of this type, in a dock of this station, and can't be rented
abbrev pub is_disabled_of : Operator → List ℕ → List ℕ → Bike → Bool
is_disabled_of s station type_id b =
    bytes_eq b.type_id type_id && (is_at station b.place && not (is_available s station b))

-- bicycles of a type in the docks of a station that can't be rented
abbrev pub disabled_of : Operator → List ℕ → List ℕ → ℕ
disabled_of s station type_id = count (λ b. is_disabled_of s station type_id b.1) (map.entries s.bikes)

-- bicycles in the working docks of a station
abbrev pub occupied_docks : Operator → List ℕ → ℕ
occupied_docks s station = count (λ b. is_working_dock s station b.1.place) (map.entries s.bikes)
