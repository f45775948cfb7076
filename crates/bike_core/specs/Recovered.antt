-- The bicycle of a rental that is recovered.
use Rattle.std.specs.Prelude.{◌≡◌, ℕ, List, Option, Some, None}
use Rattle.std.specs.Borrow.{Bor}
use Rattle.bike_operator.specs.declared.records.BikeState.TheVariants.{Disabled}
use Rattle.bike_operator.specs.declared.records.Bike.{Bike}
use Rattle.bike_operator.specs.declared.change.NewPlace.TheVariants as new
use Rattle.bike_accepted.specs.declared.movement.BikeStatus.{BikeStatus}
use Rattle.bike_accepted.specs.declared.movement.Movement.{Movement}
use Rattle.bike_accepted.specs.declared.movement.Movement.TheVariants as moved
use Rattle.bike_accepted.specs.Moves.{IsShown}

-- the bicycle of a rental, where it is there, is disabled in the depot
abbrev pub IsRecovered : ℕ → Option Bike → Option Movement → Type 0
IsRecovered bike None m = m ≡ None
IsRecovered bike (Some b) m =
    (type_id : Bor (List ℕ)) × (was : BikeStatus) × IsShown b type_id was
    × (m ≡ Some (moved.Away bike type_id was (record { state = Disabled; place = new.Depot })))
