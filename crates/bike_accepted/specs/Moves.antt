-- A bicycle that is put or held, as the view shows it.
use Rattle.std.specs.Prelude.{◌≡◌, ℕ, List, Bool, false, Option, Some, None}
use Rattle.std.specs.Borrow.{Bor}
use Rattle.bike_texts.specs.declared.ends.OrderEnd.{OrderEnd}
use Rattle.bike_texts.specs.declared.ends.OrderEnd.TheVariants as end
use Rattle.bike_operator.specs.declared.records.Bike.{Bike}
use Rattle.bike_operator.specs.Changes.{place_of}
use Rattle.bike_operator.specs.declared.view.DockedBike.{DockedBike}
use Rattle.bike_operator.specs.declared.change.NewPlace.{NewPlace}
use Rattle.bike_operator.specs.declared.change.NewPlace.TheVariants as new
use Rattle.bike_accepted.specs.declared.movement.BikeStatus.{BikeStatus}
use Rattle.bike_accepted.specs.declared.movement.DockOccupant.{DockOccupant}
use Rattle.bike_accepted.specs.declared.movement.Movement.{Movement}
use Rattle.bike_accepted.specs.declared.movement.Movement.TheVariants as moved

-- a bicycle stands so
pub record IsShown (b : Bike) (type_id : Bor (List ℕ)) (was : BikeStatus) : Type 0 where
  pub type_is : type_id.now ≡ b.type_id
  pub state_is : was.state ≡ b.state
  pub place_is : place_of was.place ≡ b.place

-- put from that place: where it is a dock, from one with this mark
abbrev pub put_from : NewPlace → ℕ → Bor (List ℕ) → BikeStatus → BikeStatus → Bool → Movement
put_from (new.Dock station dock) bike type_id was becomes broken =
    moved.AtDock (record { station = station; dock = dock; is_broken = broken }) bike type_id was becomes
put_from (new.Rental rental) bike type_id was becomes broken = moved.Away bike type_id was becomes
put_from (new.Truck truck order) bike type_id was becomes broken = moved.Away bike type_id was becomes
put_from new.Depot bike type_id was becomes broken = moved.Away bike type_id was becomes

-- put at an end of an order: in the depot, or in a dock that works
abbrev pub IsPutAtEnd : OrderEnd → ℕ → Bor (List ℕ) → BikeStatus → ℕ → Movement → Type 0
IsPutAtEnd end.Depot bike type_id was dock m =
    m ≡ moved.Away bike type_id was (record { state = was.state; place = new.Depot })
IsPutAtEnd (end.Station station) bike type_id was dock m =
    (x : Bor (List ℕ)) × (x.now ≡ station)
    × (m ≡ moved.AtDock (record { station = x; dock = dock; is_broken = false }) bike type_id was
    (record { state = was.state; place = new.Dock x dock }))

-- the bicycle in a dock, where the view shows one
abbrev pub IsHeldShown : Option DockedBike → Option DockOccupant → Type 0
IsHeldShown None None = Unit {0}
IsHeldShown None (Some h) = ⊥
IsHeldShown (Some d) None = ⊥
IsHeldShown (Some d) (Some h) = (h.bike ≡ d.bike) × (h.type_id.now ≡ d.type_id) × (h.state ≡ d.state)
