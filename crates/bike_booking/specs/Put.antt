-- A bicycle's record put and a dock marked: what was there before, and the numbers that are written after it.
use Rattle.std.specs.Prelude.{◌≡◌, ◌+◌, ◌-◌, ℕ, List, Bool, false, Some, None}
use Rattle.std.specs.FinMap as map
use Rattle.bike_operator.specs.declared.records.BikeState.{BikeState}
use Rattle.bike_operator.specs.declared.records.Place.{Place}
use Rattle.bike_operator.specs.declared.records.Place.TheVariants as place
use Rattle.bike_operator.specs.declared.records.Bike.{Bike}
use Rattle.bike_operator.specs.declared.change.NewPlace.{NewPlace}
use Rattle.bike_operator.specs.Operator.{Operator}
use Rattle.bike_operator.specs.Counts.{is_broken, docked_at}
use Rattle.bike_operator.specs.Changes.{place_of}
use Rattle.bike_operator.specs.Sound.{HasDock}
use Rattle.bike_laws.specs.SingleSteps.Laws.{one, Shares, dock_shares, place_shares, IsAway}
use Rattle.bike_book.specs.declared.by_type.TypeCounts.{TypeCounts}
use Rattle.bike_booking.specs.Facts.{DockTotals}

-- ---- the record

-- a bicycle in this state and place
abbrev pub standing : Bike → BikeState → NewPlace → Bike
standing b state p = record b { state = state; place = place_of p }

-- the operator with this record of a bicycle
abbrev pub bike_put : ℕ → Bike → Operator → Operator
bike_put bike b s = record s { bikes = map.insert s.bikes bike b }

-- ---- what was there

-- the dock is there, and is broken, or works
pub record IsDockAt (s : Operator) (station : List ℕ) (dock : ℕ) (broken : Bool) : Type 0 where
  pub has : HasDock s station dock
  pub mark : is_broken s station dock ≡ broken

-- the place is no dock, or this one
abbrev pub IsNoOtherDock : List ℕ → ℕ → Place → Type 0
IsNoOtherDock at n (place.Dock station dock) = (station ≡ at) × (dock ≡ n)
IsNoOtherDock at n (place.Rental rental) = Unit {0}
IsNoOtherDock at n (place.Truck truck order) = Unit {0}
IsNoOtherDock at n place.Depot = Unit {0}

-- A bicycle is put from this dock, into it, or in another state
-- in it. Where it was in no dock, this one is empty and works.
pub record IsPutAtDock (s : Operator) (station : List ℕ) (dock : ℕ) (broken : Bool) (bike : ℕ) (b : Bike)
    (to : Place) : Type 0 where
  pub found : map.get s.bikes bike ≡ Some b
  pub at : IsDockAt s station dock broken
  pub from_is : IsNoOtherDock station dock b.place
  pub to_is : IsNoOtherDock station dock to
  pub free : IsAway b.place → (docked_at s station dock ≡ None) × (broken ≡ false)

-- ---- the numbers after it

-- a stored number with what is added now, and without what was added
abbrev pub moved_by : ℕ → ℕ → ℕ → ℕ
moved_by number less more = (number + more) - less

-- what a bicycle added to its station's numbers, and what it adds now
pub record Adds : Type 0 where
  pub less : Shares
  pub more : Shares

-- by its record, as it was and as it is put
abbrev pub adds_put : Bool → Bike → BikeState → NewPlace → Adds
adds_put broken b state p =
    record { less = place_shares broken b.state b.place; more = place_shares broken state (place_of p) }

-- by the dock's mark, as it was and as it is
abbrev pub adds_marked : Bool → Bool → BikeState → Adds
adds_marked was broken state = record { less = dock_shares was state; more = dock_shares broken state }

-- A dock that the bicycle takes isn't available.
abbrev pub docks_by : Adds → DockTotals → DockTotals
docks_by a d = record { free = moved_by d.free a.more.occupied a.less.occupied; broken = d.broken }

abbrev pub bikes_by : Adds → TypeCounts → TypeCounts
bikes_by a n =
    record {
      available = moved_by n.available a.less.available a.more.available;
      disabled = moved_by n.disabled a.less.disabled a.more.disabled;
    }

-- By the mark of an empty dock, and of one with a bicycle in it, which wasn't available and isn't.
abbrev pub docks_marked_empty : Bool → Bool → DockTotals → DockTotals
docks_marked_empty was broken d =
    record { free = moved_by d.free (one broken) (one was); broken = moved_by d.broken (one was) (one broken) }

abbrev pub docks_marked_held : Bool → Bool → DockTotals → DockTotals
docks_marked_held was broken d = record { free = d.free; broken = moved_by d.broken (one was) (one broken) }
