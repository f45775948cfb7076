-- When what an accepted command makes is what was found: the records before are the operator's.
use Rattle.std.specs.Prelude.{◌≡◌, ℕ, ℤ, ◌+◌, ◌+ℤ◌, List, pos, true, false, Option, Some, None, option_map}
use Rattle.std.specs.Prelude.{IfSome}
use Rattle.std.specs.FinMap as map
use Rattle.std.specs.Borrow.{Bor}
use Rattle.bike_ledger.specs.Entries.{Entry}
use Rattle.bike_ledger.specs.Ledger.{credit, given_back, refunded_of}
use Rattle.bike_commands.specs.declared.command.Command.{Command}
use Rattle.bike_operator.specs.declared.records.Place.{Place}
use Rattle.bike_operator.specs.declared.records.Place.TheVariants as place
use Rattle.bike_operator.specs.declared.records.Bike.{Bike}
use Rattle.bike_operator.specs.declared.view.View.{View}
use Rattle.bike_operator.specs.Operator.{Operator, Station, name_key, last_number}
use Rattle.bike_operator.specs.Counts.{is_broken, docked_at, docks_broken}
use Rattle.bike_operator.specs.View.{view_of, rider_balance}
use Rattle.bike_operator.specs.Changes.{place_of}
use Rattle.bike_operator.specs.Sound.{HasDock, IsSound}
use Rattle.bike_laws.specs.SingleSteps.Numbers.{occupied_docks}
use Rattle.bike_laws.specs.SingleSteps.Laws.{IsAway}
use Rattle.bike_accepted.specs.declared.movement.BikeStatus.{BikeStatus}
use Rattle.bike_accepted.specs.declared.movement.DockAt.{DockAt}
use Rattle.bike_accepted.specs.declared.movement.DockOccupant.{DockOccupant}
use Rattle.bike_accepted.specs.declared.movement.Movement.{Movement}
use Rattle.bike_accepted.specs.declared.movement.Movement.TheVariants as moved
use Rattle.bike_accepted.specs.declared.change.Change.{Change}
use Rattle.bike_accepted.specs.declared.change.Change.TheVariants as change
use Rattle.bike_accepted.specs.declared.accepted.BookedEntry.{BookedEntry}
use Rattle.bike_accepted.specs.declared.accepted.Accepted.{Accepted}
use Rattle.bike_accepted.specs.Effects.{bike_in, where_moved}

-- ---- what is put or marked at a dock

-- the dock is there, with this mark
pub record IsDockFound (s : Operator) (at : DockAt) : Type 0 where
  pub has : HasDock s at.station.now at.dock
  pub mark : is_broken s at.station.now at.dock ≡ at.is_broken

-- the place is no dock, or this one
abbrev pub IsNoOtherDock : DockAt → Place → Type 0
IsNoOtherDock at (place.Dock station dock) = (station ≡ at.station.now) × (dock ≡ at.dock)
IsNoOtherDock at (place.Rental rental) = Unit {0}
IsNoOtherDock at (place.Truck truck order) = Unit {0}
IsNoOtherDock at place.Depot = Unit {0}

-- the bicycle's record is this, in no dock, and it comes into none
pub record IsAwayFound (s : Operator) (bike : ℕ) (type_id : Bor (List ℕ)) (was becomes : BikeStatus) : Type 0 where
  pub found : map.get s.bikes bike ≡ Some (bike_in type_id was)
  pub from_away : IsAway (place_of was.place)
  pub to_away : IsAway (place_of becomes.place)

-- The bicycle's record is this, in this dock or in none. Where it was in none, the dock is empty and works.
pub record IsAtDockFound (s : Operator) (at : DockAt) (bike : ℕ) (type_id : Bor (List ℕ))
    (was becomes : BikeStatus) : Type 0 where
  pub found : map.get s.bikes bike ≡ Some (bike_in type_id was)
  pub dock : IsDockFound s at
  pub from_is : IsNoOtherDock at (place_of was.place)
  pub to_is : IsNoOtherDock at (place_of becomes.place)
  pub free : IsAway (place_of was.place) → (docked_at s at.station.now at.dock ≡ None) × (at.is_broken ≡ false)

-- the bicycle in a dock, with its number
abbrev pub held_bike : DockAt → DockOccupant → ℕ × Bike
held_bike at h =
    (h.bike, record { type_id = h.type_id.now; state = h.state; place = place.Dock at.station.now at.dock })

-- this is in the dock
pub record IsMarkFound (s : Operator) (at : DockAt) (held : Option DockOccupant) : Type 0 where
  pub dock : IsDockFound s at
  pub held_is : docked_at s at.station.now at.dock ≡ option_map (held_bike at) held

-- the station is there, and has so many docks
pub record IsStationFound (s : Operator) (station : List ℕ) (docks : ℕ) : Type 0 where
  pub row : Station
  pub found : map.get s.stations station ≡ Some row
  pub docks_are : row.row.docks ≡ docks

abbrev pub IsMovedFound : Operator → Movement → Type 0
IsMovedFound s (moved.Away bike type_id was becomes) = IsAwayFound s bike type_id was becomes
IsMovedFound s (moved.AtDock at bike type_id was becomes) = IsAtDockFound s at bike type_id was becomes
IsMovedFound s (moved.AddDocks station was count) = IsStationFound s station.now was.now
IsMovedFound s (moved.Marked at held broken) = IsMarkFound s at held

-- ---- one other record

-- no station, no bicycle in a working dock of it, and none of its docks broken
pub record IsStationNew (s : Operator) (station : List ℕ) (docks : ℕ) : Type 0 where
  pub absent : map.get s.stations station ≡ None
  pub none_docked : occupied_docks s station ≡ 0
  pub none_broken : docks_broken s station docks ≡ 0

-- THE TABLE: what was found of each record. What is added isn't there, or has the next number; what is set is there.
abbrev pub IsFound : Operator → Change → Type 0
IsFound s (change.AddPlan p) = map.get s.plans p.now.plan_id ≡ None
IsFound s (change.AddStation x reported) = IsStationNew s x.now.station_id x.now.docks
IsFound s (change.SetFurtherName kind id language name) =
    map.contains_key s.more_names (name_key kind id.now language.now) ≡ true
IsFound s (change.AddBike bike type_id) = map.get s.bikes bike ≡ None
IsFound s (change.AddRider rider) = map.get s.riders rider ≡ None
IsFound s (change.SetRider rider blocked) = map.contains_key s.riders rider ≡ true
IsFound s (change.AddRental rental rider bike plan from_station start) = rental ≡ last_number s.rentals + 1
IsFound s (change.AddOrder order truck from_end to_end type_id count) = order ≡ last_number s.orders + 1
IsFound s c = Unit {0}

-- ---- an entry

-- the refunds of its rental after it; none is told where it gives nothing back
abbrev pub IsRefundFound : Operator → Entry → Option ℤ → Type 0
IsRefundFound s e None = given_back e.kind e.amount ≡ pos 0
IsRefundFound s e (Some refunded) = refunded ≡ refunded_of e.rental s.entries.items +ℤ given_back e.kind e.amount

-- it has the next number, and this is its rider's balance after it
pub record IsBookedFound (s : Operator) (b : BookedEntry) : Type 0 where
  pub number_is : b.entry.number ≡ last_number s.entries + 1
  pub balance_is : b.balance ≡ rider_balance s b.entry.rider +ℤ credit b.entry.kind b.entry.amount
  pub refunded_is : IsRefundFound s b.entry b.refunded

-- ---- an acceptance

-- THE CLAUSE: the records before are those of the operator at that point.
pub record AreFound (now : ℕ) (s : Operator) (a : Accepted) : Type 0 where
  pub moved : IfSome a.moved (IsMovedFound s)
  pub change : IfSome a.change (IsFound (where_moved now a.moved s))
  pub entry : IfSome a.entry (IsBookedFound s)

-- so they are for every sound operator whose view this is
abbrev pub FindsAt : ℕ → View → Command → Accepted → Type 0
FindsAt now view c a = (s : Operator) → IsSound s → view ≡ view_of s c → AreFound now s a

-- the same at every moment
abbrev pub FindsOn : View → Command → Accepted → Type 0
FindsOn view c a = (s : Operator) (now : ℕ) → IsSound s → view ≡ view_of s c → AreFound now s a
