-- When what was read of the tables is what they store.
use Rattle.std.specs.Prelude.{◌≡◌, ℕ, List, Option, Some, None, IfSome}
use Rattle.std.specs.FinMap as map
use Rattle.bike_operator.specs.Operator.{Operator, Station, dock_key}
use Rattle.bike_operator.specs.Counts.{available_of, docks_available, docks_broken}
use Rattle.bike_laws.specs.SingleSteps.Numbers.{disabled_of}
use Rattle.bike_book.specs.declared.by_type.TypeCounts.{TypeCounts}
use Rattle.bike_book.specs.declared.by_type.CountedType.{CountedType}
use Rattle.bike_book.specs.ByType.{types_at}
use Rattle.bike_book.specs.Stored.{Listed}
use Rattle.bike_booking.specs.Facts.{DockTotals}
use Rattle.bike_accepted.specs.declared.movement.DockAt.{DockAt}
use Rattle.bike_accepted.specs.declared.movement.DockOccupant.{DockOccupant}
use Rattle.bike_accepted.specs.declared.movement.Movement.{Movement}
use Rattle.bike_accepted.specs.declared.movement.Movement.TheVariants as moved
use Rattle.bike_accepted.specs.declared.accepted.Accepted.{Accepted}
use Rattle.bike_booking.specs.declared.stored.StoredDock.{StoredDock}
use Rattle.bike_booking.specs.declared.stored.StoredCounts.{StoredCounts}
use Rattle.bike_booking.specs.declared.stored.Stored.{Stored}

-- the numbers of its station's docks
abbrev pub docks_in : StoredDock → DockTotals
docks_in d = record { free = d.free; broken = d.broken }

-- and the counts of the type there
abbrev pub counts_in : StoredCounts → TypeCounts
counts_in c = record { available = c.available; disabled = c.disabled }

module _ (s : Operator) (m : Listed) where
  -- what the tables store of the docks of a station
  pub record IsDockStored (station : List ℕ) (d : StoredDock) : Type 0 where
    pub free : (x : Station) → map.get s.stations station ≡ Some x → d.free ≡ docks_available s station x.row.docks
    pub broken : (x : Station) → map.get s.stations station ≡ Some x → d.broken ≡ docks_broken s station x.row.docks

  -- whether the dock has a row
  abbrev pub IsListedAt : DockAt → StoredDock → Type 0
  IsListedAt at d = d.is_listed ≡ map.contains_key m.docks (dock_key at.station.now at.dock)

  -- its bicycles by type
  abbrev pub AreTypesStored : List ℕ → List CountedType → Type 0
  AreTypesStored station by_type = by_type ≡ types_at s station

  -- and the counts of one type there
  pub record AreCountsStored (at : DockAt) (type_id : List ℕ) (c : StoredCounts) : Type 0 where
    pub available : c.available ≡ available_of s at.station.now type_id
    pub disabled : c.disabled ≡ disabled_of s at.station.now type_id

  -- where a bicycle is in the dock
  abbrev pub AreHeldStored : DockAt → Option DockOccupant → List CountedType → StoredCounts → Type 0
  AreHeldStored at None by_type c = Unit {0}
  AreHeldStored at (Some h) by_type c =
      AreTypesStored at.station.now by_type × AreCountsStored at h.type_id.now c

  -- THE TABLE: what is stored of the dock that is touched, and of the bicycles of its station where one of them moves
  abbrev pub IsMovedStored : Stored → Movement → Type 0
  IsMovedStored n (moved.Away bike type_id was becomes) = Unit {0}
  IsMovedStored n (moved.AtDock at bike type_id was becomes) =
      IsDockStored at.station.now n.dock × AreTypesStored at.station.now n.by_type.items
      × AreCountsStored at type_id.now n.counts
  IsMovedStored n (moved.AddDocks station was count) = IsDockStored station.now n.dock
  IsMovedStored n (moved.Marked at held broken) =
      IsDockStored at.station.now n.dock × IsListedAt at n.dock × AreHeldStored at held n.by_type.items n.counts

  -- where an accepted command puts or marks something
  abbrev pub IsStored : Accepted → Stored → Type 0
  IsStored a n = IfSome a.moved (IsMovedStored n)
