-- How a station's numbers move: d and n are those before, e and o those after.
use Rattle.std.proofs.Common.{◌≡◌, ℕ, List, Bool, Some, None}
use Rattle.bike_operator.specs.declared.records.Bike.{Bike}
use Rattle.bike_operator.specs.Operator.{Operator}
use Rattle.bike_operator.specs.Counts.{is_broken, docked_at}
use Rattle.bike_operator.specs.Sound.{HasDock}
use Rattle.bike_laws.specs.SingleSteps.Laws.{one, IsMoved, Shares, dock_shares}
use Rattle.bike_book.specs.declared.by_type.TypeCounts.{TypeCounts}
use Rattle.bike_booking.specs.Facts.{DockTotals, HasDockTotals, HasBikeTotals}

-- The bicycle added the one shares and adds the others now. A dock that it takes isn't available.
pub record DocksMove (old new : DockTotals) (less more : Shares) : Type 0 where
  pub free : IsMoved old.free new.free more.occupied less.occupied
  pub broken : new.broken ≡ old.broken

pub record BikesMove (old new : TypeCounts) (less more : Shares) : Type 0 where
  pub available : IsMoved old.available new.available less.available more.available
  pub disabled : IsMoved old.disabled new.disabled less.disabled more.disabled

-- An empty dock of the station is marked as broken, or as working.
pub record IsMarkedEmpty (s : Operator) (station : List ℕ) (dock : ℕ) (broken : Bool) (d e : DockTotals) : Type 0 where
  pub has : HasDock s station dock
  pub empty : docked_at s station dock ≡ None
  pub docks : HasDockTotals s station d
  pub free_moves : IsMoved d.free e.free (one broken) (one (is_broken s station dock))
  pub broken_moves : IsMoved d.broken e.broken (one (is_broken s station dock)) (one broken)

-- A dock of the station with a bicycle in it is marked. It wasn't available, and isn't.
pub record IsMarkedHeld (s : Operator) (station : List ℕ) (dock : ℕ) (broken : Bool) (bike : ℕ) (b : Bike)
    (d e : DockTotals) (n o : TypeCounts) : Type 0 where
  pub has : HasDock s station dock
  pub held : docked_at s station dock ≡ Some (bike, b)
  pub docks : HasDockTotals s station d
  pub bikes : HasBikeTotals s station b.type_id n
  pub free_stays : e.free ≡ d.free
  pub broken_moves : IsMoved d.broken e.broken (one (is_broken s station dock)) (one broken)
  pub bikes_move : BikesMove n o (dock_shares (is_broken s station dock) b.state) (dock_shares broken b.state)
