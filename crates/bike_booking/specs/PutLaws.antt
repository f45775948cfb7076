-- The row changes of a bicycle's record put and of a dock marked, where the station of the dock reports with it.
use Rattle.std.specs.Prelude.{◌≡◌, ◌+◌, ℕ, pos, List, [], ◌∷◌, Bool, Some, None}
use Rattle.std.specs.Borrow.{Bor}
use Rattle.std.specs.FinMap as map
use Rattle.bike_operator.specs.declared.records.BikeState.{BikeState}
use Rattle.bike_operator.specs.declared.records.Bike.{Bike}
use Rattle.bike_operator.specs.declared.change.NewPlace.{NewPlace}
use Rattle.bike_catalogue.specs.Rows.{more_docks}
use Rattle.bike_operator.specs.Operator.{Operator, Station}
use Rattle.bike_operator.specs.Counts.{docked_at}
use Rattle.bike_operator.specs.Steps.{key_changed, with_report, dock_marked}
use Rattle.bike_operator.specs.Changes.{place_of}
use Rattle.bike_operator.specs.Sound.{AreBikesSound, IsCatalogueSound}
use Rattle.bike_laws.specs.SingleSteps.Laws.{IsAway}
use Rattle.bike_book.specs.declared.by_type.TypeCounts.{TypeCounts}
use Rattle.bike_book.specs.declared.by_type.CountedType.{CountedType}
use Rattle.bike_book.specs.declared.row_change.RowChange.{RowChange}
use Rattle.bike_book.specs.declared.row_change.RowChange.TheVariants as row
use Rattle.bike_book.specs.Stored.{Listed, IsListing}
use Rattle.bike_book.specs.ByType.{types_at}
use Rattle.bike_book.specs.Between.{docks_left, Books}
use Rattle.bike_booking.specs.Facts.{DockTotals, HasDockTotals, HasBikeTotals}
use Rattle.bike_booking.specs.AddedOrSet.{dock_change, with_dock}
use Rattle.bike_booking.specs.Put.{standing, bike_put, IsDockAt, IsPutAtDock, adds_put, adds_marked, docks_by, bikes_by}
use Rattle.bike_booking.specs.Put.{docks_marked_empty, docks_marked_held}

-- the numbers of a station's docks, with its report
abbrev pub docks_reported : ℕ → Bor (List ℕ) → DockTotals → RowChange
docks_reported now station d = row.SetDocksReported station d.free d.broken now

-- and its bicycles by type, where these were there and one of them has these counts then
abbrev pub bikes_reported : ℕ → Bor (List ℕ) → DockTotals → Bor (List CountedType) → Bor (List ℕ) → TypeCounts
    → RowChange
bikes_reported now station d by_type type_id n = row.SetBikesReported station d.free d.broken by_type type_id n now

module _ (s : Operator) (m : Listed) (now : ℕ) where
  -- from no dock to no dock
  abbrev pub AwayLaw : Type 0
  AwayLaw =
      (bike : ℕ) (b : Bike) (state : BikeState) (p : NewPlace) → map.get s.bikes bike ≡ Some b → IsAway b.place
      → IsAway (place_of p)
      → Books (row.SetBike bike state p ∷ []) s m (bike_put bike (standing b state p) s) m

  -- from a dock, into one, or in one
  abbrev pub AtDockLaw : Type 0
  AtDockLaw =
      (bike : ℕ) (b : Bike) (state : BikeState) (p : NewPlace) (station type_id : Bor (List ℕ)) (dock : ℕ)
      (broken : Bool) (d : DockTotals) (by_type : Bor (List CountedType)) (n : TypeCounts)
      → AreBikesSound s → type_id.now ≡ b.type_id → IsPutAtDock s station.now dock broken bike b (place_of p)
      → HasDockTotals s station.now d → by_type.now ≡ types_at s station.now → HasBikeTotals s station.now b.type_id n
      → Books (row.SetBike bike state p ∷ bikes_reported now station (docks_by (adds_put broken b state p) d) by_type
      type_id (bikes_by (adds_put broken b state p) n) ∷ []) s m
      (with_report station.now now (bike_put bike (standing b state p) s)) m

  -- an empty dock
  abbrev pub MarkedEmptyLaw : Type 0
  MarkedEmptyLaw =
      (station : Bor (List ℕ)) (dock : ℕ) (was broken : Bool) (d : DockTotals)
      → AreBikesSound s → IsDockAt s station.now dock was → docked_at s station.now dock ≡ None
      → HasDockTotals s station.now d
      → Books (dock_change m station dock broken ∷ docks_reported now station (docks_marked_empty was broken d)
      ∷ []) s m
      (with_report station.now now (dock_marked station.now dock broken s)) (with_dock station.now dock m)

  -- a dock with a bicycle in it
  abbrev pub MarkedHeldLaw : Type 0
  MarkedHeldLaw =
      (station type_id : Bor (List ℕ)) (dock : ℕ) (was broken : Bool) (bike : ℕ) (b : Bike) (d : DockTotals)
      (by_type : Bor (List CountedType)) (n : TypeCounts)
      → AreBikesSound s → type_id.now ≡ b.type_id → IsDockAt s station.now dock was
      → docked_at s station.now dock ≡ Some (bike, b)
      → HasDockTotals s station.now d → by_type.now ≡ types_at s station.now → HasBikeTotals s station.now b.type_id n
      → Books (dock_change m station dock broken ∷ bikes_reported now station (docks_marked_held was broken d) by_type
      type_id (bikes_by (adds_marked was broken b.state) n) ∷ []) s m
      (with_report station.now now (dock_marked station.now dock broken s)) (with_dock station.now dock m)

-- The law holds of each operator whose rows are listed right, at each moment.
abbrev pub AtEachMoment : (Operator → Listed → ℕ → Type 0) → Type 0
AtEachMoment Law = (s : Operator) (m : Listed) (now : ℕ) → IsListing s m → Law s m now

-- docks that a station gets, which are empty and work
abbrev pub AddDocksLaw : Operator → Listed → Type 0
AddDocksLaw s m =
    (station : Bor (List ℕ)) (x : Station) (count : ℕ) (d : DockTotals)
    → IsCatalogueSound s → map.get s.stations station.now ≡ Some x → docks_left s station.now x.row.docks ≡ pos d.free
    → Books (row.SetDockCount station (x.row.docks + count) (d.free + count) ∷ []) s m
    (record s { stations = key_changed s.stations station.now (λ y. record y { row = more_docks count y.row }) }) m
