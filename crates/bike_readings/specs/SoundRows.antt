-- Which bounds the records of a sound operator keep as rows.
use Rattle.std.specs.Prelude.{◌≡◌, ℕ, ◌+◌, ◌≤◌, List, Some}
use Rattle.std.specs.FinMap as fin
use Rattle.bike_fields.specs.Values.{SegmentRow}
use Rattle.bike_catalogue.specs.Rows.{PlanRow, TypeRow, RegionRow, SystemRow, IsSystem}
use Rattle.bike_fields.specs.declared.name_kind.NameKind.{NameKind}
use Rattle.bike_ledger.specs.Entries.{Entry}
use Rattle.bike_operator.specs.declared.records.Bike.{Bike}
use Rattle.bike_operator.specs.declared.records.Rental.{Rental}
use Rattle.bike_operator.specs.declared.records.Order.{Order}
use Rattle.bike_operator.specs.Operator.{Operator, Station, Truck, Rider, AcceptedRequest, name_key, item_at}
use Rattle.bike_operator.specs.Operator.{item_numbered}
use Rattle.bike_operator.specs.Counts.{docks_broken}
use Rattle.bike_operator.specs.Sound.{HasDock}
use Rattle.bike_book.specs.declared.version.TheConstants.{NEWEST}
use Rattle.bike_book.specs.ByType.{types_at, by_type_text}
use Rattle.bike_readings.specs.Bounds.{IsStoredMeta, IsStoredPlan, IsStoredSegment, IsStoredType, IsStoredRegion}
use Rattle.bike_readings.specs.Bounds.{IsStoredStation, IsStoredDock, IsStoredBike, IsStoredTruck, IsStoredRider}
use Rattle.bike_readings.specs.Bounds.{IsStoredRental, IsStoredOrder, IsStoredEntry, IsStoredRequest, IsStoredName}
use Rattle.bike_readings.specs.Bounds.{IsStoredBooks}

-- Each record keeps the bounds of its row. The segment at position n of its plan, from 0, has the number n + 1. The
-- moment in meta is any that isn't after the operator's.
pub record HasBounds (s : Operator) : Type 0 where
  pub meta : (since : ℕ) → since ≤ s.now → IsStoredMeta NEWEST since
  pub system : (x : SystemRow) → s.system ≡ Some x → IsSystem x
  pub plans : (id : List ℕ) (p : PlanRow) → fin.get s.plans id ≡ Some p → IsStoredPlan id p
  pub segments : (id : List ℕ) (p : PlanRow) → fin.get s.plans id ≡ Some p → (n : ℕ) (g : SegmentRow)
      → item_at n p.segments ≡ Some g → IsStoredSegment id (n + 1) g
  pub types : (id : List ℕ) (t : TypeRow) → fin.get s.types id ≡ Some t → IsStoredType id t
  pub regions : (id : List ℕ) (r : RegionRow) → fin.get s.regions id ≡ Some r → IsStoredRegion id r
  pub stations : (id : List ℕ) (x : Station) → fin.get s.stations id ≡ Some x
      → IsStoredStation id x (docks_broken s id x.row.docks) (by_type_text (types_at s id))
  pub docks : (station : List ℕ) (dock : ℕ) → HasDock s station dock → IsStoredDock station dock
  pub bikes : (number : ℕ) (b : Bike) → fin.get s.bikes number ≡ Some b → IsStoredBike number b
  pub trucks : (number : ℕ) (t : Truck) → fin.get s.trucks number ≡ Some t → IsStoredTruck number t
  pub riders : (number : ℕ) (r : Rider) → fin.get s.riders number ≡ Some r → IsStoredRider number r
  pub rentals : (number : ℕ) (r : Rental) → item_numbered number s.rentals ≡ Some r → IsStoredRental number r
  pub orders : (number : ℕ) (o : Order) → item_numbered number s.orders ≡ Some o → IsStoredOrder number o
  pub entries : (number : ℕ) (e : Entry) → item_numbered number s.entries ≡ Some e → IsStoredEntry e
  pub requests : (number : ℕ) (a : AcceptedRequest) → item_numbered number s.history ≡ Some a
      → IsStoredRequest (number, a)
  pub more_names : (kind : NameKind) (id language name : List ℕ)
      → fin.get s.more_names (name_key kind id language) ≡ Some name
      → IsStoredName id (record { language = language; name = name })
  pub books : IsStoredBooks s.entries.archived s.rentals.archived
