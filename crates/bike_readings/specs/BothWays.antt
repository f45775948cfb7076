-- Readings are exact: what is read of a row is that of which the row is made,
-- within its bounds, and each record within its bounds is read of its row.
use Rattle.std.specs.Prelude.{◌≡◌, ℕ, ℤ, List, [], Bool, Option, Some}
use Rattle.sqlite_value.specs.Order.{Row}
use Rattle.bike_fields.specs.Values.{SegmentRow}
use Rattle.bike_catalogue.specs.Rows.{PlanRow, TypeRow, RegionRow, MoreNameRow, IsSystem}
use Rattle.bike_fields.specs.declared.name_kind.NameKind.{NameKind}
use Rattle.bike_ledger.specs.Entries.{Entry}
use Rattle.bike_operator.specs.declared.records.Bike.{Bike}
use Rattle.bike_operator.specs.declared.records.Rental.{Rental}
use Rattle.bike_operator.specs.declared.records.Order.{Order}
use Rattle.bike_operator.specs.Operator.{Station, Truck, Rider, name_key}
use Rattle.bike_book.specs.Stored.{stored_request}
use Rattle.bike_book.specs.Rows.{meta_row, system_row, plan_row, segment_row, type_row, region_row, station_row}
use Rattle.bike_book.specs.Rows.{dock_row, bike_row, truck_row, rider_row, rental_row, order_row, entry_row}
use Rattle.bike_book.specs.Rows.{name_row, books_row}
use Rattle.bike_readings.specs.Readings.{meta_read, system_read, plan_read, segment_read, type_read, region_read}
use Rattle.bike_readings.specs.Readings.{station_read, dock_read, bike_read, truck_read, rider_read, rental_read}
use Rattle.bike_readings.specs.Readings.{order_read, entry_read, request_read, name_read, books_read}
use Rattle.bike_readings.specs.Bounds.{IsStoredMeta, IsStoredPlan, IsStoredSegment, IsStoredType, IsStoredRegion}
use Rattle.bike_readings.specs.Bounds.{IsStoredStation, IsStoredDock, IsStoredBike, IsStoredTruck, IsStoredRider}
use Rattle.bike_readings.specs.Bounds.{IsStoredRental, IsStoredOrder, IsStoredEntry, IsStoredRequest, IsStoredName}
use Rattle.bike_readings.specs.Bounds.{IsStoredBooks}

-- The reader gives exactly the values within their bounds of which rows are made.
pub record IsReading {X : Type 0} (read : Row → Option X) (row_of : X → Row) (Good : X → Type 0) : Type 0 where
  pub sound : (row : Row) (x : X) → read row ≡ Some x → (row ≡ row_of x) × Good x
  pub full : (x : X) → Good x → read (row_of x) ≡ Some x

abbrev pub MetaReading : Type 0
MetaReading = IsReading meta_read (λ (x : ℕ × ℕ × ℤ × ℤ). meta_row x.0 x.1 x.2 x.3) (λ x. IsStoredMeta x.0 x.1)

abbrev pub SystemReading : Type 0
SystemReading = IsReading system_read system_row IsSystem

-- a plan without its segments, which are rows of their own
abbrev pub PlanReading : Type 0
PlanReading =
    IsReading plan_read (λ (x : List ℕ × PlanRow). plan_row x.0 x.1) (λ x. IsStoredPlan x.0 x.1 × (x.1.segments ≡ []))

abbrev pub SegmentReading : Type 0
SegmentReading =
    IsReading segment_read (λ (x : List ℕ × ℕ × SegmentRow). segment_row x.0 x.1 x.2) (λ x. IsStoredSegment x.0 x.1 x.2)

abbrev pub TypeReading : Type 0
TypeReading = IsReading type_read (λ (x : List ℕ × TypeRow). type_row x.0 x.1) (λ x. IsStoredType x.0 x.1)

abbrev pub RegionReading : Type 0
RegionReading = IsReading region_read (λ (x : List ℕ × RegionRow). region_row x.0 x.1) (λ x. IsStoredRegion x.0 x.1)

abbrev pub StationReading : Type 0
StationReading =
    IsReading station_read (λ (x : List ℕ × Station × ℤ × ℕ × List ℕ). station_row x.0 x.1 x.2 x.3 x.4)
    (λ x. IsStoredStation x.0 x.1 x.3 x.4)

abbrev pub DockReading : Type 0
DockReading = IsReading dock_read (λ (x : List ℕ × ℕ × Bool). dock_row x.0 x.1 x.2) (λ x. IsStoredDock x.0 x.1)

abbrev pub BikeReading : Type 0
BikeReading = IsReading bike_read (λ (x : ℕ × Bike). bike_row x.0 x.1) (λ x. IsStoredBike x.0 x.1)

abbrev pub TruckReading : Type 0
TruckReading = IsReading truck_read (λ (x : ℕ × Truck). truck_row x.0 x.1.capacity) (λ x. IsStoredTruck x.0 x.1)

abbrev pub RiderReading : Type 0
RiderReading = IsReading rider_read (λ (x : ℕ × Rider × ℤ). rider_row x.0 x.1 x.2) (λ x. IsStoredRider x.0 x.1)

abbrev pub RentalReading : Type 0
RentalReading = IsReading rental_read (λ (x : ℕ × Rental × ℤ). rental_row x.0 x.1 x.2) (λ x. IsStoredRental x.0 x.1)

abbrev pub OrderReading : Type 0
OrderReading = IsReading order_read (λ (x : ℕ × Order). order_row x.0 x.1) (λ x. IsStoredOrder x.0 x.1)

abbrev pub EntryReading : Type 0
EntryReading = IsReading entry_read (λ (e : Entry). entry_row e.number e) IsStoredEntry

-- an accepted request with its number
abbrev pub RequestReading : Type 0
RequestReading = IsReading request_read stored_request IsStoredRequest

-- a name under what has it and its language
abbrev pub NameReading : Type 0
NameReading =
    IsReading name_read (λ (x : NameKind × List ℕ × MoreNameRow). name_row (name_key x.0 x.1 x.2.language) x.2.name)
    (λ x. IsStoredName x.1 x.2)

abbrev pub BooksReading : Type 0
BooksReading =
    IsReading books_read (λ (x : ℕ × ℕ × ℕ). books_row x.0 x.1 x.2) (λ x. IsStoredBooks x.1 x.2)
