-- The bounds that the records of stored rows keep, each of which the row alone tells.
use Rattle.std.specs.Prelude.{◌≡◌, ℕ, ℤ, pos, ◌≤◌, ◌≤ℤ◌, List, true, false, Option, Some, None}
use Rattle.std.specs.Str.{is_utf8}
use Rattle.bike_fixed.specs.Whole.{last_moment}
use Rattle.bike_fields.specs.declared.numbers.TheConstants.{GREATEST_NUMBER, GREATEST_SERIAL, MOST_CARRIED, MOST_DOCKS}
use Rattle.bike_fields.specs.Bytes.{is_ident}
use Rattle.bike_fields.specs.Values.{SegmentRow, IsSegment}
use Rattle.bike_catalogue.specs.Rows.{PlanRow, TypeRow, RegionRow, MoreNameRow, IsPlan, IsType, IsStation, IsRegion}
use Rattle.bike_catalogue.specs.Rows.{IsMoreName}
use Rattle.bike_ledger.specs.Entries.{Entry, greatest_amount}
use Rattle.bike_ledger.specs.declared.entry.EntryKind.{EntryKind}
use Rattle.bike_ledger.specs.declared.entry.EntryKind.TheVariants.{TopUp, Fare, Refund, Withdrawal, Charge, Credit}
use Rattle.bike_texts.specs.Fields.{IsEnd}
use Rattle.bike_operator.specs.declared.records.Place.{Place}
use Rattle.bike_operator.specs.declared.records.Place.TheVariants as place
use Rattle.bike_operator.specs.declared.records.Bike.{Bike}
use Rattle.bike_operator.specs.declared.records.Rental.{Rental}
use Rattle.bike_operator.specs.declared.records.Closing.{Closing}
use Rattle.bike_operator.specs.declared.records.Order.{Order}
use Rattle.bike_commands.specs.Requests.{IsRequest}
use Rattle.bike_commands.specs.Replies.{IsReply}
use Rattle.bike_operator.specs.Operator.{Station, Truck, Rider, AcceptedRequest}
use Rattle.bike_operator.specs.Sound.{IsPayment, is_refused}
use Rattle.bike_readings.specs.ColumnReaders.{greatest_count}

-- ---- numbers

abbrev pub IsWithin : ℕ → ℕ → ℕ → Type 0
IsWithin lo hi n = (lo ≤ n) × (n ≤ hi)

-- riders, bicycles and trucks; docks; rentals, orders and entries
abbrev pub IsNumbered : ℕ → Type 0
IsNumbered = IsWithin 1 GREATEST_NUMBER

abbrev pub IsDockNumber : ℕ → Type 0
IsDockNumber = IsWithin 1 MOST_DOCKS

abbrev pub IsSerial : ℕ → Type 0
IsSerial = IsWithin 1 GREATEST_SERIAL

abbrev pub IsCount : ℕ → Type 0
IsCount n = n ≤ greatest_count

abbrev pub IsMoment : ℕ → Type 0
IsMoment n = n ≤ last_moment

abbrev pub IsFare : ℤ → Type 0
IsFare z = (pos 0 ≤ℤ z) × (z ≤ℤ greatest_amount)

-- ---- names

-- the region of a station; the rider's own plan; the station at which a rental ended
abbrev pub IsIdentOrNone : Option (List ℕ) → Type 0
IsIdentOrNone None = Unit {0}
IsIdentOrNone (Some id) = is_ident id ≡ true

-- ---- records

pub record IsStoredMeta (version now : ℕ) : Type 0 where
  pub good_version : IsWithin 1 greatest_count version
  pub good_now : IsMoment now

pub record IsStoredPlan (id : List ℕ) (p : PlanRow) : Type 0 where
  pub id_is : id ≡ p.plan_id
  pub good : IsPlan p

pub record IsStoredSegment (plan : List ℕ) (seq : ℕ) (g : SegmentRow) : Type 0 where
  pub good_plan : is_ident plan ≡ true
  pub good_seq : IsWithin 1 8 seq
  pub good : IsSegment g

pub record IsStoredType (id : List ℕ) (t : TypeRow) : Type 0 where
  pub id_is : id ≡ t.type_id
  pub good : IsType t

pub record IsStoredRegion (id : List ℕ) (r : RegionRow) : Type 0 where
  pub id_is : id ≡ r.region_id
  pub good : IsRegion r

pub record IsStoredStation (id : List ℕ) (x : Station) (broken : ℕ) (by_type : List ℕ) : Type 0 where
  pub id_is : id ≡ x.row.station_id
  pub good : IsStation x.row
  pub reported : IsMoment x.reported
  pub good_broken : IsCount broken
  pub region : IsIdentOrNone x.region
  pub good_by_type : is_utf8 by_type ≡ true

pub record IsStoredDock (station : List ℕ) (dock : ℕ) : Type 0 where
  pub good_station : is_ident station ≡ true
  pub good_dock : IsDockNumber dock

abbrev pub IsStoredPlace : Place → Type 0
IsStoredPlace (place.Dock station dock) = IsStoredDock station dock
IsStoredPlace (place.Rental rental) = IsSerial rental
IsStoredPlace (place.Truck truck order) = IsNumbered truck × IsSerial order
IsStoredPlace place.Depot = Unit {0}

pub record IsStoredBike (number : ℕ) (b : Bike) : Type 0 where
  pub good_number : IsNumbered number
  pub type_id : is_ident b.type_id ≡ true
  pub place : IsStoredPlace b.place

pub record IsStoredTruck (number : ℕ) (t : Truck) : Type 0 where
  pub good_number : IsNumbered number
  pub capacity : IsWithin 1 MOST_CARRIED t.capacity

pub record IsStoredRider (number : ℕ) (r : Rider) : Type 0 where
  pub good_number : IsNumbered number
  pub plan : IsIdentOrNone r.plan

pub record IsStoredClosing (c : Closing) : Type 0 where
  pub to_station : IsIdentOrNone c.to_station
  pub finish : IsMoment c.finish
  pub fare : IsFare c.fare

abbrev pub IsOpenOrStored : Option Closing → Type 0
IsOpenOrStored None = Unit {0}
IsOpenOrStored (Some c) = IsStoredClosing c

pub record IsStoredRental (number : ℕ) (r : Rental) : Type 0 where
  pub good_number : IsSerial number
  pub rider : IsNumbered r.rider
  pub bike : IsNumbered r.bike
  pub plan : is_ident r.plan ≡ true
  pub from_station : is_ident r.from_station ≡ true
  pub start : IsMoment r.start
  pub closing : IsOpenOrStored r.closing

pub record IsStoredOrder (number : ℕ) (o : Order) : Type 0 where
  pub good_number : IsSerial number
  pub truck : IsNumbered o.truck
  pub from_end : IsEnd o.from_end
  pub to_end : IsEnd o.to_end
  pub type_id : is_ident o.type_id ≡ true
  pub count : IsWithin 1 MOST_CARRIED o.count
  pub delivered : o.delivered ≤ MOST_CARRIED

-- the rental of an entry of the kind, and its amount
abbrev pub IsStoredRentalOf : EntryKind → ℕ → Type 0
IsStoredRentalOf TopUp rental = rental ≡ 0
IsStoredRentalOf Fare rental = IsSerial rental
IsStoredRentalOf Refund rental = IsSerial rental
IsStoredRentalOf Withdrawal rental = rental ≡ 0
IsStoredRentalOf Charge rental = rental ≡ 0
IsStoredRentalOf Credit rental = rental ≡ 0

abbrev pub IsStoredAmount : EntryKind → ℤ → Type 0
IsStoredAmount TopUp amount = IsPayment amount
IsStoredAmount Fare amount = IsFare amount
IsStoredAmount Refund amount = IsPayment amount
IsStoredAmount Withdrawal amount = IsPayment amount
IsStoredAmount Charge amount = IsPayment amount
IsStoredAmount Credit amount = IsPayment amount

pub record IsStoredEntry (e : Entry) : Type 0 where
  pub number : IsSerial e.number
  pub rider : IsNumbered e.rider
  pub rental : IsStoredRentalOf e.kind e.rental
  pub amount : IsStoredAmount e.kind e.amount
  pub at : IsMoment e.at

-- a request of the program at a moment of the program, and its reply, which isn't a refusal; its number may be any
pub record IsStoredRequest (e : ℕ × AcceptedRequest) : Type 0 where
  pub moment : IsMoment e.1.moment
  pub request : IsRequest e.1.request
  pub reply : IsReply e.1.reply
  pub accepted : is_refused e.1.reply ≡ false

pub record IsStoredName (id : List ℕ) (m : MoreNameRow) : Type 0 where
  pub good_id : is_ident id ≡ true
  pub good : IsMoreName m

-- so many entries and rentals were archived; of requests there may be any number
pub record IsStoredBooks (entries rentals : ℕ) : Type 0 where
  pub good_entries : entries ≤ GREATEST_SERIAL
  pub good_rentals : rentals ≤ GREATEST_SERIAL
