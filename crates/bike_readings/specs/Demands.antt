-- What is demanded of a row: of the record that it spells, in the operator that is read off the tables. `below` is how
-- many rows of the table have a lesser key. Which row is to blame where the operator is not sound:
--
--   a name that stands for no record, a bound of a record       the row that has it
--   a further name where no system is set                       the row of the name
--   a further name in the language of the system                the row of the name
--   more further names of one thing than there may be           the first past the limit
--   a count of records over its limit                           the first row past it
--   a missing dock of a row of docks                            the row of docks
--   two bicycles in one dock                                    the later bicycle
--   a bicycle in a rental or on a truck that isn't its own      the bicycle
--   a bicycle on a truck that isn't there                       the bicycle
--   a truck over its capacity                                   the truck
--   two open rentals of a rider                                 the rider
--   an open rental whose bicycle is elsewhere                   the rental
--   a closed rental with no Fare entry                          the rental
--   two Fare entries of a rental                                the later entry
--   a Fare entry of another amount, or of an open rental        the entry
--   refunds over the fare                                       the rental
--   delivered and bicycles on the truck over the count          the order
--   entries and open rentals over their limit                   the first entry past it
--   a rider's plan that isn't there                             the rider
--   more before than so many archived entries come to           the rider
--   more cash or revenue than so many archived entries come to  meta
--   nothing archived                                            the row of books
--   more rentals than entries and open rentals                  the row of books
--   archived entries and open rentals over their limit          the row of books
--   what riders had and was earned isn't what was paid in       the row of books
--   a request after now, or of a moment before the last         the request
--   two requests of one caller and key                          the later request
--   a number stored beside a record that isn't the figure       the row that has it
--   a text of bicycles by type that isn't the station's         the row that has it
use Rattle.std.specs.Prelude.{◌≡◌, ◌⊎◌, ℕ, ℤ, ◌+◌, ◌+ℤ◌, ◌<◌, ◌≤◌, ◌≤ℤ◌, pos, List, Bool, true, false, filter, length}
use Rattle.std.specs.Prelude.{Option, Some, None, is_some, IfSome, take}
use Rattle.std.specs.Ordering.{is_lt}
use Rattle.std.specs.FinMap as fin
use Rattle.bike_fields.specs.declared.numbers.TheConstants.{GREATEST_NUMBER}
use Rattle.bike_fields.specs.Values.{SegmentRow}
use Rattle.bike_catalogue.specs.Rows.{PlanRow, TypeRow, RegionRow, MoreNameRow}
use Rattle.bike_fields.specs.declared.name_kind.NameKind.{NameKind}
use Rattle.bike_ledger.specs.Entries.{Entry}
use Rattle.bike_ledger.specs.declared.entry.EntryKind.{EntryKind}
use Rattle.bike_ledger.specs.declared.entry.EntryKind.TheVariants.{TopUp, Fare, Refund, Withdrawal, Charge, Credit}
use Rattle.bike_ledger.specs.Ledger.{balance_of, refunded_of}
use Rattle.bike_operator.specs.declared.limits.TheConstants.{MOST_PLANS, MOST_TYPES, MOST_REGIONS, MOST_FURTHER_NAMES}
use Rattle.bike_operator.specs.declared.limits.TheConstants.{MOST_STATIONS, MOST_BIKES, MOST_TRUCKS, MOST_RIDERS}
use Rattle.bike_operator.specs.declared.limits.TheConstants.{MOST_ORDERS, MOST_ENTRIES}
use Rattle.bike_operator.specs.declared.records.Place.{Place}
use Rattle.bike_operator.specs.declared.records.Place.TheVariants as place
use Rattle.bike_operator.specs.declared.records.Bike.{Bike}
use Rattle.bike_operator.specs.declared.records.Rental.{Rental}
use Rattle.bike_operator.specs.declared.records.Closing.{Closing}
use Rattle.bike_operator.specs.declared.records.Order.{Order}
use Rattle.bike_operator.specs.Operator.{Operator, Station, Truck, Rider, AcceptedRequest, text_cmp, item_in}
use Rattle.bike_operator.specs.Operator.{item_numbered, last_number, key_in, kept_under}
use Rattle.bike_operator.specs.Counts.{is_open, is_retired, open_rentals, docks_available, docks_broken}
use Rattle.bike_operator.specs.Names.{has_named, is_own_language, further_names}
use Rattle.bike_operator.specs.Sound.{IsTypeAt, IsStationAt, HasDock, IsTruckAt, IsOrderAt, IsOpenOrClosed}
use Rattle.bike_operator.specs.Sound.{most_refunded, fares_of, IsSumOf, IsArchived, IsRiderAt, IsEntryAt, befores}
use Rattle.bike_book.specs.declared.version.TheConstants.{NEWEST}
use Rattle.bike_book.specs.ByType.{types_at, by_type_text}
use Rattle.bike_book.specs.Tables.{Tables}
use Rattle.bike_readings.specs.ReadOff.{rental_at, order_at}

module _ (s : Operator) where
  -- no bicycle of a lesser number is in this one's dock
  abbrev pub IsAloneInDock : ℕ → Bike → Type 0
  IsAloneInDock number b =
      (other : ℕ) (x : Bike) (station : List ℕ) (dock : ℕ) → other < number → fin.get s.bikes other ≡ Some x
      → x.place ≡ place.Dock station dock → b.place ≡ place.Dock station dock → ⊥

  -- the further names of the same thing in lesser languages
  abbrev pub names_before : NameKind → List ℕ → List ℕ → List MoreNameRow
  names_before kind id language = filter (λ m. is_lt (text_cmp m.language language)) (further_names s kind id)

  -- an open rental of the rider, with its number
  pub record IsRiding (rider number : ℕ) : Type 0 where
    pub row : Rental
    pub found : item_numbered number s.rentals ≡ Some row
    pub not_closed : is_open row ≡ true
    pub rider_is : row.rider ≡ rider

  -- a closed rental has a Fare entry
  abbrev pub HasFare : ℕ → Option Closing → Type 0
  HasFare number None = Unit {0}
  HasFare number (Some c) = 1 ≤ length (fares_of number s.entries.items)

  -- the rental was closed at this fare
  pub record IsFareOf (rental : ℕ) (amount : ℤ) : Type 0 where
    pub row : Rental
    pub closing : Closing
    pub found : item_numbered rental s.rentals ≡ Some row
    pub closed : row.closing ≡ Some closing
    pub fare_is : amount ≡ closing.fare

  -- no entry of a lesser number is a fare of the rental
  abbrev pub IsFirstFare : ℕ → ℕ → Type 0
  IsFirstFare number rental =
      (other : ℕ) (x : Entry) → other < number → item_numbered other s.entries ≡ Some x → x.kind ≡ Fare
      → x.rental ≡ rental → ⊥

  -- a fare is its rental's, and the first of it; of a rental that was archived nothing is asked
  abbrev pub IsOneFare : Entry → EntryKind → Type 0
  IsOneFare e TopUp = Unit {0}
  IsOneFare e Fare = IsArchived e.rental s.rentals ⊎ (IsFareOf e.rental e.amount × IsFirstFare e.number e.rental)
  IsOneFare e Refund = Unit {0}
  IsOneFare e Withdrawal = Unit {0}
  IsOneFare e Charge = Unit {0}
  IsOneFare e Credit = Unit {0}

-- Where a bicycle says that it is, by the rows with those numbers:
-- numbering without gaps is demanded of rentals and orders themselves.
module _ (t : Tables) (s : Operator) where
  -- the open rental of this bicycle
  pub record IsInRental (bike rental : ℕ) : Type 0 where
    pub row : Rental
    pub found : rental_at t rental ≡ Some row
    pub not_closed : is_open row ≡ true
    pub bike_is : row.bike ≡ bike

  -- an open order of this truck, which is there, and of the bicycle's type
  pub record IsForOrder (type_id : List ℕ) (truck order : ℕ) : Type 0 where
    pub row : Order
    pub found : order_at t order ≡ Some row
    pub not_closed : row.is_open ≡ true
    pub truck_is : row.truck ≡ truck
    pub truck_there : fin.contains_key s.trucks truck ≡ true
    pub type_is : row.type_id ≡ type_id

  abbrev pub IsGoodPlace : ℕ → List ℕ → Place → Type 0
  IsGoodPlace bike type_id (place.Dock station dock) = HasDock s station dock
  IsGoodPlace bike type_id (place.Rental rental) = IsInRental bike rental
  IsGoodPlace bike type_id (place.Truck truck order) = IsForOrder type_id truck order
  IsGoodPlace bike type_id place.Depot = Unit {0}

  pub record IsGoodBike (below : ℕ) (e : ℕ × Bike) : Type 0 where
    pub room : below < MOST_BIKES
    pub low : 1 ≤ e.0
    pub high : e.0 ≤ GREATEST_NUMBER
    pub type_is : fin.contains_key s.types e.1.type_id ≡ true
    pub placed : IsGoodPlace e.0 e.1.type_id e.1.place
    pub retired : is_retired e.1.state ≡ true → e.1.place ≡ place.Depot
    pub alone : IsAloneInDock s e.0 e.1

module _ (s : Operator) (below : ℕ) where
  -- ---- the system and the catalogue

  -- version, moment, cash, revenue: the sums are of what was archived
  pub record IsGoodMeta (e : ℕ × ℕ × ℤ × ℤ) : Type 0 where
    pub version_is : e.0 ≡ NEWEST
    pub cash : IsSumOf s.entries.archived e.2
    pub revenue : IsSumOf s.entries.archived e.3

  pub record IsGoodPlan (e : List ℕ × PlanRow) : Type 0 where
    pub room : below < MOST_PLANS

  -- it is the segment of this number of its plan
  pub record IsGoodSegment (e : List ℕ × ℕ × SegmentRow) : Type 0 where
    pub plan : PlanRow
    pub found : fin.get s.plans e.0 ≡ Some plan
    pub segment_is : item_in e.1 plan.segments ≡ Some e.2

  pub record IsGoodType (e : List ℕ × TypeRow) : Type 0 where
    pub room : below < MOST_TYPES
    pub good : IsTypeAt s e.0 e.1

  pub record IsGoodRegion (e : List ℕ × RegionRow) : Type 0 where
    pub room : below < MOST_REGIONS

  pub record IsGoodStation (e : List ℕ × Station × ℤ × ℕ × List ℕ) : Type 0 where
    pub room : below < MOST_STATIONS
    pub good : IsStationAt s e.0 e.1
    pub free_is : e.2 ≡ pos (docks_available s e.0 e.1.row.docks)
    pub broken_is : e.3 ≡ docks_broken s e.0 e.1.row.docks
    pub by_type_is : e.4 ≡ by_type_text (types_at s e.0)

  abbrev pub IsGoodDock : List ℕ × ℕ × Bool → Type 0
  IsGoodDock e = HasDock s e.0 e.1

  -- of something that is there, in a language that isn't the system's
  pub record IsGoodName (e : NameKind × List ℕ × MoreNameRow) : Type 0 where
    pub set : is_some s.system ≡ true
    pub named : has_named s e.0 e.1 ≡ true
    pub further : is_own_language s.system e.2.language ≡ false
    pub room : length (names_before s e.0 e.1 e.2.language) < MOST_FURTHER_NAMES

  -- ---- trucks and riders

  pub record IsGoodTruck (e : ℕ × Truck) : Type 0 where
    pub room : below < MOST_TRUCKS
    pub good : IsTruckAt s e.0 e.1

  pub record IsGoodRider (e : ℕ × Rider × ℤ) : Type 0 where
    pub room : below < MOST_RIDERS
    pub good : IsRiderAt s e.0 e.1
    pub balance_is : e.2 ≡ e.1.before +ℤ balance_of e.0 s.entries.items
    pub riding_once : (a b : ℕ) → IsRiding s e.0 a → IsRiding s e.0 b → a ≡ b

  -- ---- rentals and orders

  pub record IsGoodRental (e : ℕ × Rental × ℤ) : Type 0 where
    pub number_is : e.0 ≡ s.rentals.archived + below + 1
    pub rider_is : fin.contains_key s.riders e.1.rider ≡ true
    pub bike_is : fin.contains_key s.bikes e.1.bike ≡ true
    pub plan_is : fin.contains_key s.plans e.1.plan ≡ true
    pub from_is : fin.contains_key s.stations e.1.from_station ≡ true
    pub by_now : e.1.start ≤ s.now
    pub closing : IsOpenOrClosed s e.0 e.1 e.1.closing
    pub booked : HasFare s e.0 e.1.closing
    pub refunded_is : e.2 ≡ refunded_of e.0 s.entries.items
    pub refunded : refunded_of e.0 s.entries.items ≤ℤ most_refunded e.1.closing

  pub record IsGoodOrder (e : ℕ × Order) : Type 0 where
    pub number_is : e.0 ≡ below + 1
    pub room : below < MOST_ORDERS
    pub good : IsOrderAt s e.0 e.1

  -- ---- entries and accepted requests

  pub record IsGoodEntry (e : Entry) : Type 0 where
    pub number_is : e.number ≡ s.entries.archived + below + 1
    pub room : s.entries.archived + below + open_rentals s < MOST_ENTRIES
    pub good : IsEntryAt s e.number e
    pub fare : IsOneFare s e e.kind

  -- not before the request before it, and the first of its caller and key
  pub record IsGoodRequest (e : ℕ × AcceptedRequest) : Type 0 where
    pub number_is : e.0 ≡ s.history.archived + below + 1
    pub by_now : e.1.moment ≤ s.now
    pub in_order : IfSome (item_in below s.history.items) (λ a. a.moment ≤ e.1.moment)
    pub anew : kept_under (key_in e.1.request) (take below s.history.items) ≡ None

-- ---- what was archived

-- how many requests, entries and rentals: what only all numbers and all riders together tell, and so no other row
pub record IsGoodBooks (s : Operator) (e : ℕ × ℕ × ℕ) : Type 0 where
  pub some_archived : 1 ≤ e.0 + e.1 + e.2
  pub few_rentals : last_number s.rentals ≤ last_number s.entries + open_rentals s
  pub few_entries : last_number s.entries + open_rentals s ≤ MOST_ENTRIES
  pub conserved : befores (fin.entries s.riders) +ℤ s.past.revenue ≡ s.past.cash
