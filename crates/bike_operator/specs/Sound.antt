-- When an operator is sound: every name exists, each bicycle is
-- in one place, numbers have no gaps, and bounds and limits hold.
use Rattle.std.specs.Prelude.{◌≡◌, ◌⊎◌, ℕ, ℤ, neg_ℤ, ◌*ℤ◌, ◌+ℤ◌, ◌+◌, ◌≤◌, ◌≤ℤ◌, ◌==◌, ◌&&◌, List, [], ◌∷◌, length, map, filter, Bool, true}
use Rattle.std.specs.Prelude.{false, Option, Some, None, is_some, pos}
use Rattle.std.specs.FinMap as finmap
use Rattle.std.specs.FinSet as finset
use Rattle.bike_fixed.specs.Whole.{last_moment}
use Rattle.bike_fields.specs.declared.numbers.TheConstants.{GREATEST_NUMBER, GREATEST_PAYMENT, MOST_CARRIED}
use Rattle.bike_fields.specs.Bytes.{is_ident}
use Rattle.bike_fields.specs.declared.name_kind.NameKind.{NameKind}
use Rattle.bike_catalogue.specs.Rows.{PlanRow, TypeRow, RegionRow, SystemRow, IsPlan, IsType, IsStation, IsRegion}
use Rattle.bike_catalogue.specs.Rows.{IsMoreName, IsSystem}
use Rattle.bike_ledger.specs.Entries.{Entry}
use Rattle.bike_ledger.specs.declared.entry.EntryKind.{EntryKind}
use Rattle.bike_ledger.specs.declared.entry.EntryKind.TheVariants.{TopUp, Fare, Refund, Withdrawal, Charge, Credit}
use Rattle.bike_ledger.specs.Ledger.{refunded_of}
use Rattle.bike_ledger.specs.Entries.{greatest_amount}
use Rattle.bike_texts.specs.Fields.{AreSegments}
use Rattle.bike_commands.specs.declared.reply.Reply.{Reply}
use Rattle.bike_commands.specs.declared.reply.Reply.TheVariants.{Done, Balance, Started, Ended, Ordered, Refused}
use Rattle.bike_commands.specs.Replies.{IsReply}
use Rattle.bike_commands.specs.Requests.{IsRequest}
use Rattle.bike_operator.specs.declared.limits.TheConstants.{MOST_PLANS, MOST_TYPES, MOST_REGIONS, MOST_FURTHER_NAMES}
use Rattle.bike_operator.specs.declared.limits.TheConstants.{MOST_STATIONS, MOST_BIKES, MOST_TRUCKS, MOST_RIDERS}
use Rattle.bike_operator.specs.declared.limits.TheConstants.{MOST_ORDERS, MOST_ENTRIES}
use Rattle.bike_operator.specs.declared.records.Place.{Place}
use Rattle.bike_operator.specs.declared.records.Place.TheVariants as place
use Rattle.bike_operator.specs.declared.records.Bike.{Bike}
use Rattle.bike_operator.specs.declared.records.Rental.{Rental}
use Rattle.bike_operator.specs.declared.records.Closing.{Closing}
use Rattle.bike_operator.specs.declared.records.Order.{Order}
use Rattle.bike_operator.specs.Operator.{Operator, Station, Truck, Rider, AcceptedRequest, key_in, NameKey, name_key}
use Rattle.bike_operator.specs.Operator.{DockKey, dock_key, Numbered, item_numbered, last_number}
use Rattle.bike_operator.specs.Counts.{is_open, is_retired, truck_load, order_load, open_rentals}
use Rattle.bike_operator.specs.View.{has_end, has_region}
use Rattle.bike_operator.specs.Names.{has_named, is_own_language, further_names}
use Rattle.bike_operator.specs.Steps.{is_same_end}
use Rattle.bike_operator.specs.Runs.{Call}

-- ---- the catalogue

abbrev pub IsSetSystem : Option SystemRow → Type 0
IsSetSystem None = Unit {0}
IsSetSystem (Some x) = IsSystem x

pub record IsPlanAt (id : List ℕ) (p : PlanRow) : Type 0 where
  pub id_is : id ≡ p.plan_id
  pub good : IsPlan p
  pub segments : AreSegments p.segments

pub record IsTypeAt (s : Operator) (id : List ℕ) (t : TypeRow) : Type 0 where
  pub id_is : id ≡ t.type_id
  pub good : IsType t
  pub plan : finmap.contains_key s.plans t.plan_id ≡ true

pub record IsRegionAt (id : List ℕ) (r : RegionRow) : Type 0 where
  pub id_is : id ≡ r.region_id
  pub good : IsRegion r

-- the region in which it stands is there
pub record IsStationAt (s : Operator) (id : List ℕ) (x : Station) : Type 0 where
  pub id_is : id ≡ x.row.station_id
  pub good : IsStation x.row
  pub by_now : x.reported ≤ s.now
  pub region : has_region s x.region ≡ true

-- the station is there and has the dock
pub record HasDock (s : Operator) (station : List ℕ) (dock : ℕ) : Type 0 where
  pub row : Station
  pub found : finmap.get s.stations station ≡ Some row
  pub low : 1 ≤ dock
  pub high : dock ≤ row.row.docks

pub record IsBrokenDock (s : Operator) (key : DockKey) : Type 0 where
  pub station : List ℕ
  pub dock : ℕ
  pub key_is : key ≡ dock_key station dock
  pub has : HasDock s station dock

pub record IsCatalogueSound (s : Operator) : Type 0 where
  pub system : IsSetSystem s.system
  pub plans : (id : List ℕ) (p : PlanRow) → finmap.get s.plans id ≡ Some p → IsPlanAt id p
  pub types : (id : List ℕ) (t : TypeRow) → finmap.get s.types id ≡ Some t → IsTypeAt s id t
  pub regions : (id : List ℕ) (r : RegionRow) → finmap.get s.regions id ≡ Some r → IsRegionAt id r
  pub stations : (id : List ℕ) (x : Station) → finmap.get s.stations id ≡ Some x → IsStationAt s id x
  pub broken : (key : DockKey) → finset.contains s.broken key ≡ true → IsBrokenDock s key
  pub few_plans : finmap.len s.plans ≤ MOST_PLANS
  pub few_types : finmap.len s.types ≤ MOST_TYPES
  pub few_regions : finmap.len s.regions ≤ MOST_REGIONS
  pub few_stations : finmap.len s.stations ≤ MOST_STATIONS

-- ---- names in further languages

-- a further name of something that is there, in a language that isn't the system's
pub record IsNameAt (s : Operator) (key : NameKey) (name : List ℕ) : Type 0 where
  pub kind : NameKind
  pub id : List ℕ
  pub language : List ℕ
  pub key_is : key ≡ name_key kind id language
  pub good_id : is_ident id ≡ true
  pub good : IsMoreName (record { language = language; name = name })
  pub set : is_some s.system ≡ true
  pub named : has_named s kind id ≡ true
  pub further : is_own_language s.system language ≡ false

pub record AreNamesSound (s : Operator) : Type 0 where
  pub names : (key : NameKey) (name : List ℕ) → finmap.get s.more_names key ≡ Some name → IsNameAt s key name
  pub few : (kind : NameKind) (id : List ℕ) → length (further_names s kind id) ≤ MOST_FURTHER_NAMES

-- ---- bicycles and places

-- the open rental of this bicycle
pub record IsRidden (s : Operator) (bike rental : ℕ) : Type 0 where
  pub row : Rental
  pub found : item_numbered rental s.rentals ≡ Some row
  pub not_closed : is_open row ≡ true
  pub bike_is : row.bike ≡ bike

-- an open order of this truck, and of the bicycle's type
pub record IsCarried (s : Operator) (type_id : List ℕ) (truck order : ℕ) : Type 0 where
  pub row : Order
  pub found : item_numbered order s.orders ≡ Some row
  pub not_closed : row.is_open ≡ true
  pub truck_is : row.truck ≡ truck
  pub type_is : row.type_id ≡ type_id

abbrev pub IsPlace : Operator → ℕ → List ℕ → Place → Type 0
IsPlace s bike type_id (place.Dock station dock) = HasDock s station dock
IsPlace s bike type_id (place.Rental rental) = IsRidden s bike rental
IsPlace s bike type_id (place.Truck truck order) = IsCarried s type_id truck order
IsPlace s bike type_id place.Depot = Unit {0}

pub record IsBikeAt (s : Operator) (number : ℕ) (b : Bike) : Type 0 where
  pub low : 1 ≤ number
  pub high : number ≤ GREATEST_NUMBER
  pub type_is : finmap.contains_key s.types b.type_id ≡ true
  pub placed : IsPlace s number b.type_id b.place
  pub retired : is_retired b.state ≡ true → b.place ≡ place.Depot

-- the place rule: each bicycle is in one place, and where it is in a rental or on a truck, that is its own
pub record AreBikesSound (s : Operator) : Type 0 where
  pub bikes : (number : ℕ) (b : Bike) → finmap.get s.bikes number ≡ Some b → IsBikeAt s number b
  -- no two bicycles in one dock
  pub apart : (a b : ℕ) (x y : Bike) (station : List ℕ) (dock : ℕ) → finmap.get s.bikes a ≡ Some x
      → finmap.get s.bikes b ≡ Some y
      → x.place ≡ place.Dock station dock → y.place ≡ place.Dock station dock → a ≡ b
  pub few : finmap.len s.bikes ≤ MOST_BIKES

-- ---- trucks and orders

pub record IsTruckAt (s : Operator) (number : ℕ) (t : Truck) : Type 0 where
  pub low : 1 ≤ number
  pub high : number ≤ GREATEST_NUMBER
  pub some : 1 ≤ t.capacity
  pub most : t.capacity ≤ MOST_CARRIED
  pub holds : truck_load s number ≤ t.capacity

-- the truck is there, and holds so many bicycles
pub record HasTruck (s : Operator) (truck count : ℕ) : Type 0 where
  pub row : Truck
  pub found : finmap.get s.trucks truck ≡ Some row
  pub enough : count ≤ row.capacity

pub record IsOrderAt (s : Operator) (number : ℕ) (o : Order) : Type 0 where
  pub truck_is : HasTruck s o.truck o.count
  pub some : 1 ≤ o.count
  pub from_is : has_end s o.from_end ≡ true
  pub to_is : has_end s o.to_end ≡ true
  pub ends : is_same_end o.from_end o.to_end ≡ false
  pub type_is : finmap.contains_key s.types o.type_id ≡ true
  pub filled : o.delivered + order_load s number ≤ o.count

pub record AreOrdersSound (s : Operator) : Type 0 where
  pub trucks : (number : ℕ) (t : Truck) → finmap.get s.trucks number ≡ Some t → IsTruckAt s number t
  pub orders : (number : ℕ) (o : Order) → item_numbered number s.orders ≡ Some o → IsOrderAt s number o
  pub few_trucks : finmap.len s.trucks ≤ MOST_TRUCKS
  pub few_orders : last_number s.orders ≤ MOST_ORDERS
  pub all_orders : s.orders.archived ≡ 0

-- ---- rentals

-- the bicycle of an open rental is in it
pub record IsOut (s : Operator) (number bike : ℕ) : Type 0 where
  pub row : Bike
  pub found : finmap.get s.bikes bike ≡ Some row
  pub place_is : row.place ≡ place.Rental number

abbrev pub IsStop : Operator → Option (List ℕ) → Type 0
IsStop s None = Unit {0}
IsStop s (Some station) = finmap.contains_key s.stations station ≡ true

-- how a rental of this start was closed: neither before its start nor after now, at a fare
pub record IsClosing (s : Operator) (start : ℕ) (c : Closing) : Type 0 where
  pub stop : IsStop s c.to_station
  pub after : start ≤ c.finish
  pub by_now : c.finish ≤ s.now
  pub low : pos 0 ≤ℤ c.fare
  pub high : c.fare ≤ℤ greatest_amount

abbrev pub IsOpenOrClosed : Operator → ℕ → Rental → Option Closing → Type 0
IsOpenOrClosed s number r None = IsOut s number r.bike
IsOpenOrClosed s number r (Some c) = IsClosing s r.start c

-- the amounts of the fare entries of a rental
abbrev pub is_fare : EntryKind → Bool
is_fare TopUp = false
is_fare Fare = true
is_fare Refund = false
is_fare Withdrawal = false
is_fare Charge = false
is_fare Credit = false

abbrev pub fares_of : ℕ → List Entry → List ℤ
fares_of rental entries = map (λ e. e.amount) (filter (λ e. is_fare e.kind && (e.rental == rental)) entries)

-- a closed rental has its fare in the entries, and an open one has none
abbrev pub fares_in : Option Closing → List ℤ
fares_in None = []
fares_in (Some c) = c.fare ∷ []

-- the refund rule: what may be refunded of a rental in all
abbrev pub most_refunded : Option Closing → ℤ
most_refunded None = pos 0
most_refunded (Some c) = c.fare

pub record IsRentalAt (s : Operator) (number : ℕ) (r : Rental) : Type 0 where
  pub rider_is : finmap.contains_key s.riders r.rider ≡ true
  pub bike_is : finmap.contains_key s.bikes r.bike ≡ true
  pub plan_is : finmap.contains_key s.plans r.plan ≡ true
  pub from_is : finmap.contains_key s.stations r.from_station ≡ true
  pub by_now : r.start ≤ s.now
  pub closing : IsOpenOrClosed s number r r.closing
  pub booked : fares_of number s.entries.items ≡ fares_in r.closing
  pub refunded : refunded_of number s.entries.items ≤ℤ most_refunded r.closing

pub record AreRentalsSound (s : Operator) : Type 0 where
  pub rentals : (number : ℕ) (r : Rental) → item_numbered number s.rentals ≡ Some r → IsRentalAt s number r
  -- a rider has one open rental at most
  pub riding : (a b : ℕ) (q r : Rental) → item_numbered a s.rentals ≡ Some q → item_numbered b s.rentals ≡ Some r
      → is_open q ≡ true → is_open r ≡ true → q.rider ≡ r.rider → a ≡ b
  -- each rental is open or has an entry
  pub few_rentals : last_number s.rentals ≤ last_number s.entries + open_rentals s

-- ---- riders and entries

-- a sum that so many entries can come to
pub record IsSumOf (entries : ℕ) (sum : ℤ) : Type 0 where
  pub low : neg_ℤ (greatest_amount *ℤ pos entries) ≤ℤ sum
  pub high : sum ≤ℤ (greatest_amount *ℤ pos entries)

-- the plan is there, or there is none
abbrev pub IsPlanOrNone : Operator → Option (List ℕ) → Type 0
IsPlanOrNone s None = Unit {0}
IsPlanOrNone s (Some plan) = finmap.contains_key s.plans plan ≡ true

pub record IsRiderAt (s : Operator) (number : ℕ) (r : Rider) : Type 0 where
  pub low : 1 ≤ number
  pub high : number ≤ GREATEST_NUMBER
  pub plan : IsPlanOrNone s r.plan
  pub before : IsSumOf s.entries.archived r.before

-- what riders had of the archived entries together
abbrev pub befores : List (ℕ × Rider) → ℤ
befores [] = pos 0
befores (e ∷ es) = e.1.before +ℤ befores es

-- the sums of what was archived: what the riders had and what the operator had earned is what had been paid in
pub record IsPast (s : Operator) : Type 0 where
  pub cash : IsSumOf s.entries.archived s.past.cash
  pub revenue : IsSumOf s.entries.archived s.past.revenue
  pub conserved : befores (finmap.entries s.riders) +ℤ s.past.revenue ≡ s.past.cash

-- an amount that may be paid in or out, refunded, charged or credited, in hundredths
pub record IsPayment (amount : ℤ) : Type 0 where
  pub hundredths : ℕ
  pub is : amount ≡ pos hundredths
  pub low : 1 ≤ hundredths
  pub high : hundredths ≤ GREATEST_PAYMENT

-- a number of an item that was archived
pub record IsArchived {A : Type 0} (number : ℕ) (l : Numbered A) : Type 0 where
  pub low : 1 ≤ number
  pub high : number ≤ l.archived

-- the closed rental of an entry, which is its rider's
pub record IsOfClosed (s : Operator) (e : Entry) : Type 0 where
  pub row : Rental
  pub closing : Closing
  pub found : item_numbered e.rental s.rentals ≡ Some row
  pub closed : row.closing ≡ Some closing
  pub rider_is : row.rider ≡ e.rider

-- the rental of an entry; of one that was archived nothing is asked
abbrev pub IsOfRental : Operator → Entry → Type 0
IsOfRental s e = IsArchived e.rental s.rentals ⊎ IsOfClosed s e

-- a fare is its rental's, a refund is of a rental, and an entry of another kind is of none
abbrev pub IsBooking : Operator → Entry → EntryKind → Type 0
IsBooking s e TopUp = (e.rental ≡ 0) × IsPayment e.amount
IsBooking s e Fare = IsOfRental s e × (pos 0 ≤ℤ e.amount) × (e.amount ≤ℤ greatest_amount)
IsBooking s e Refund = IsOfRental s e × IsPayment e.amount
IsBooking s e Withdrawal = (e.rental ≡ 0) × IsPayment e.amount
IsBooking s e Charge = (e.rental ≡ 0) × IsPayment e.amount
IsBooking s e Credit = (e.rental ≡ 0) × IsPayment e.amount

pub record IsEntryAt (s : Operator) (number : ℕ) (e : Entry) : Type 0 where
  pub number_is : e.number ≡ number
  pub rider_is : finmap.contains_key s.riders e.rider ≡ true
  pub booking : IsBooking s e e.kind
  pub by_now : e.at ≤ s.now

pub record IsLedgerSound (s : Operator) : Type 0 where
  pub riders : (number : ℕ) (r : Rider) → finmap.get s.riders number ≡ Some r → IsRiderAt s number r
  pub entries : (number : ℕ) (e : Entry) → item_numbered number s.entries ≡ Some e → IsEntryAt s number e
  pub past : IsPast s
  pub few_riders : finmap.len s.riders ≤ MOST_RIDERS
  pub few_entries : last_number s.entries + open_rentals s ≤ MOST_ENTRIES

-- ---- the history

abbrev pub is_refused : Reply → Bool
is_refused Done = false
is_refused (Balance balance) = false
is_refused (Started rental bike) = false
is_refused (Ended fare balance) = false
is_refused (Ordered order) = false
is_refused (Refused refusal) = true

-- a request of the program, not after now, and its reply, which isn't a refusal
pub record IsAccepted (now : ℕ) (a : AcceptedRequest) : Type 0 where
  pub request : IsRequest a.request
  pub reply : IsReply a.reply
  pub accepted : is_refused a.reply ≡ false
  pub by_now : a.moment ≤ now

pub record IsHistory (now : ℕ) (history : Numbered AcceptedRequest) : Type 0 where
  pub requests : (number : ℕ) (a : AcceptedRequest) → item_numbered number history ≡ Some a → IsAccepted now a
  -- no two are of one caller and key
  pub once : (m n : ℕ) (a b : AcceptedRequest) → item_numbered m history ≡ Some a → item_numbered n history ≡ Some b
      → key_in a.request ≡ key_in b.request → m ≡ n
  -- none is of a later moment than one behind it
  pub in_order : (m n : ℕ) (a b : AcceptedRequest) → item_numbered m history ≡ Some a
      → item_numbered n history ≡ Some b → m ≤ n → a.moment ≤ b.moment

-- The operator is sound.
pub record IsSound (s : Operator) : Type 0 where
  pub catalogue : IsCatalogueSound s
  pub bikes : AreBikesSound s
  pub orders : AreOrdersSound s
  pub rentals : AreRentalsSound s
  pub ledger : IsLedgerSound s
  pub history : IsHistory s.now s.history
  pub names : AreNamesSound s
  pub now : s.now ≤ last_moment

-- a request of the program at a moment of the program: by the unreadable-request rule no other comes
pub record IsCall (c : Call) : Type 0 where
  pub moment : c.0 ≤ last_moment
  pub request : IsRequest c.1

abbrev pub AreCalls : List Call → Type 0
AreCalls [] = Unit {0}
AreCalls (c ∷ cs) = IsCall c × AreCalls cs
