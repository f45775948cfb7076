-- The records of a sound operator keep the bounds of stored rows.
use Rattle.std.proofs.Common.{◌≡◌, inl, inr, ℕ, zero, suc, ◌+◌, ◌≤◌, List, [], ◌∷◌, length, filter, Bool, true, false, cond, Option, Some, None, is_some, refl, sym, ap, ◌∙◌, subst, arith}
use Rattle.std.specs.FinMap as fin
use Rattle.std.proofs.lemmas.List.{length-append}
use Rattle.bike_fields.specs.Bytes.{is_ident, is_language}
use Rattle.bike_fields.specs.declared.name_kind.NameKind.{NameKind}
use Rattle.bike_fields.specs.Values.{SegmentRow}
use Rattle.bike_catalogue.specs.Rows.{PlanRow, TypeRow, RegionRow, SystemRow, IsSystem}
use Rattle.bike_ledger.specs.Entries.{Entry}
use Rattle.bike_ledger.specs.declared.entry.EntryKind.{EntryKind}
use Rattle.bike_ledger.specs.declared.entry.EntryKind.TheVariants.{TopUp, Fare, Refund, Withdrawal, Charge, Credit}
use Rattle.bike_texts.specs.declared.ends.OrderEnd.{OrderEnd}
use Rattle.bike_texts.specs.declared.ends.OrderEnd.TheVariants as end
use Rattle.bike_texts.specs.Fields.{AreSegments, IsEnd}
use Rattle.bike_operator.specs.declared.records.Place.{Place}
use Rattle.bike_operator.specs.declared.records.Place.TheVariants as place
use Rattle.bike_operator.specs.declared.records.Bike.{Bike}
use Rattle.bike_operator.specs.declared.records.Rental.{Rental}
use Rattle.bike_operator.specs.declared.records.Closing.{Closing}
use Rattle.bike_operator.specs.declared.records.Order.{Order}
use Rattle.bike_operator.specs.Operator.{Operator, Station, Truck, Rider, AcceptedRequest, Numbered, name_key, item_at, item_numbered}
use Rattle.bike_operator.specs.Counts.{count, docks_up_to, docks_broken, is_broken}
use Rattle.bike_operator.specs.View.{has_end, has_region}
use Rattle.bike_operator.specs.Sound.{IsSetSystem, HasDock, IsPlace, IsStop, IsOpenOrClosed, IsPlanOrNone, IsOfRental, IsBooking, IsSound}
use Rattle.bike_laws.proofs.SingleSteps.ItemLemmas.{number_within, number_behind}
use Rattle.bike_book.specs.declared.version.TheConstants.{NEWEST}
use Rattle.bike_book.specs.ByType.{types_at, by_type_text}
use Rattle.bike_book.specs.Rows.{second_text, third_text}
use Rattle.bike_readings.specs.SoundRows.{HasBounds}
use Rattle.bike_readings.specs.Bounds.{IsNumbered, IsSerial, IsMoment, IsIdentOrNone, IsStoredMeta, IsStoredPlan, IsStoredSegment, IsStoredType, IsStoredRegion, IsStoredStation, IsStoredDock}
use Rattle.bike_readings.specs.Bounds.{IsStoredPlace, IsStoredBike, IsStoredTruck, IsStoredRider, IsOpenOrStored, IsStoredRental, IsStoredOrder, IsStoredRentalOf, IsStoredAmount, IsStoredEntry}
use Rattle.bike_readings.specs.Bounds.{IsStoredRequest, IsStoredName, IsStoredBooks}
use Rattle.bike_readings.proofs.StationTexts.{station_utf8}

-- ---- what is there

-- what is there, is something
some_there : {A P : Type 0} (o : Option A) → is_some o ≡ true → ((x : A) → o ≡ Some x → P) → P
some_there None e k = absurd cc
some_there (Some x) e k = k x refl

number_least : {A : Type 0} (n : ℕ) (l : Numbered A) (x : A) → item_numbered n l ≡ Some x → 1 ≤ n
number_least n l x e = let behind = number_behind n l x e in omega (arith, behind)

filtered_within : {A : Type 0} (test : A → Bool) (xs : List A) → count test xs ≤ length xs
filtered_within test [] = omega arith
filtered_within test (x ∷ xs) = by (test x) (filtered_within test xs)
  where
    by : (b : Bool) → length (filter test xs) ≤ length xs → length (cond b (x ∷ filter test xs) (filter test xs)) ≤ length (x ∷ xs)
    by true rest = omega (arith, rest)
    by false rest = omega (arith, rest)

docks_length : (n : ℕ) → length (docks_up_to n) ≡ n
unfolding docks_up_to
docks_length zero = refl
docks_length (suc n) = let rest = docks_length n in let sum = length-append (docks_up_to n) (suc n ∷ []) in omega (arith, rest, sum)

-- ---- a sound operator

module _ (s : Operator) (sound : IsSound s) where
  type_ident : (id : List ℕ) → fin.contains_key s.types id ≡ true → is_ident id ≡ true
  type_ident id there = some_there (fin.get s.types id) there (λ t found. let it = sound.catalogue.types id t found in ap is_ident it.id_is ∙ it.good.type_id)

  plan_ident : (id : List ℕ) → fin.contains_key s.plans id ≡ true → is_ident id ≡ true
  plan_ident id there = some_there (fin.get s.plans id) there (λ p found. let it = sound.catalogue.plans id p found in ap is_ident it.id_is ∙ it.good.plan_id)

  region_ident : (id : List ℕ) → fin.contains_key s.regions id ≡ true → is_ident id ≡ true
  region_ident id there = some_there (fin.get s.regions id) there (λ r found. let it = sound.catalogue.regions id r found in ap is_ident it.id_is ∙ it.good.region_id)

  station_ident : (id : List ℕ) → fin.contains_key s.stations id ≡ true → is_ident id ≡ true
  station_ident id there = some_there (fin.get s.stations id) there (λ x found. let it = sound.catalogue.stations id x found in ap is_ident it.id_is ∙ it.good.station_id)

  rider_number : (n : ℕ) → fin.contains_key s.riders n ≡ true → IsNumbered n
  rider_number n there = some_there (fin.get s.riders n) there (λ r found. let it = sound.ledger.riders n r found in (it.low, it.high))

  bike_number : (n : ℕ) → fin.contains_key s.bikes n ≡ true → IsNumbered n
  bike_number n there = some_there (fin.get s.bikes n) there (λ b found. let it = sound.bikes.bikes n b found in (it.low, it.high))

  rental_number : (n : ℕ) (r : Rental) → item_numbered n s.rentals ≡ Some r → IsSerial n
  rental_number n r found =
      let few = sound.rentals.few_rentals in
      let most = sound.ledger.few_entries in
      let within = number_within n s.rentals r found in
      (number_least n s.rentals r found, omega (arith, few, most, within))

  order_number : (n : ℕ) (o : Order) → item_numbered n s.orders ≡ Some o → IsSerial n
  order_number n o found =
      let most = sound.orders.few_orders in
      let within = number_within n s.orders o found in
      (number_least n s.orders o found, omega (arith, most, within))

  entry_number : (n : ℕ) (e : Entry) → item_numbered n s.entries ≡ Some e → IsSerial n
  entry_number n e found =
      let most = sound.ledger.few_entries in
      let within = number_within n s.entries e found in
      (number_least n s.entries e found, omega (arith, most, within))

  -- of a rental that is there, or that was archived
  of_rental : (e : Entry) → IsOfRental s e → IsSerial e.rental
  of_rental e (inl archived) =
      let few = sound.rentals.few_rentals in
      let most = sound.ledger.few_entries in
      let low = archived.low in
      let high = archived.high in
      (low, omega (arith, few, most, high))
  of_rental e (inr closed) = rental_number e.rental closed.row closed.found

  pub books_stored : IsStoredBooks s.entries.archived s.rentals.archived
  books_stored =
      let few = sound.rentals.few_rentals in
      let most = sound.ledger.few_entries in
      record { good_entries = omega (arith, most); good_rentals = omega (arith, few, most) }

  by_now : (n : ℕ) → n ≤ s.now → IsMoment n
  by_now n up = let now = sound.now in omega (arith, up, now)

  -- a dock that is there
  pub dock_stored : (station : List ℕ) (dock : ℕ) → HasDock s station dock → IsStoredDock station dock
  dock_stored station dock has =
      let it = sound.catalogue.stations station has.row has.found in
      let docks = it.good.few_docks in
      let high = has.high in
      record { good_station = ap is_ident it.id_is ∙ it.good.station_id; good_dock = (has.low, omega (arith, docks, high)) }

  -- ---- the rows of the operator

  pub meta_stored : (since : ℕ) → since ≤ s.now → IsStoredMeta NEWEST since
  meta_stored since low = record { good_version = (omega arith, omega arith); good_now = by_now since low }

  pub system_stored : (x : SystemRow) → s.system ≡ Some x → IsSystem x
  system_stored x is = subst IsSetSystem is sound.catalogue.system

  pub plan_stored : (id : List ℕ) (p : PlanRow) → fin.get s.plans id ≡ Some p → IsStoredPlan id p
  plan_stored id p found = let it = sound.catalogue.plans id p found in record { id_is = it.id_is; good = it.good }

  each_segment : (id : List ℕ) → is_ident id ≡ true → (gs : List SegmentRow) (before : ℕ) → AreSegments gs → before + length gs ≤ 8 → (n : ℕ) (g : SegmentRow) → item_at n gs ≡ Some g
      → IsStoredSegment id (before + n + 1) g
  each_segment id good [] before all few n g found = absurd cc
  each_segment id good (x ∷ gs) before all few zero g found =
      subst (IsStoredSegment id (before + 0 + 1)) (some_is found) (record { good_plan = good; good_seq = (omega arith, omega (arith, few)); good = all.0 })
    where
      some_is : Some x ≡ Some g → x ≡ g
      some_is e = cc
  each_segment id good (x ∷ gs) before all few (suc n) g found =
      let rest = each_segment id good gs (suc before) all.1 (omega (arith, few)) n g found in
      let same : suc before + n + 1 ≡ before + suc n + 1 = omega arith in
      subst (λ seq. IsStoredSegment id seq g) same rest

  -- the segments of a plan, of which the item at position n, from 0, has the number n + 1
  pub segment_stored : (id : List ℕ) (p : PlanRow) → fin.get s.plans id ≡ Some p → (n : ℕ) (g : SegmentRow) → item_at n p.segments ≡ Some g → IsStoredSegment id (n + 1) g
  segment_stored id p found n g at =
      let it = sound.catalogue.plans id p found in
      let few = it.good.segments in
      let same : 0 + n + 1 ≡ n + 1 = omega arith in
      subst (λ seq. IsStoredSegment id seq g) same (each_segment id (ap is_ident it.id_is ∙ it.good.plan_id) p.segments 0 it.segments (omega (arith, few)) n g at)

  pub type_stored : (id : List ℕ) (t : TypeRow) → fin.get s.types id ≡ Some t → IsStoredType id t
  type_stored id t found = let it = sound.catalogue.types id t found in record { id_is = it.id_is; good = it.good }

  pub region_stored : (id : List ℕ) (r : RegionRow) → fin.get s.regions id ≡ Some r → IsStoredRegion id r
  region_stored id r found = let it = sound.catalogue.regions id r found in record { id_is = it.id_is; good = it.good }

  -- the region in which a station stands
  named_region : (name : Option (List ℕ)) → has_region s name ≡ true → IsIdentOrNone name
  named_region None there = tt
  named_region (Some region) there = region_ident region there

  pub station_stored : (id : List ℕ) (x : Station) → fin.get s.stations id ≡ Some x → IsStoredStation id x (docks_broken s id x.row.docks) (by_type_text (types_at s id))
  station_stored id x found =
      let it = sound.catalogue.stations id x found in
      let few = it.good.few_docks in
      let all = docks_length x.row.docks in
      let broken = filtered_within (λ n. is_broken s id n) (docks_up_to x.row.docks) in
      record {
        id_is = it.id_is;
        good = it.good;
        reported = by_now x.reported it.by_now;
        good_broken = omega (arith, few, all, broken);
        region = named_region x.region it.region;
        good_by_type = station_utf8 s sound id;
      }

  carried : (truck order : ℕ) (row : Order) → item_numbered order s.orders ≡ Some row → row.truck ≡ truck → IsNumbered truck × IsSerial order
  carried truck order row found is =
      let has = (sound.orders.orders order row found).truck_is in
      let it = sound.orders.trucks row.truck has.row has.found in
      (subst IsNumbered is (it.low, it.high), order_number order row found)

  place_stored : (bike : ℕ) (type_id : List ℕ) (p : Place) → IsPlace s bike type_id p → IsStoredPlace p
  place_stored bike type_id (place.Dock station dock) placed = dock_stored station dock placed
  place_stored bike type_id (place.Rental rental) placed = rental_number rental placed.row placed.found
  place_stored bike type_id (place.Truck truck order) placed = carried truck order placed.row placed.found placed.truck_is
  place_stored bike type_id place.Depot placed = tt

  pub bike_stored : (number : ℕ) (b : Bike) → fin.get s.bikes number ≡ Some b → IsStoredBike number b
  bike_stored number b found =
      let it = sound.bikes.bikes number b found in
      record { good_number = (it.low, it.high); type_id = type_ident b.type_id it.type_is; place = place_stored number b.type_id b.place it.placed }

  pub truck_stored : (number : ℕ) (t : Truck) → fin.get s.trucks number ≡ Some t → IsStoredTruck number t
  truck_stored number t found = let it = sound.orders.trucks number t found in record { good_number = (it.low, it.high); capacity = (it.some, it.most) }

  own_plan : (plan : Option (List ℕ)) → IsPlanOrNone s plan → IsIdentOrNone plan
  own_plan None there = tt
  own_plan (Some plan) there = plan_ident plan there

  pub rider_stored : (number : ℕ) (r : Rider) → fin.get s.riders number ≡ Some r → IsStoredRider number r
  rider_stored number r found = let it = sound.ledger.riders number r found in record { good_number = (it.low, it.high); plan = own_plan r.plan it.plan }

  stop_stored : (to : Option (List ℕ)) → IsStop s to → IsIdentOrNone to
  stop_stored None stop = tt
  stop_stored (Some station) stop = station_ident station stop

  closing_stored : (number : ℕ) (r : Rental) (o : Option Closing) → IsOpenOrClosed s number r o → IsOpenOrStored o
  closing_stored number r None it = tt
  closing_stored number r (Some c) it = record { to_station = stop_stored c.to_station it.stop; finish = by_now c.finish it.by_now; fare = (it.low, it.high) }

  pub rental_stored : (number : ℕ) (r : Rental) → item_numbered number s.rentals ≡ Some r → IsStoredRental number r
  rental_stored number r found =
      let it = sound.rentals.rentals number r found in
      record {
        good_number = rental_number number r found;
        rider = rider_number r.rider it.rider_is;
        bike = bike_number r.bike it.bike_is;
        plan = plan_ident r.plan it.plan_is;
        from_station = station_ident r.from_station it.from_is;
        start = by_now r.start it.by_now;
        closing = closing_stored number r r.closing it.closing;
      }

  end_stored : (x : OrderEnd) → has_end s x ≡ true → IsEnd x
  end_stored end.Depot there = tt
  end_stored (end.Station station) there = station_ident station there

  pub order_stored : (number : ℕ) (o : Order) → item_numbered number s.orders ≡ Some o → IsStoredOrder number o
  order_stored number o found =
      let it = sound.orders.orders number o found in
      let has = it.truck_is in
      let truck = sound.orders.trucks o.truck has.row has.found in
      let enough = has.enough in
      let most = truck.most in
      let filled = it.filled in
      record {
        good_number = order_number number o found;
        truck = (truck.low, truck.high);
        from_end = end_stored o.from_end it.from_is;
        to_end = end_stored o.to_end it.to_is;
        type_id = type_ident o.type_id it.type_is;
        count = (it.some, omega (arith, enough, most));
        delivered = omega (arith, enough, most, filled);
      }

  booked_rental : (e : Entry) (kind : EntryKind) → IsBooking s e kind → IsStoredRentalOf kind e.rental
  booked_rental e TopUp it = it.0
  booked_rental e Fare it = of_rental e it.0
  booked_rental e Refund it = of_rental e it.0
  booked_rental e Withdrawal it = it.0
  booked_rental e Charge it = it.0
  booked_rental e Credit it = it.0

  booked_amount : (e : Entry) (kind : EntryKind) → IsBooking s e kind → IsStoredAmount kind e.amount
  booked_amount e TopUp it = it.1
  booked_amount e Fare it = (it.1, it.2)
  booked_amount e Refund it = it.1
  booked_amount e Withdrawal it = it.1
  booked_amount e Charge it = it.1
  booked_amount e Credit it = it.1

  pub entry_stored : (number : ℕ) (e : Entry) → item_numbered number s.entries ≡ Some e → IsStoredEntry e
  entry_stored number e found =
      let it = sound.ledger.entries number e found in
      record {
        number = subst IsSerial (sym it.number_is) (entry_number number e found);
        rider = rider_number e.rider it.rider_is;
        rental = booked_rental e e.kind it.booking;
        amount = booked_amount e e.kind it.booking;
        at = by_now e.at it.by_now;
      }

  pub request_stored : (number : ℕ) (a : AcceptedRequest) → item_numbered number s.history ≡ Some a → IsStoredRequest (number, a)
  request_stored number a found =
      let it = sound.history.requests number a found in
      record { moment = by_now a.moment it.by_now; request = it.request; reply = it.reply; accepted = it.accepted }

  pub name_stored : (kind : NameKind) (id language name : List ℕ) → fin.get s.more_names (name_key kind id language) ≡ Some name → IsStoredName id (record { language = language; name = name })
  name_stored kind id language name found =
      let it = sound.names.names (name_key kind id language) name found in
      let same_id : id ≡ it.id = ap second_text it.key_is in
      let same_language : language ≡ it.language = ap third_text it.key_is in
      record { good_id = ap is_ident same_id ∙ it.good_id; good = record { language = ap is_language same_language ∙ it.good.language; name = it.good.name } }

pub has_bounds : (s : Operator) → IsSound s → HasBounds s
has_bounds s sound = record {
  meta = meta_stored s sound;
  system = system_stored s sound;
  plans = plan_stored s sound;
  segments = segment_stored s sound;
  types = type_stored s sound;
  regions = region_stored s sound;
  stations = station_stored s sound;
  docks = dock_stored s sound;
  bikes = bike_stored s sound;
  trucks = truck_stored s sound;
  riders = rider_stored s sound;
  rentals = rental_stored s sound;
  orders = order_stored s sound;
  entries = entry_stored s sound;
  requests = request_stored s sound;
  more_names = name_stored s sound;
  books = books_stored s sound;
}
