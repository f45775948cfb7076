-- What is read of a found row is what the operator has.
use Rattle.std.proofs.Common.{◌≡◌, ℕ, List, [], ◌∷◌, codes, Bool, true, false, Option, Some, None, option_map, is_some, unwrap_or, slice_get, pos, refl, sym, ap, subst, ◌∙◌}
use Rattle.std.specs.FinMap as fin
use Rattle.sqlite_value.specs.declared.value.Value.TheVariants.{Text}
use Rattle.sqlite_value.specs.Order.{Row}
use Rattle.bike_fields.specs.Bytes.{is_ident}
use Rattle.bike_texts.specs.declared.ends.OrderEnd.{OrderEnd}
use Rattle.bike_texts.specs.declared.ends.OrderEnd.TheVariants as end
use Rattle.bike_texts.specs.Fields.{IsEnd}
use Rattle.bike_operator.specs.declared.records.BikeState.{BikeState}
use Rattle.bike_operator.specs.declared.records.BikeState.TheVariants.{Fit, Disabled, Retired}
use Rattle.bike_operator.specs.declared.records.Place.{Place}
use Rattle.bike_operator.specs.declared.records.Place.TheVariants as place
use Rattle.bike_operator.specs.declared.records.Bike.{Bike}
use Rattle.bike_operator.specs.declared.records.Order.{Order}
use Rattle.bike_operator.specs.declared.view.StationView.{StationView}
use Rattle.bike_operator.specs.declared.view.TruckView.{TruckView}
use Rattle.bike_operator.specs.Operator.{Operator, Station, Truck, item_numbered, dock_key}
use Rattle.bike_operator.specs.Counts.{docked_at, is_broken, docks_available, docks_broken}
use Rattle.bike_operator.specs.Sound.{IsSound}
use Rattle.bike_operator.specs.View.{has_end, station_at, station_view, truck_at, truck_view}
use Rattle.bike_book.specs.Tables.{Stations, Docks, Types, Bikes, Trucks, Orders}
use Rattle.bike_book.specs.Rows.{truth, number_value, state_number, place_columns, end_text, station_row, type_row, bike_row, truck_row, order_row}
use Rattle.bike_book.specs.declared.by_type.CountedType.{CountedType}
use Rattle.bike_book.specs.ByType.{IdentsLaw, by_type_text, types_at}
use Rattle.bike_book.specs.Stored.{Listed, IsListing, stored_bike}
use Rattle.bike_book.specs.Found.{row_under, rows_by}
use Rattle.bike_book.proofs.FoundKeys.{found_by_key, found_listed}
use Rattle.bike_book.proofs.FoundColumns.{found_by_columns}
use Rattle.bike_fleet_reads.specs.declared.stations.DockNumbers.{DockNumbers}
use Rattle.bike_fleet_reads.specs.declared.stations.StationNumbers.{StationNumbers}
use Rattle.bike_fleet_reads.specs.declared.bikes.NumberedBike.{NumberedBike}
use Rattle.bike_fleet_reads.specs.Fleet.{dock_numbers_of, AreNumbersAt, IsMark, numbered_pair, numbers_pair}
use Rattle.bike_fleet_reads.specs.Holds.{HoldsAny, HoldsStation, HoldsNumbers, HoldsMark, HoldsPlan, HoldsTruck, HoldsBike, HoldsPlace, HoldsNumbered, HoldsOrder}

-- What is told of what a row holds is what the record shows of which the row is.
told_found : {Y Z W : Type 0} (row_of : Y → Row) (view : Y → W) (tell : Z → W) (Holds : Row → Z → Type 0) (o : Option Y) (row : Option Row) (x : Option Z)
    → ((y : Y) (z : Z) → o ≡ Some y → Holds (row_of y) z → tell z ≡ view y) → row ≡ option_map row_of o → HoldsAny Holds row x → option_map tell x ≡ option_map view o
told_found {Y} {Z} row_of view tell Holds o row x only is held = by o x refl (subst (λ r. HoldsAny Holds r x) is held)
  where
    by : (p : Option Y) (x : Option Z) → o ≡ p → HoldsAny Holds (option_map row_of p) x → option_map tell x ≡ option_map view p
    by None None found h = refl
    by None (Some z) found h = absurd h
    by (Some y) None found h = absurd h
    by (Some y) (Some z) found h = ap Some (only y z found h)

itself : {X : Type 0} (o : Option X) → option_map (λ x. x) o ≡ o
itself None = refl
itself (Some x) = refl

-- the same of the whole value
held_found : {Y Z : Type 0} (row_of : Y → Row) (view : Y → Z) (Holds : Row → Z → Type 0) (o : Option Y) (row : Option Row) (x : Option Z)
    → ((y : Y) (z : Z) → o ≡ Some y → Holds (row_of y) z → z ≡ view y) → row ≡ option_map row_of o → HoldsAny Holds row x → x ≡ option_map view o
held_found row_of view Holds o row x only is held = sym (itself x) ∙ told_found row_of view (λ z. z) Holds o row x only is held

-- ---- columns that hold one value alone

same_truth : (a b : Bool) → truth a ≡ truth b → a ≡ b
same_truth true true is = refl
same_truth true false is = absurd (cc)
same_truth false true is = absurd (cc)
same_truth false false is = refl

same_state : (a b : BikeState) → state_number a ≡ state_number b → a ≡ b
same_state Fit Fit is = refl
same_state Fit Disabled is = absurd (cc)
same_state Fit Retired is = absurd (cc)
same_state Disabled Fit is = absurd (cc)
same_state Disabled Disabled is = refl
same_state Disabled Retired is = absurd (cc)
same_state Retired Fit is = absurd (cc)
same_state Retired Disabled is = absurd (cc)
same_state Retired Retired is = refl

same_place : (a b : Place) → place_columns a ≡ place_columns b → a ≡ b
same_place (place.Dock station dock) (place.Dock other n) is = cc
same_place (place.Dock station dock) (place.Rental rental) is = absurd (cc)
same_place (place.Dock station dock) (place.Truck truck order) is = absurd (cc)
same_place (place.Dock station dock) place.Depot is = absurd (cc)
same_place (place.Rental rental) (place.Dock station dock) is = absurd (cc)
same_place (place.Rental rental) (place.Rental other) is = cc
same_place (place.Rental rental) (place.Truck truck order) is = absurd (cc)
same_place (place.Rental rental) place.Depot is = absurd (cc)
same_place (place.Truck truck order) (place.Dock station dock) is = absurd (cc)
same_place (place.Truck truck order) (place.Rental rental) is = absurd (cc)
same_place (place.Truck truck order) (place.Truck other o) is = cc
same_place (place.Truck truck order) place.Depot is = absurd (cc)
same_place place.Depot (place.Dock station dock) is = absurd (cc)
same_place place.Depot (place.Rental rental) is = absurd (cc)
same_place place.Depot (place.Truck truck order) is = absurd (cc)
same_place place.Depot place.Depot is = refl

-- no identifier is *
same_end : (a b : OrderEnd) → IsEnd a → IsEnd b → end_text a ≡ end_text b → a ≡ b
same_end end.Depot end.Depot good fine is = refl
same_end end.Depot (end.Station other) good fine is = absurd (let e : is_ident (codes "*") ≡ true = ap is_ident is ∙ fine in cc)
same_end (end.Station station) end.Depot good fine is = absurd (let e : is_ident (codes "*") ≡ true = ap is_ident (sym is) ∙ good in cc)
same_end (end.Station station) (end.Station other) good fine is = ap end.Station is

same_bike : (n : ℕ) (b c : Bike) → HoldsBike (bike_row n b) c → c ≡ b
same_bike n b c held =
    let type_is : c.type_id ≡ b.type_id = let e = held.type_id in cc in
    let state_is : c.state ≡ b.state = same_state _ _ (let e = held.state in cc) in
    let place_is : c.place ≡ b.place = sym (same_place b.place c.place (placed b.place held.place)) in
    λ i. record { type_id = type_is i; state = state_is i; place = place_is i }
  where
    -- the columns of a place begin at the fourth of the row
    placed : (p : Place) → HoldsPlace (bike_row n (record b { place = p })) c.place → place_columns p ≡ place_columns c.place
    placed (place.Dock station dock) is = is
    placed (place.Rental rental) is = is
    placed (place.Truck truck order) is = is
    placed place.Depot is = is

-- ---- records

-- what the view shows of a station and of a truck
abbrev station_shown : Station → StationView
station_shown y = record { docks = y.row.docks; is_installed = y.is_installed; is_renting = y.is_renting; is_returning = y.is_returning }

abbrev truck_shown : Truck → TruckView
truck_shown t = record { capacity = t.capacity }

module _ (s : Operator) (m : Listed) (sound : IsSound s) (listing : IsListing s m) where
  pub station_found : (id : List ℕ) (row : Option Row) (x : Option StationView) → row ≡ row_under s m Stations (Text id ∷ []) → HoldsAny HoldsStation row x → x ≡ station_at s id
  station_found id row x is held =
      held_found _ station_shown HoldsStation (fin.get s.stations id) row x (λ y z found h. same y z h) (is ∙ (found_by_key s m sound listing).stations id) held ∙ viewed (fin.get s.stations id)
    where
      same : (y : Station) (z : StationView) → HoldsStation (station_row id y (pos (docks_available s id y.row.docks)) (docks_broken s id y.row.docks) (by_type_text (types_at s id))) z
          → z ≡ station_shown y
      same y z h =
          let docks : z.docks ≡ y.row.docks = cc in
          let installed : z.is_installed ≡ y.is_installed = same_truth _ _ (cc) in
          let renting : z.is_renting ≡ y.is_renting = same_truth _ _ (cc) in
          let returning : z.is_returning ≡ y.is_returning = same_truth _ _ (cc) in
          λ i. record { docks = docks i; is_installed = installed i; is_renting = renting i; is_returning = returning i }

      viewed : (o : Option Station) → option_map station_shown o ≡ station_view o
      viewed None = refl
      viewed (Some y) = refl

  -- a station's numbers, whose types have identifiers
  pub numbers_found : IdentsLaw → (id : List ℕ) (row : Option Row) (x : Option StationNumbers) → row ≡ row_under s m Stations (Text id ∷ []) → HoldsAny HoldsNumbers row x → AreNumbersAt s id x
  numbers_found idents id row x is held = told_found _ shown numbers_pair HoldsNumbers (fin.get s.stations id) row x (λ y z found h. same y z h) (is ∙ (found_by_key s m sound listing).stations id) held
    where
      shown : Station → DockNumbers × List CountedType
      shown y = (dock_numbers_of s id y, types_at s id)

      same : (y : Station) (z : StationNumbers) → HoldsNumbers (station_row id y (pos (docks_available s id y.row.docks)) (docks_broken s id y.row.docks) (by_type_text (types_at s id))) z
          → numbers_pair z ≡ shown y
      same y z h =
          let docks = h.docks in
          let free : z.docks.free ≡ docks_available s id y.row.docks = cc in
          let broken : z.docks.broken ≡ docks_broken s id y.row.docks = cc in
          let types : z.by_type.items ≡ types_at s id = h.by_type (types_at s id) (idents s id sound) refl in
          λ i. (record { free = free i; broken = broken i }, types i)

  pub mark_found : (station : List ℕ) (dock : ℕ) (row : Option Row) (x : Option Bool) → row ≡ row_under s m Docks (Text station ∷ number_value dock ∷ []) → HoldsAny HoldsMark row x
      → IsMark s m station dock x
  mark_found station dock row x is held =
      let listed = found_listed s m sound listing in
      let read = held_found _ (λ u. is_broken s station dock) HoldsMark (fin.get m.docks (dock_key station dock)) row x (λ y z found h. same_truth z (is_broken s station dock) (cc)) (is ∙ listed.docks station dock) held in
      subst (IsMark s m station dock) (sym read) (by (fin.get m.docks (dock_key station dock)) (listed.works station dock))
    where
      by : (o : Option (Unit {0})) → (o ≡ None → is_broken s station dock ≡ false)
          → (is_some (option_map (λ (u : Unit {0}). is_broken s station dock) o) ≡ is_some o) × (unwrap_or (option_map (λ (u : Unit {0}). is_broken s station dock) o) false ≡ is_broken s station dock)
      by None works = (refl, sym (works refl))
      by (Some u) works = (refl, refl)

  pub plan_found : (id : List ℕ) (row : Option Row) (x : Option (List ℕ)) → row ≡ row_under s m Types (Text id ∷ []) → HoldsAny HoldsPlan row x → x ≡ option_map (λ t. t.plan_id) (fin.get s.types id)
  plan_found id row x is held = held_found (type_row id) (λ t. t.plan_id) HoldsPlan (fin.get s.types id) row x (λ y z found h. cc) (is ∙ (found_by_key s m sound listing).types id) held

  pub truck_found : (truck : ℕ) (row : Option Row) (x : Option TruckView) → row ≡ row_under s m Trucks (number_value truck ∷ []) → HoldsAny HoldsTruck row x → x ≡ truck_at s truck
  truck_found truck row x is held =
      held_found (λ t. truck_row truck t.capacity) truck_shown HoldsTruck (fin.get s.trucks truck) row x
      (λ t z found h. let same : z.capacity ≡ t.capacity = cc in ap (λ n. record { capacity = n }) same) (is ∙ (found_by_key s m sound listing).trucks truck) held
      ∙ viewed (fin.get s.trucks truck)
    where
      viewed : (o : Option Truck) → option_map truck_shown o ≡ truck_view o
      viewed None = refl
      viewed (Some t) = refl

  pub bike_found : (bike : ℕ) (row : Option Row) (x : Option Bike) → row ≡ row_under s m Bikes (number_value bike ∷ []) → HoldsAny HoldsBike row x → x ≡ fin.get s.bikes bike
  bike_found bike row x is held =
      held_found (bike_row bike) (λ b. b) HoldsBike (fin.get s.bikes bike) row x (λ y z found h. same_bike bike y z h) (is ∙ (found_by_key s m sound listing).bikes bike) held
      ∙ itself (fin.get s.bikes bike)

  pub docked_found : (station : List ℕ) (dock : ℕ) (row : Option Row) (x : Option NumberedBike) → row ≡ slice_get (rows_by s m Bikes (3 ∷ 4 ∷ []) (Text station ∷ number_value dock ∷ [])) 0
      → HoldsAny HoldsNumbered row x
      → option_map numbered_pair x ≡ docked_at s station dock
  docked_found station dock row x is held =
      told_found stored_bike (λ e. e) numbered_pair HoldsNumbered (docked_at s station dock) row x (λ y z found h. same y z h) (is ∙ (found_by_columns s m sound listing).docked station dock) held
      ∙ itself (docked_at s station dock)
    where
      same : (y : ℕ × Bike) (z : NumberedBike) → HoldsNumbered (stored_bike y) z → numbered_pair z ≡ y
      same y z h =
          let number : z.number ≡ y.0 = let e = h.number in cc in
          let bike : z.bike ≡ y.1 = same_bike y.0 y.1 z.bike h.bike in
          λ i. (number i, bike i)

  -- a station's identifier, or the depot
  good_end : (e : OrderEnd) → has_end s e ≡ true → IsEnd e
  good_end end.Depot has = tt
  good_end (end.Station station) has = by (fin.get s.stations station) refl has
    where
      by : (o : Option Station) → fin.get s.stations station ≡ o → is_some o ≡ true → is_ident station ≡ true
      by None found has = absurd (cc)
      by (Some x) found has = let at = sound.catalogue.stations station x found in ap is_ident at.id_is ∙ at.good.station_id

  pub order_found : (order : ℕ) (row : Option Row) (x : Option Order) → row ≡ row_under s m Orders (number_value order ∷ []) → HoldsAny HoldsOrder row x → x ≡ item_numbered order s.orders
  order_found order row x is held =
      held_found (order_row order) (λ o. o) HoldsOrder (item_numbered order s.orders) row x same (is ∙ (found_by_key s m sound listing).orders order) held ∙ itself (item_numbered order s.orders)
    where
      same : (y z : Order) → item_numbered order s.orders ≡ Some y → HoldsOrder (order_row order y) z → z ≡ y
      same y z found h =
          let at = sound.orders.orders order y found in
          let truck : z.truck ≡ y.truck = let e = h.truck in cc in
          let from_end : z.from_end ≡ y.from_end = same_end z.from_end y.from_end h.from_end.good (good_end y.from_end at.from_is) (let e = h.from_end.is in cc) in
          let to_end : z.to_end ≡ y.to_end = same_end z.to_end y.to_end h.to_end.good (good_end y.to_end at.to_is) (let e = h.to_end.is in cc) in
          let type_id : z.type_id ≡ y.type_id = let e = h.type_id in cc in
          let count : z.count ≡ y.count = let e = h.count in cc in
          let delivered : z.delivered ≡ y.delivered = let e = h.delivered in cc in
          let is_open : z.is_open ≡ y.is_open = same_truth _ _ (let e = h.is_open in cc) in
          λ i. record { truck = truck i; from_end = from_end i; to_end = to_end i; type_id = type_id i; count = count i; delivered = delivered i; is_open = is_open i }

      itself : (o : Option Order) → option_map (λ o. o) o ≡ o
      itself None = refl
      itself (Some o) = refl
