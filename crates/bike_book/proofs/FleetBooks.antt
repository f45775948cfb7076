-- The row changes that book a bicycle, truck or rider added, and a rider blocked or opened.
use Rattle.std.proofs.Common.{◌≡◌, ℕ, ◌+◌, ℤ, pos, ◌+ℤ◌, ◌-ℤ◌, List, Bool, true, false, ◌&&◌, None, refl, sym, ap, ap₂, ◌∙◌, arith}
use Rattle.std.specs.Prelude.{map}
use Rattle.std.specs.Str.{bytes_eq}
use Rattle.std.specs.FinMap as fin
use Rattle.std.proofs.lemmas.Int.{ints}
use Rattle.bike_sql.specs.View.{put_row_by}
use Rattle.bike_ledger.specs.Ledger.{balance_of}
use Rattle.bike_operator.specs.declared.records.BikeState.TheVariants.{Fit}
use Rattle.bike_operator.specs.declared.records.Place.TheVariants as place
use Rattle.bike_operator.specs.declared.records.Bike.{Bike}
use Rattle.bike_operator.specs.Operator.{Operator}
use Rattle.bike_operator.specs.Counts.{count, is_available, is_working_dock, docks_broken}
use Rattle.bike_laws.proofs.SingleSteps.CatalogueLemmas.{same_docks}
use Rattle.bike_laws.proofs.SingleSteps.MapLemmas.{number_order}
use Rattle.bike_laws.proofs.SingleSteps.CountLemmas.{one, weight, count-added}
use Rattle.bike_laws.specs.SingleSteps.Numbers.{is_disabled_of}
use Rattle.bike_operator.specs.Steps.{new_rider}
use Rattle.bike_accepted.specs.declared.change.Change.TheVariants as change
use Rattle.bike_accepted.specs.Effects.{after_change}
use Rattle.bike_book.specs.declared.by_type.CountedType.{CountedType}
use Rattle.bike_book.specs.ByType.{by_type_text}
use Rattle.bike_book.specs.Rows.{station_row, rider_row}
use Rattle.bike_book.specs.Stored.{stored_bike, stored_truck, stored_rider}
use Rattle.bike_book.specs.Between.{counted_station, tables_between}
use Rattle.bike_book.specs.ChangeLaws.{Everywhere, AddBikeLaw, AddTruckLaw, AddRiderLaw, SetRiderLaw}
use Rattle.bike_book.proofs.MapRows.{same_entries, put_entries, changed_entries}
use Rattle.bike_book.proofs.Keys.{numbers, texts}
use Rattle.bike_book.proofs.TypeLaws.{types_same}
use Rattle.bike_book.proofs.ListingLemmas.{listing_same}

-- ---- bicycles

neither : (b : Bool) → (b && false) ≡ false
neither true = refl
neither false = refl

-- a bicycle under a new number counts for nothing where it fails the test
uncounted_added : (s : Operator) (test : Bike → Bool) (bike : ℕ) (b : Bike) → fin.get s.bikes bike ≡ None → test b ≡ false
    → count (λ e. test e.1) (fin.entries (fin.insert s.bikes bike b)) ≡ count (λ e. test e.1) (fin.entries s.bikes)
uncounted_added s test bike b none fails =
    let added = count-added number_order test s.bikes bike b in
    let before : weight test (fin.get s.bikes bike) ≡ 0 = ap (weight test) none in
    let now : one (test b) ≡ 0 = ap one fails in
    omega (arith, added, before, now)

pub add_bike : Everywhere AddBikeLaw
add_bike s m listing bike type_id none =
    let b : Bike = record { type_id = type_id.now; state = Fit; place = place.Depot } in
    let n = after_change (change.AddBike bike type_id) s in
    let occupied_is = λ (station : List ℕ). uncounted_added s (λ x. is_working_dock s station x.place) bike b none refl in
    let available_is = λ (station kind : List ℕ). uncounted_added s (λ x. bytes_eq x.type_id kind && is_available s station x) bike b none (neither (bytes_eq type_id.now kind)) in
    let disabled_is = λ (station kind : List ℕ). uncounted_added s (is_disabled_of s station kind) bike b none (neither (bytes_eq type_id.now kind)) in
    let types_are = λ (station : List ℕ). types_same s n station (λ kind. (available_is station kind, disabled_is station kind)) in
    let bikes = put_entries numbers stored_bike stored_bike (λ e. refl) (λ e. refl) s.bikes bike b tt (λ q y found. (tt, λ apart. refl)) in
    let stations =
    same_entries texts (counted_station s) (counted_station n) s.stations (λ q x found.
    ap₂ (λ (taken : ℕ) (types : List CountedType). station_row q x (pos x.row.docks -ℤ pos (taken + docks_broken s q x.row.docks)) (docks_broken s q x.row.docks) (by_type_text types))
    (sym (occupied_is q)) (sym (types_are q))) in
    record {
      leads = λ i. record (tables_between s m) { bikes = bikes i; stations = stations i };
      listing = listing_same s n m (same_docks s n refl) refl refl refl listing;
    }

-- ---- trucks

pub add_truck : Everywhere AddTruckLaw
add_truck s m listing truck capacity =
    let n = after_change (change.AddTruck truck capacity) s in
    let trucks = put_entries numbers stored_truck stored_truck (λ e. refl) (λ e. refl) s.trucks truck (record { capacity = capacity }) tt (λ q y found. (tt, λ apart. refl)) in
    record { leads = λ i. record (tables_between s m) { trucks = trucks i }; listing = listing_same s n m (same_docks s n refl) refl refl refl listing }

-- ---- riders

pub add_rider : Everywhere AddRiderLaw
add_rider s m listing rider none =
    let n = after_change (change.AddRider rider) s in
    let zero : pos 0 ≡ pos 0 +ℤ balance_of rider s.entries.items = omega (arith, ints, none) in
    let riders =
    ap (λ (b : ℤ). put_row_by 1 (rider_row rider new_rider b) (map (stored_rider s.entries.items) (fin.entries s.riders))) zero
    ∙ put_entries numbers (stored_rider s.entries.items) (stored_rider s.entries.items) (λ e. refl) (λ e. refl) s.riders rider new_rider tt (λ q y found. (tt, λ apart. refl)) in
    record { leads = λ i. record (tables_between s m) { riders = riders i }; listing = listing_same s n m (same_docks s n refl) refl refl refl listing }

pub set_rider : Everywhere SetRiderLaw
set_rider s m listing rider blocked known =
    let n = after_change (change.SetRider rider blocked) s in
    let riders =
    changed_entries numbers (stored_rider s.entries.items) (stored_rider s.entries.items) (λ e. refl) (λ e. refl) s.riders rider tt _ (λ r. record r { is_blocked = blocked }) (λ v found. refl)
    (λ q y found. (tt, λ apart. refl)) in
    record { leads = λ i. record (tables_between s m) { riders = riders i }; listing = listing_same s n m (same_docks s n refl) refl refl refl listing }
