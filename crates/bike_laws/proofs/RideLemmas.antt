-- Rentals that begin and end leave rentals sound.
use Rattle.std.proofs.Common.{◌≡◌, ℕ, zero, suc, ◌+◌, ◌-◌, ◌≤◌, pos, List, [], ◌∷◌, Bool, true, false, cond, eqb, Option, Some, None, refl, sym, ap, ◌∙◌, subst, arith, inl}
use Rattle.std.proofs.Common.{inr}
use Rattle.std.specs.Prelude.{is_some, ◌&&◌, ◌||◌}
use Rattle.std.specs.List.{list_any}
use Rattle.std.specs.FinMap as finmap
use Rattle.std.specs.Cmp.{nat_cmp_total}
use Rattle.std.specs.Cmp.Lexicographic.{nat_list_cmp_total}
use Rattle.std.proofs.lemmas.Option.{same_Some}
use Rattle.std.proofs.lemmas.Bool.Decides.{eqb_tells}
use Rattle.std.proofs.lemmas.Int.{ints}
use Rattle.bike_catalogue.specs.Rows.{TypeRow}
use Rattle.bike_ledger.specs.Entries.{Entry}
use Rattle.bike_ledger.specs.declared.entry.EntryKind.{EntryKind}
use Rattle.bike_ledger.specs.declared.entry.EntryKind.TheVariants.{TopUp, Fare, Refund, Withdrawal, Charge, Credit}
use Rattle.bike_ledger.specs.Ledger.{given_back}
use Rattle.bike_operator.specs.declared.records.Place.{Place}
use Rattle.bike_operator.specs.declared.records.Place.TheVariants as place
use Rattle.bike_operator.specs.declared.records.Bike.{Bike}
use Rattle.bike_operator.specs.declared.records.Rental.{Rental}
use Rattle.bike_operator.specs.declared.view.DockedBike.{DockedBike}
use Rattle.bike_operator.specs.Operator.{Operator, Rider, AcceptedRequest, Numbered, item_at, item_in, item_numbered, last_number, with_item}
use Rattle.bike_operator.specs.Counts.{is_dock, open_rentals, is_open, is_riding, docked_at}
use Rattle.bike_operator.specs.View.{typed_bike, docked_view}
use Rattle.bike_operator.specs.Steps.{after_start, plan_for, own_plan}
use Rattle.bike_operator.specs.Sound.{IsOut, is_fare, IsRentalAt, AreRentalsSound, IsOfRental, IsBooking, IsPlanOrNone, IsSound}
use Rattle.bike_laws.proofs.SingleSteps.ItemLemmas.{number_or_last, number_within, number_of_place, last_added}
use Rattle.bike_laws.proofs.SingleSteps.Moment.{at_moment}
use Rattle.bike_laws.proofs.NumberLemmas.{count_added}
use Rattle.bike_laws.proofs.EntryLemmas.{IsApart, no_fares, no_refunds, same_either}
use Rattle.bike_laws.proofs.FoundLemmas.{docked_is}
use Rattle.bike_laws.proofs.NameLemmas.{changed_keeps, changed_found, changed_other}
use Rattle.bike_laws.proofs.RentalLemmas.{KeepsNames, rental_stands, rentals_untouched}

-- ---- a rental begins

-- the bicycle in a dock, with the default plan of its type
pub record IsDockedView (s : Operator) (station : List ℕ) (dock : ℕ) (b : DockedBike) : Type 0 where
  pub row : Bike
  pub found : finmap.get s.bikes b.bike ≡ Some row
  pub in_dock : is_dock station dock row.place ≡ true
  pub type : TypeRow
  pub type_found : finmap.get s.types row.type_id ≡ Some type
  pub plan_is : type.plan_id ≡ b.plan

typed_is : (s : Operator) (station : List ℕ) (dock : ℕ) (x : ℕ × Bike) (o : Option TypeRow) (b : DockedBike) → docked_at s station dock ≡ Some x → finmap.get s.types x.1.type_id ≡ o
    → typed_bike x o ≡ Some b → IsDockedView s station dock b
typed_is s station dock x None b at types is = absurd cc
typed_is s station dock x (Some t) b at types is =
    let d = docked_is s station dock x at in
    subst (IsDockedView s station dock) (same_Some (record { bike = x.0; type_id = x.1.type_id; state = x.1.state; plan = t.plan_id }) b is)
    (record { row = x.1; found = d.found; in_dock = d.in_dock; type = t; type_found = types; plan_is = refl })

pub docked_view_is : (s : Operator) (station : List ℕ) (dock : ℕ) (o : Option (ℕ × Bike)) (b : DockedBike) → docked_at s station dock ≡ o → docked_view s o ≡ Some b → IsDockedView s station dock b
docked_view_is s station dock None b at is = absurd cc
docked_view_is s station dock (Some x) b at is = typed_is s station dock x (finmap.get s.types x.1.type_id) b at refl is

-- no entry is of a rental that isn't there yet
apart_rental : (s : Operator) (e : Entry) → IsOfRental s e → eqb e.rental (last_number s.rentals + 1) ≡ false
apart_rental s e (inl old) =
    let high = old.high in
    elim (eqb_tells e.rental (last_number s.rentals + 1)) [ inl w ↦ absurd (let same = w.1 in omega (arith, same, high)) | inr w ↦ w.0 ]
apart_rental s e (inr o) =
    let within = number_within e.rental s.rentals o.row o.found in
    elim (eqb_tells e.rental (last_number s.rentals + 1)) [ inl w ↦ absurd (let same = w.1 in omega (arith, same, within)) | inr w ↦ w.0 ]

apart_booking : (s : Operator) (e : Entry) (k : EntryKind) → IsBooking s e k
    → ((is_fare k && eqb e.rental (last_number s.rentals + 1)) ≡ false) × (cond (eqb e.rental (last_number s.rentals + 1)) (given_back k e.amount) (pos 0) ≡ pos 0)
apart_booking s e TopUp b = (refl, same_either (eqb e.rental (last_number s.rentals + 1)) (pos 0) refl)
apart_booking s e Fare b = (apart_rental s e b.0, same_either (eqb e.rental (last_number s.rentals + 1)) (pos 0) refl)
apart_booking s e Refund b = (refl, ap (λ (x : Bool). cond x e.amount (pos 0)) (apart_rental s e b.0))
apart_booking s e Withdrawal b = (refl, same_either (eqb e.rental (last_number s.rentals + 1)) (pos 0) refl)
apart_booking s e Charge b = (refl, same_either (eqb e.rental (last_number s.rentals + 1)) (pos 0) refl)
apart_booking s e Credit b = (refl, same_either (eqb e.rental (last_number s.rentals + 1)) (pos 0) refl)

apart_entry : (s : Operator) (n : ℕ) (e : Entry) → IsSound s → item_at n s.entries.items ≡ Some e → IsApart (last_number s.rentals + 1) e
apart_entry s n e order i =
    let parts = apart_booking s e e.kind (order.ledger.entries (s.entries.archived + suc n) e (number_of_place n s.entries e i)).booking in
    record { no_fare = parts.0; no_refund = parts.1 }

-- a rider who isn't riding has no open rental
not_any : (test : Rental → Bool) (n : ℕ) (xs : List Rental) (x : Rental) → list_any test xs ≡ false → item_at n xs ≡ Some x → test x ≡ false
not_any test n [] x none i = absurd cc
not_any test zero (y ∷ ys) x none i = subst (λ (z : Rental). test z ≡ false) (same_Some y x i) (first_none (test y) (list_any test ys) none) where
  first_none : (a b : Bool) → (a || b) ≡ false → a ≡ false
  first_none true b e = absurd cc
  first_none false b e = refl
not_any test (suc n) (y ∷ ys) x none i = not_any test n ys x (rest_none (test y) (list_any test ys) none) i where
  rest_none : (a b : Bool) → (a || b) ≡ false → b ≡ false
  rest_none true b e = absurd cc
  rest_none false b e = e

not_in : (test : Rental → Bool) (n : ℕ) (xs : List Rental) (x : Rental) → list_any test xs ≡ false → item_in n xs ≡ Some x → test x ≡ false
not_in test zero xs x none i = absurd cc
not_in test (suc n) xs x none i = not_any test n xs x none i

none_riding : (s : Operator) (rider n : ℕ) (x : Rental) → is_riding s rider ≡ false → item_numbered n s.rentals ≡ Some x → is_open x ≡ true → x.rider ≡ rider → ⊥
none_riding s rider n x none i ongoing same =
    let test = not_in (λ r. eqb r.rider rider && is_open r) (n - s.rentals.archived) s.rentals.items x none i in
    let equal : eqb x.rider rider ≡ true = elim (eqb_tells x.rider rider) [ inl w ↦ w.0 | inr w ↦ absurd (w.1 same) ] in
    let holds : (eqb x.rider rider && is_open x) ≡ true = ap (λ (b : Bool). b && is_open x) equal ∙ ongoing in
    absurd cc

-- what the tests of a start found
pub record IsStart (s : Operator) (rider : ℕ) (station : List ℕ) : Type 0 where
  pub rider_is : finmap.contains_key s.riders rider ≡ true
  pub idle : is_riding s rider ≡ false
  pub station_is : finmap.contains_key s.stations station ≡ true

pub rentals_started : (s : Operator) (now : ℕ) (history : Numbered AcceptedRequest) (rider : ℕ) (station : List ℕ) (dock : ℕ) (o : Option DockedBike) → IsSound s → s.now ≤ now → IsStart s rider station
    → ((b : DockedBike) → o ≡ Some b → IsDockedView s station dock b) → AreRentalsSound (at_moment (after_start rider station now o s) now history)
rentals_started s now history rider station dock None order later start is = rentals_untouched s now history order later
rentals_started s now history rider station dock (Some b) order later start is =
    let few = order.rentals.few_rentals in
    let more = last_added s.rentals added in
    let ongoing : open_rentals next ≡ open_rentals s + 1 = count_added is_open s.rentals.items added in
    record {
      rentals = λ n x i. elim (number_or_last n s.rentals added x i) [
        | inl w ↦ old n x w
        | inr w ↦ subst (λ (y : Rental). IsRentalAt next n y) (sym w.1) (subst (λ (m : ℕ). IsRentalAt next m added) (sym w.0) (new (is b refl)))
      ];
      riding = λ a c x y i j p q same. one_open a c x y i j p q same;
      few_rentals = omega (arith, few, more, ongoing);
    }
  where
    added : Rental
    added = record { rider = rider; bike = b.bike; plan = plan_for (own_plan (finmap.get s.riders rider)) b.plan; from_station = station; start = now; closing = None }

    next : Operator
    next = at_moment (after_start rider station now (Some b) s) now history

    rides : Bike → Bike
    rides x = record x { place = place.Rental (last_number s.rentals + 1) }

    keeps : KeepsNames s next
    keeps = record {
      riders = λ id h. h;
      bikes = λ id h. changed_keeps nat_cmp_total s.bikes b.bike rides id h;
      plans = λ id h. h;
      stations = λ id h. changed_keeps nat_list_cmp_total s.stations station (λ x. record x { reported = now }) id h;
      later = later;
    }

    in_no_rental : (n : ℕ) → IsDockedView s station dock b → IsOut s n b.bike → ⊥
    in_no_rental n d o =
        let same : d.row ≡ o.row = same_Some d.row o.row (sym d.found ∙ o.found) in
        let at : d.row.place ≡ place.Rental n = ap (λ (x : Bike). x.place) same ∙ o.place_is in
        let none : is_dock station dock d.row.place ≡ false = ap (λ (p : Place). is_dock station dock p) at in
        let some = d.in_dock in
        absurd cc

    out : (n bike : ℕ) → IsOut s n bike → IsOut next n bike
    out n bike o = record {
      row = o.row;
      found = changed_other s.bikes b.bike rides bike (λ same. in_no_rental n (is b refl) (subst (λ (m : ℕ). IsOut s n m) same o)) ∙ o.found;
      place_is = o.place_is;
    }

    -- the rider's own plan is there, and so is that of the type
    plan_there : (o : Option Rider) → finmap.get s.riders rider ≡ o → finmap.contains_key s.plans b.plan ≡ true → finmap.contains_key s.plans (plan_for (own_plan o) b.plan) ≡ true
    plan_there None e default = default
    plan_there (Some r) e default = by r.plan (order.ledger.riders rider r e).plan where
      by : (o : Option (List ℕ)) → IsPlanOrNone s o → finmap.contains_key s.plans (plan_for o b.plan) ≡ true
      by None is = default
      by (Some plan) is = is

    old : (n : ℕ) (x : Rental) → item_numbered n s.rentals ≡ Some x → IsRentalAt next n x
    old n x i = let at = order.rentals.rentals n x i in rental_stands s next n x keeps (out n x.bike) refl at.refunded at

    new : IsDockedView s station dock b → IsRentalAt next (last_number s.rentals + 1) added
    new d =
        let none = no_refunds (last_number s.rentals + 1) s.entries.items (λ n e i. apart_entry s n e order i) in
        record {
          rider_is = start.rider_is;
          bike_is = changed_keeps nat_cmp_total s.bikes b.bike rides b.bike (ap (λ (o : Option Bike). is_some o) d.found);
          plan_is = plan_there (finmap.get s.riders rider) refl
              (ap (λ (id : List ℕ). finmap.contains_key s.plans id) (sym d.plan_is) ∙ (order.catalogue.types d.row.type_id d.type d.type_found).plan);
          from_is = keeps.stations station start.station_is;
          by_now = omega arith;
          closing = record { row = rides d.row; found = changed_found s.bikes b.bike rides d.row d.found; place_is = refl };
          booked = no_fares (last_number s.rentals + 1) s.entries.items (λ n e i. apart_entry s n e order i);
          refunded = omega (arith, ints, none);
        }

    one_open : (a c : ℕ) (x y : Rental) → item_numbered a (with_item added s.rentals) ≡ Some x → item_numbered c (with_item added s.rentals) ≡ Some y → is_open x ≡ true → is_open y ≡ true
        → x.rider ≡ y.rider → a ≡ c
    one_open a c x y i j p q same = elim (number_or_last a s.rentals added x i) [
      | inl v ↦ elim (number_or_last c s.rentals added y j) [
        | inl w ↦ order.rentals.riding a c x y v w p q same
        | inr w ↦ absurd (none_riding s rider a x start.idle v p (same ∙ ap (λ (r : Rental). r.rider) w.1))
      ]
      | inr v ↦ elim (number_or_last c s.rentals added y j) [
        | inl w ↦ absurd (none_riding s rider c y start.idle w q (sym same ∙ ap (λ (r : Rental). r.rider) v.1))
        | inr w ↦ v.0 ∙ sym w.0
      ]
    ]
