-- Rentals that end leave rentals sound.
use Rattle.std.proofs.Common.{◌≡◌, ℕ, ℤ, ◌+◌, ◌≤◌, ◌+ℤ◌, pos, List, [], ◌∷◌, ◌++◌, map, Bool, true, false, cond, eqb, Option, Some, None, refl, sym, ap, ◌∙◌, subst, arith, inl}
use Rattle.std.proofs.Common.{inr}
use Rattle.std.specs.FinMap as finmap
use Rattle.std.specs.Cmp.{nat_cmp_total}
use Rattle.std.specs.Cmp.Lexicographic.{nat_list_cmp_total}
use Rattle.std.proofs.lemmas.Option.{same_Some}
use Rattle.std.proofs.lemmas.Bool.Decides.{eqb_tells}
use Rattle.std.proofs.lemmas.Int.{ints}
use Rattle.bike_ledger.specs.Entries.{Entry}
use Rattle.bike_ledger.specs.declared.entry.EntryKind.TheVariants.{Fare}
use Rattle.bike_ledger.specs.Ledger.{refunded_of}
use Rattle.bike_operator.specs.declared.records.BikeState.TheVariants.{Disabled}
use Rattle.bike_operator.specs.declared.records.Place.TheVariants as place
use Rattle.bike_operator.specs.declared.records.Bike.{Bike}
use Rattle.bike_operator.specs.declared.records.Rental.{Rental}
use Rattle.bike_operator.specs.declared.records.Closing.{Closing}
use Rattle.bike_operator.specs.declared.view.RentalView.{RentalView}
use Rattle.bike_operator.specs.Operator.{Operator, AcceptedRequest, Numbered, item_numbered, last_number}
use Rattle.bike_operator.specs.Counts.{count, open_rentals, is_open}
use Rattle.bike_operator.specs.Steps.{fare_now, with_fare, after_end, after_recovery, key_changed}
use Rattle.bike_operator.specs.Sound.{IsOut, IsStop, IsOpenOrClosed, fares_of, fares_in, most_refunded, IsRentalAt, AreRentalsSound, IsSound}
use Rattle.bike_laws.proofs.SingleSteps.ItemLemmas.{number_apart, last_added, last_changed}
use Rattle.bike_laws.proofs.SingleSteps.Moment.{at_moment}
use Rattle.bike_laws.proofs.NumberLemmas.{number_same, count_changed}
use Rattle.bike_laws.proofs.EntryLemmas.{refunded_added, fares_added, fares_apart, same_either, other_number}
use Rattle.bike_laws.proofs.FoundLemmas.{IsViewOf, IsRentalOf, nothing, closing_now, closed_by}
use Rattle.bike_laws.proofs.NameLemmas.{changed_keeps, changed_other, Either, either}
use Rattle.bike_laws.proofs.NameLemmas.Either.{Same, Other}
use Rattle.bike_laws.proofs.ReplyLemmas.{fare_amount}
use Rattle.bike_laws.proofs.RentalLemmas.{KeepsNames, rental_stands, as_refunded, out_settled, rentals_untouched}

-- ---- a rental ends

-- the bicycle of an open rental is in it
pub out_of : (s : Operator) (number : ℕ) (x : Rental) → IsRentalAt s number x → is_open x ≡ true → IsOut s number x.bike
out_of s number x at ongoing = subst (λ (o : Option Closing). IsOpenOrClosed s number x o) (nothing x.closing ongoing) at.closing

-- and in no other
pub in_one_rental : (s : Operator) (n m bike other : ℕ) → IsOut s n bike → IsOut s m other → bike ≡ other → n ≡ m
in_one_rental s n m bike other o p same =
    let row : o.row ≡ p.row = same_Some o.row p.row (sym o.found ∙ ap (finmap.get s.bikes) same ∙ p.found) in
    let at : place.Rental n ≡ place.Rental m = sym o.place_is ∙ ap (λ (x : Bike). x.place) row ∙ p.place_is in
    cc

-- What is left where a rental is closed and its fare booked: names, and the bicycles of other rentals.
pub record IsClosedIn (s x : Operator) (r : RentalView) (to_station : Option (List ℕ)) (now : ℕ) : Type 0 where
  pub rentals : x.rentals ≡ (with_fare r to_station now s).rentals
  pub entries : x.entries ≡ (with_fare r to_station now s).entries
  pub riders : (id : ℕ) → finmap.contains_key s.riders id ≡ true → finmap.contains_key x.riders id ≡ true
  pub bikes : (id : ℕ) → finmap.contains_key s.bikes id ≡ true → finmap.contains_key x.bikes id ≡ true
  pub plans : (id : List ℕ) → finmap.contains_key s.plans id ≡ true → finmap.contains_key x.plans id ≡ true
  pub stations : (id : List ℕ) → finmap.contains_key s.stations id ≡ true → finmap.contains_key x.stations id ≡ true
  pub stop : IsStop x to_station
  pub out : (n bike : ℕ) → (n ≡ r.number → ⊥) → IsOut s n bike → IsOut x n bike

rentals_charged : (s x : Operator) (now : ℕ) (history : Numbered AcceptedRequest) (r : RentalView) (to_station : Option (List ℕ)) → IsSound s → s.now ≤ now → IsViewOf s r → is_open r.rental ≡ true
    → IsClosedIn s x r to_station now → AreRentalsSound (at_moment x now history)
rentals_charged s x now history r to_station order later v ongoing is =
    let few = order.rentals.few_rentals in
    let count_rentals : last_number x.rentals ≡ last_number s.rentals = ap (λ (rs : Numbered Rental). last_number rs) is.rentals ∙ last_changed r.number (closed_by c) s.rentals in
    let count_entries : last_number x.entries ≡ last_number s.entries + 1 = ap (λ (es : Numbered Entry). last_number es) is.entries ∙ last_added s.entries e in
    let fewer : open_rentals next + 1 ≡ open_rentals s =
    ap (λ (rs : Numbered Rental). count is_open rs.items + 1) is.rentals ∙ count_changed is_open r.number (closed_by c) s.rentals r.rental v.found ongoing refl in
    record {
      rentals = λ n y i. each n y i (either n r.number);
      riding = λ a b y z i j p q same. order.rentals.riding a b y z (still a y i p (either a r.number)) (still b z j q (either b r.number)) p q same;
      few_rentals = omega (arith, few, count_rentals, count_entries, fewer);
    }
  where
    c : Closing
    c = closing_now r to_station now

    e : Entry
    e = record { number = last_number s.entries + 1; kind = Fare; rider = r.rental.rider; rental = r.number; amount = fare_now r now; at = now }

    next : Operator
    next = at_moment x now history

    keeps : KeepsNames s next
    keeps = record { riders = is.riders; bikes = is.bikes; plans = is.plans; stations = is.stations; later = later }

    before : (n : ℕ) (y : Rental) → item_numbered n x.rentals ≡ Some y → (n ≡ r.number → ⊥) → item_numbered n s.rentals ≡ Some y
    before n y i apart = sym (ap (λ (rs : Numbered Rental). item_numbered n rs) is.rentals ∙ number_apart r.number (closed_by c) s.rentals n apart) ∙ i

    closed_row : (n : ℕ) (y : Rental) → item_numbered n x.rentals ≡ Some y → n ≡ r.number → closed_by c r.rental ≡ y
    closed_row n y i same =
        same_Some (closed_by c r.rental) y
        (sym (number_same r.number (closed_by c) s.rentals r.rental v.found) ∙ sym (ap (λ (rs : Numbered Rental). item_numbered r.number rs) is.rentals)
        ∙ ap (λ (m : ℕ). item_numbered m x.rentals) (sym same) ∙ i)

    still : (n : ℕ) (y : Rental) → item_numbered n x.rentals ≡ Some y → is_open y ≡ true → Either n r.number → item_numbered n s.rentals ≡ Some y
    still n y i p (Same same) = let shut : false ≡ is_open y = ap (λ (z : Rental). is_open z) (closed_row n y i same) in absurd cc
    still n y i p (Other apart) = before n y i apart

    no_refund : (n : ℕ) → refunded_of n x.entries.items ≡ refunded_of n s.entries.items
    no_refund n =
        let all : refunded_of n x.entries.items ≡ refunded_of n s.entries.items +ℤ cond (eqb r.number n) (pos 0) (pos 0) = ap (λ (es : Numbered Entry). refunded_of n es.items) is.entries ∙ refunded_added n s.entries.items e in
        let none : cond (eqb r.number n) (pos 0) (pos 0) ≡ pos 0 = same_either (eqb r.number n) (pos 0) refl in
        omega (arith, ints, all, none)

    fares_of_it : IsRentalAt s r.number r.rental → fares_of r.number x.entries.items ≡ fare_now r now ∷ []
    fares_of_it at =
        ap (λ (es : Numbered Entry). fares_of r.number es.items) is.entries
        ∙ fares_added r.number s.entries.items e
        ∙ ap (λ (zs : List ℤ). zs ++ map (λ (y : Entry). y.amount) (cond (eqb r.number r.number) (e ∷ []) [])) (at.booked ∙ ap fares_in (nothing r.rental.closing ongoing))
        ∙ ap (λ (b : Bool). map (λ (y : Entry). y.amount) (cond b (e ∷ []) [])) (elim (eqb_tells r.number r.number) [ inl w ↦ w.0 | inr w ↦ absurd (w.1 refl) ])

    stop_in : (o : Option (List ℕ)) → IsStop x o → IsStop next o
    stop_in None h = tt
    stop_in (Some station) h = h

    closed : IsRentalAt next r.number (closed_by c r.rental)
    closed =
        let at = order.rentals.rentals r.number r.rental v.found in
        let began = at.by_now in
        let amount = fare_amount s now r order v in
        let low = amount.low in
        let high = at.refunded in
        let none : most_refunded r.rental.closing ≡ pos 0 = ap most_refunded (nothing r.rental.closing ongoing) in
        let same = no_refund r.number in
        record {
          rider_is = is.riders r.rental.rider at.rider_is;
          bike_is = is.bikes r.rental.bike at.bike_is;
          plan_is = is.plans r.rental.plan at.plan_is;
          from_is = is.stations r.rental.from_station at.from_is;
          by_now = omega (arith, began, later);
          closing = record { stop = stop_in to_station is.stop; after = omega (arith, began, later); by_now = omega arith; low = amount.low; high = amount.high };
          booked = fares_of_it at;
          refunded = omega (arith, ints, same, high, none, low);
        }

    each : (n : ℕ) (y : Rental) → item_numbered n x.rentals ≡ Some y → Either n r.number → IsRentalAt next n y
    each n y i (Same same) = subst (λ (z : Rental). IsRentalAt next n z) (closed_row n y i same) (subst (λ (m : ℕ). IsRentalAt next m (closed_by c r.rental)) (sym same) closed)
    each n y i (Other apart) =
        let at = order.rentals.rentals n y (before n y i apart) in
        rental_stands s next n y keeps (λ o. out_settled s x now history n y.bike (is.out n y.bike apart o))
        (ap (λ (es : Numbered Entry). fares_of n es.items) is.entries ∙ fares_apart n s.entries.items e (other_number r.number n apart))
        (as_refunded n s.entries.items x.entries.items (most_refunded y.closing) (no_refund n) at.refunded) at

-- ---- in a dock, or recovered

pub rentals_ended : (s : Operator) (now : ℕ) (history : Numbered AcceptedRequest) (bike : ℕ) (station : List ℕ) (dock : ℕ) (o : Option RentalView) → IsSound s → s.now ≤ now
    → finmap.contains_key s.stations station ≡ true
    → ((r : RentalView) → o ≡ Some r → IsRentalOf s bike r) → AreRentalsSound (at_moment (after_end bike station dock now o s) now history)
rentals_ended s now history bike station dock None order later there is = rentals_untouched s now history order later
rentals_ended s now history bike station dock (Some r) order later there is = go (is r refl) where
  docks : Bike → Bike
  docks x = record x { place = place.Dock station dock }

  go : IsRentalOf s bike r → AreRentalsSound (at_moment (after_end bike station dock now (Some r) s) now history)
  go at = rentals_charged s (after_end bike station dock now (Some r) s) now history r (Some station) order later at.view at.not_closed (record {
    rentals = refl;
    entries = refl;
    riders = λ id h. h;
    bikes = λ id h. changed_keeps nat_cmp_total s.bikes bike docks id h;
    plans = λ id h. h;
    stations = λ id h. changed_keeps nat_list_cmp_total s.stations station (λ x. record x { reported = now }) id h;
    stop = changed_keeps nat_list_cmp_total s.stations station (λ x. record x { reported = now }) station there;
    out = λ n other apart o. record {
      row = o.row;
      found = changed_other s.bikes bike docks other
          (λ same. apart (in_one_rental s n r.number other r.rental.bike o (out_of s r.number r.rental (order.rentals.rentals r.number r.rental at.view.found) at.not_closed) (same ∙ sym at.bike_is)))
          ∙ o.found;
      place_is = o.place_is;
    };
  })

pub rentals_recovered : (s : Operator) (now : ℕ) (history : Numbered AcceptedRequest) (o : Option RentalView) → IsSound s → s.now ≤ now
    → ((r : RentalView) → o ≡ Some r → IsViewOf s r × (is_open r.rental ≡ true)) → AreRentalsSound (at_moment (after_recovery now o s) now history)
rentals_recovered s now history None order later is = rentals_untouched s now history order later
rentals_recovered s now history (Some r) order later is = go (is r refl).0 (is r refl).1 where
  parks : Bike → Bike
  parks x = record x { place = place.Depot }

  marks : Bike → Bike
  marks x = record x { state = Disabled }

  go : IsViewOf s r → is_open r.rental ≡ true → AreRentalsSound (at_moment (after_recovery now (Some r) s) now history)
  go v ongoing = rentals_charged s (after_recovery now (Some r) s) now history r None order later v ongoing (record {
    rentals = refl;
    entries = refl;
    riders = λ id h. h;
    bikes = λ id h. changed_keeps nat_cmp_total (key_changed s.bikes r.rental.bike parks) r.rental.bike marks id (changed_keeps nat_cmp_total s.bikes r.rental.bike parks id h);
    plans = λ id h. h;
    stations = λ id h. h;
    stop = tt;
    out = λ n other apart o.
        let away : other ≡ r.rental.bike → ⊥ = λ same. apart (in_one_rental s n r.number other r.rental.bike o (out_of s r.number r.rental (order.rentals.rentals r.number r.rental v.found) ongoing) same) in
        record {
          row = o.row;
          found = changed_other (key_changed s.bikes r.rental.bike parks) r.rental.bike marks other away ∙ changed_other s.bikes r.rental.bike parks other away ∙ o.found;
          place_is = o.place_is;
        };
  })
