-- A rental passes exactly where what it is asked holds of it.
use Rattle.std.proofs.Common.{◌≡◌, ℕ, ℤ, ◌+◌, ◌≤◌, ◌≤ℤ◌, ◌==◌, ◌&&◌, ◌||◌, pos, List, Bool, true, cond, Option, Some, None, refl, sym, ap, subst, ◌∙◌, arith}
use Rattle.std.specs.Prelude.{option_map, is_some, is_none, nat_le, int_le}
use Rattle.std.specs.Bool.{Decides}
use Rattle.std.specs.FinMap as fin
use Rattle.std.specs.Ordering.{int_eq}
use Rattle.std.proofs.lemmas.Bool.Decides.{Decides-eqb, Decides-int_eq, Decides-and, Decides-like}
use Rattle.std.proofs.lemmas.Int.{ints}
use Rattle.std.proofs.lemmas.Option.{same_Some}
use Rattle.bike_ledger.specs.Ledger.{refunded_of}
use Rattle.bike_operator.specs.declared.records.Bike.{Bike}
use Rattle.bike_operator.specs.declared.records.Place.{Place}
use Rattle.bike_operator.specs.declared.records.Place.TheVariants as place
use Rattle.bike_operator.specs.declared.records.Rental.{Rental}
use Rattle.bike_operator.specs.declared.records.Closing.{Closing}
use Rattle.bike_operator.specs.Operator.{Operator}
use Rattle.bike_operator.specs.Sound.{IsOut, IsStop, most_refunded}
use Rattle.bike_book.specs.Tables.{Tables, Plans, Stations, Bikes, Riders}
use Rattle.bike_readings.specs.Demands.{HasFare}
use Rattle.bike_readings.specs.ReadOff.{operator_of}
use Rattle.bike_readings.specs.Rules.{AreInOrder}
use Rattle.bike_ledger_rules.specs.Known.{has_rider, rental_at, bike_rental, has_plan, has_station, known_in}
use Rattle.bike_ledger_rules.specs.Rentals.{is_in, is_out, names_test, is_stop, closes, ends_test, books_test, fare_count, refund_sum}
use Rattle.bike_ledger_rules.proofs.Tests.{at_most, at_most_z, is_true}
use Rattle.bike_ledger_rules.proofs.Earlier.{AreGood, rider_under, bike_under, plan_under, station_under}

-- ---- what is asked

-- the bicycle of an open rental is in it
abbrev pub OutIfOpen : Operator → ℕ → Rental → Option Closing → Type 0
OutIfOpen s number r None = IsOut s number r.bike
OutIfOpen s number r (Some c) = Unit {0}

pub record NamesGood (s : Operator) (e : ℕ × Rental × ℤ) : Type 0 where
  pub rider_is : fin.contains_key s.riders e.1.rider ≡ true
  pub plan_is : fin.contains_key s.plans e.1.plan ≡ true
  pub from_is : fin.contains_key s.stations e.1.from_station ≡ true
  pub bike_is : fin.contains_key s.bikes e.1.bike ≡ true
  pub out : OutIfOpen s e.0 e.1 e.1.closing

-- it ended so, where it is closed
abbrev pub EndedWell : Operator → ℕ → Option Closing → Type 0
EndedWell s start None = Unit {0}
EndedWell s start (Some c) = (start ≤ c.finish) × (c.finish ≤ s.now) × IsStop s c.to_station

pub record EndsGood (s : Operator) (e : ℕ × Rental × ℤ) : Type 0 where
  pub by_now : e.1.start ≤ s.now
  pub ended : EndedWell s e.1.start e.1.closing

pub record BooksGood (s : Operator) (before : ℕ) (e : ℕ × Rental × ℤ) : Type 0 where
  pub number_is : e.0 ≡ before + 1
  pub booked : HasFare s e.0 e.1.closing
  pub refunded_is : e.2 ≡ refunded_of e.0 s.entries.items
  pub refunded : refunded_of e.0 s.entries.items ≤ℤ most_refunded e.1.closing

-- ---- small tests

in_rental : (number : ℕ) (p : Place) → Decides (is_in number (rental_at p)) (p ≡ place.Rental number)
in_rental number (place.Dock station dock) = (λ e. absurd cc, λ e. absurd cc)
in_rental number (place.Rental rental) =
    (λ e. ap place.Rental ((Decides-eqb rental number).0 e), λ e. (Decides-eqb rental number).1 (let f = e in cc))
in_rental number (place.Truck truck order) = (λ e. absurd cc, λ e. absurd cc)
in_rental number place.Depot = (λ e. absurd cc, λ e. absurd cc)

-- the bicycle is there, and in the rental while that is open
abbrev pub IsOutThere : Operator → ℕ → Rental → Type 0
IsOutThere s number r = (fin.contains_key s.bikes r.bike ≡ true) × OutIfOpen s number r r.closing

-- the rental in which a bicycle is, as a map gives the bicycle
abbrev rental_with : Operator → ℕ → Option (Option ℕ)
rental_with s bike = option_map (λ b. rental_at b.place) (fin.get s.bikes bike)

out_decides : (s : Operator) (number : ℕ) (r : Rental) → Decides (is_out number r (rental_with s r.bike)) (IsOutThere s number r)
out_decides s number r = go (fin.get s.bikes r.bike) refl where
  there : (b : Bike) → fin.get s.bikes r.bike ≡ Some b → (c : Option Closing)
      → Decides (cond (is_none c) (is_in number (rental_at b.place)) true) ((true ≡ true) × OutIfOpen s number r c)
  there b is None = (
    λ e. (refl, record { row = b; found = is; place_is = (in_rental number b.place).0 e }),
    λ h. (in_rental number b.place).1 (ap (λ (x : Bike). x.place) (same_Some b h.1.row (sym is ∙ h.1.found)) ∙ h.1.place_is),
  )
  there b is (Some c) = (λ e. (refl, tt), λ h. refl)

  go : (o : Option Bike) → fin.get s.bikes r.bike ≡ o
      → Decides (is_out number r (option_map (λ b. rental_at b.place) o)) ((is_some o ≡ true) × OutIfOpen s number r r.closing)
  go None is = (λ e. absurd cc, λ h. absurd (let e = h.0 in cc))
  go (Some b) is = there b is r.closing

-- ---- the books of a rental

module _ (t : Tables) (before : ℕ) (e : ℕ × Rental × ℤ) where
  abbrev fares : ℤ
  fares = fare_count t e.0

  abbrev sum : ℤ
  sum = refund_sum t e.0

  has_fare : (o : Option Closing) → Decides (is_none o || int_le (pos 1) fares) (HasFare (operator_of t) e.0 o)
  has_fare None = (λ e. tt, λ h. refl)
  has_fare (Some c) =
      Decides-like (int_le (pos 1) fares) (λ h. omega (arith, ints, h)) (λ h. omega (arith, ints, h)) (at_most_z (pos 1) fares)

  abbrev is_next : Bool
  is_next = e.0 == before + 1

  abbrev is_fared : Bool
  is_fared = is_none e.1.closing || int_le (pos 1) fares

  abbrev is_refunded : Bool
  is_refunded = int_eq e.2 sum && int_le sum (most_refunded e.1.closing)

  pub books_decide : Decides (books_test (fare_count t) (refund_sum t) before e) (BooksGood (operator_of t) before e)
  books_decide =
      Decides-like (is_next && (is_fared && is_refunded))
      (λ h. record { number_is = h.0; booked = h.1.0; refunded_is = h.1.1.0; refunded = h.1.1.1 })
      (λ (g : BooksGood (operator_of t) before e). (g.number_is, (g.booked, (g.refunded_is, g.refunded))))
      (Decides-and is_next (is_fared && is_refunded) (Decides-eqb e.0 (before + 1))
      (Decides-and is_fared is_refunded (has_fare e.1.closing)
      (Decides-and (int_eq e.2 sum) (int_le sum (most_refunded e.1.closing)) (Decides-int_eq e.2 sum)
      (at_most_z sum (most_refunded e.1.closing)))))

-- ---- what the tables have under its names

-- The rows of the tables of what a rental names are good.
pub record AreNamed (t : Tables) (up : AreInOrder t) : Type 0 where
  pub riders : AreGood t up Riders
  pub plans : AreGood t up Plans
  pub stations : AreGood t up Stations
  pub bikes : AreGood t up Bikes

module _ (t : Tables) (up : AreInOrder t) (are : AreNamed t up) (e : ℕ × Rental × ℤ) where
  abbrev s : Operator
  s = operator_of t

  bike_decides : Decides (is_out e.0 e.1 (bike_rental t e.1.bike)) (IsOutThere s e.0 e.1)
  bike_decides =
      subst (λ (o : Option (Option ℕ)). Decides (is_out e.0 e.1 o) (IsOutThere s e.0 e.1)) (sym (bike_under t up are.bikes e.1.bike))
      (out_decides s e.0 e.1)

  pub names_decide : Decides (names_test (known_in t) e) (NamesGood s e)
  names_decide =
      let rider = has_rider t e.1.rider in
      let plan = has_plan t e.1.plan in
      let station = has_station t e.1.from_station in
      let bike = is_out e.0 e.1 (bike_rental t e.1.bike) in
      Decides-like ((rider && plan) && (station && bike))
      (λ h. record { rider_is = h.0.0; plan_is = h.0.1; from_is = h.1.0; bike_is = h.1.1.0; out = h.1.1.1 })
      (λ (g : NamesGood s e). ((g.rider_is, g.plan_is), (g.from_is, (g.bike_is, g.out))))
      (Decides-and (rider && plan) (station && bike)
      (Decides-and rider plan
      (is_true rider (fin.contains_key s.riders e.1.rider) (rider_under t up are.riders e.1.rider))
      (is_true plan (fin.contains_key s.plans e.1.plan) (plan_under t up are.plans e.1.plan)))
      (Decides-and station bike
      (is_true station (fin.contains_key s.stations e.1.from_station) (station_under t up are.stations e.1.from_station)) bike_decides))

  -- ---- how it ended

  stop_decides : (to : Option (List ℕ)) → Decides (is_stop (has_station t) to) (IsStop s to)
  stop_decides None = (λ h. tt, λ h. refl)
  stop_decides (Some station) = is_true (has_station t station) (fin.contains_key s.stations station) (station_under t up are.stations station)

  closes_decide : (o : Option Closing) → Decides (closes (has_station t) s.now e.1.start o) (EndedWell s e.1.start o)
  closes_decide None = (λ h. tt, λ h. refl)
  closes_decide (Some c) =
      let after = nat_le e.1.start c.finish in
      let by_now = nat_le c.finish s.now in
      let at_stop = is_stop (has_station t) c.to_station in
      Decides-like (after && (by_now && at_stop)) (λ h. (h.0, h.1.0, h.1.1)) (λ h. (h.0, (h.1, h.2)))
      (Decides-and after (by_now && at_stop) (at_most e.1.start c.finish)
      (Decides-and by_now at_stop (at_most c.finish s.now) (stop_decides c.to_station)))

  pub ends_decide : Decides (ends_test (has_station t) s.now e) (EndsGood s e)
  ends_decide =
      let by_now = nat_le e.1.start s.now in
      let ended = closes (has_station t) s.now e.1.start e.1.closing in
      Decides-like (by_now && ended) (λ h. record { by_now = h.0; ended = h.1 }) (λ (g : EndsGood s e). (g.by_now, g.ended))
      (Decides-and by_now ended (at_most e.1.start s.now) (closes_decide e.1.closing))
