-- There are no more open rentals than bicycles: each is the place of its own bicycle.
use Rattle.std.proofs.Common.{◌≡◌, ℕ, zero, suc, ◌+◌, ◌-◌, ◌<◌, ◌≤◌, List, [], ◌∷◌, length, filter, Bool, true, false, cond, Option, Some, None, refl, sym, ap, ◌∙◌, subst, arith}
use Rattle.std.specs.Prelude.{is_some}
use Rattle.std.specs.FinMap as finmap
use Rattle.std.specs.FinMap.{FinMap}
use Rattle.std.specs.Ordering.{nat_cmp, eq_by_cmp}
use Rattle.std.specs.Cmp.{nat_cmp_total}
use Rattle.std.proofs.lemmas.Option.{same_Some}
use Rattle.std.proofs.lemmas.Bool.Decides.{nat_tests}
use Rattle.bike_operator.specs.declared.limits.TheConstants.{MOST_BIKES, MOST_ENTRIES}
use Rattle.bike_operator.specs.declared.records.Place.{Place}
use Rattle.bike_operator.specs.declared.records.Place.TheVariants as place
use Rattle.bike_operator.specs.declared.records.Bike.{Bike}
use Rattle.bike_operator.specs.declared.records.Rental.{Rental}
use Rattle.bike_operator.specs.declared.records.Closing.{Closing}
use Rattle.bike_operator.specs.Operator.{Operator, item_at, last_number}
use Rattle.bike_laws.proofs.SingleSteps.ItemLemmas.{number_of_place}
use Rattle.bike_operator.specs.Counts.{count, open_rentals, is_open}
use Rattle.bike_operator.specs.View.{has_full_ledger}
use Rattle.bike_operator.specs.Sound.{IsSound, IsOpenOrClosed}
use Rattle.bike_laws.proofs.SingleSteps.MapLemmas.{number_order, tied}

-- the bicycle is in this rental
record IsInRental (bikes : FinMap nat_cmp Bike) (number bike : ℕ) : Type 0 where
  row : Bike
  found : finmap.get bikes bike ≡ Some row
  place_is : row.place ≡ place.Rental number

rental_in : Place → ℕ
rental_in (place.Dock station dock) = 0
rental_in (place.Rental rental) = rental
rental_in (place.Truck truck order) = 0
rental_in place.Depot = 0

-- bicycles in two rentals are two
apart : (bikes : FinMap nat_cmp Bike) (a b x y : ℕ) → IsInRental bikes a x → IsInRental bikes b y → b < a → eq_by_cmp nat_cmp x y ≡ false
unfolding rental_in
apart bikes a b x y one other less = go (eq_by_cmp nat_cmp x y) refl where
  go : (same : Bool) → eq_by_cmp nat_cmp x y ≡ same → same ≡ false
  go false e = refl
  go true e =
      let key : x ≡ y = tied number_order x y e in
      let row : one.row ≡ other.row = same_Some one.row other.row (sym one.found ∙ ap (finmap.get bikes) key ∙ other.found) in
      let number : a ≡ b = ap rental_in (sym one.place_is ∙ ap (λ (r : Bike). r.place) row ∙ other.place_is) in
      absurd (omega (arith, number, less))

-- a bicycle in another rental is there still when one is taken away
kept : (bikes : FinMap nat_cmp Bike) (a b x y : ℕ) → IsInRental bikes a x → IsInRental bikes b y → b < a → IsInRental (finmap.remove bikes y) a x
kept bikes a b x y one other less = record {
  row = one.row;
  found = finmap.get-remove nat_cmp_total bikes y x ∙ ap (λ (same : Bool). cond same None (finmap.get bikes x)) (apart bikes a b x y one other less) ∙ one.found;
  place_is = one.place_is;
}

one_at_least : (bikes : FinMap nat_cmp Bike) (bike : ℕ) (row : Bike) → finmap.get bikes bike ≡ Some row → (n : ℕ) → finmap.len bikes ≡ n → 1 ≤ n
one_at_least bikes bike row found zero e =
    let none : finmap.get bikes bike ≡ None = ap (λ (m : FinMap nat_cmp Bike). finmap.get m bike) (finmap.empty_of_len bikes e) ∙ finmap.get-empty nat_cmp bike in
    absurd cc
one_at_least bikes bike row found (suc n) e = omega arith

one_fewer : (bikes : FinMap nat_cmp Bike) (bike : ℕ) (row : Bike) → finmap.get bikes bike ≡ Some row → finmap.len (finmap.remove bikes bike) + 1 ≡ finmap.len bikes
one_fewer bikes bike row found =
    let less : finmap.len (finmap.remove bikes bike) ≡ finmap.len bikes - 1 =
    finmap.len-remove nat_cmp_total bikes bike ∙ ap (λ (o : Option Bike). cond (is_some o) (finmap.len bikes - 1) (finmap.len bikes)) found in
    let some = one_at_least bikes bike row found (finmap.len bikes) refl in
    omega (arith, less, some)

-- each open rental from number n on has its own bicycle
abbrev AreInRentals : List Rental → ℕ → FinMap nat_cmp Bike → Type 0
AreInRentals rs n bikes = (i : ℕ) (r : Rental) → item_at i rs ≡ Some r → is_open r ≡ true → IsInRental bikes (n + i) r.bike

rentals_fit : (rs : List Rental) (n : ℕ) (bikes : FinMap nat_cmp Bike) → AreInRentals rs n bikes → count is_open rs ≤ finmap.len bikes
rentals_fit [] n bikes each = omega arith
rentals_fit (r ∷ rs) n bikes each = go (is_open r) refl (rentals_fit rs (n + 1)) where
  later : AreInRentals rs (n + 1) bikes
  later i x at now = let next : n + suc i ≡ (n + 1) + i = omega arith in subst (λ (k : ℕ). IsInRental bikes k x.bike) next (each (suc i) x at now)

  go : (now : Bool) → is_open r ≡ now → ((m : FinMap nat_cmp Bike) → AreInRentals rs (n + 1) m → count is_open rs ≤ finmap.len m)
      → length (cond now (r ∷ filter is_open rs) (filter is_open rs)) ≤ finmap.len bikes
  go false e fit = fit bikes later
  go true e fit =
      let own : IsInRental bikes (n + 0) r.bike = each 0 r refl e in
      let rest = fit (finmap.remove bikes r.bike) (λ i x at now. kept bikes ((n + 1) + i) (n + 0) x.bike r.bike (later i x at now) own (omega arith)) in
      let fewer = one_fewer bikes r.bike own.row own.found in
      omega (arith, rest, fewer)

out_of : (s : Operator) (number : ℕ) (r : Rental) (o : Option Closing) → IsOpenOrClosed s number r o → r.closing ≡ o → is_open r ≡ true → IsInRental s.bikes number r.bike
out_of s number r None out is now = record { row = out.row; found = out.found; place_is = out.place_is }
out_of s number r (Some c) out is now = let shut : is_open r ≡ false = ap (λ (o : Option Closing). is_open (record r { closing = o })) is in absurd cc

pub open_within_bikes : (s : Operator) → IsSound s → open_rentals s ≤ finmap.len s.bikes
open_within_bikes s sound = rentals_fit s.rentals.items (s.rentals.archived + 1) s.bikes (λ i r at now.
    let n = s.rentals.archived + suc i in
    let number : n ≡ (s.rentals.archived + 1) + i = omega arith in
    subst (λ (k : ℕ). IsInRental s.bikes k r.bike) number (out_of s n r r.closing (sound.rentals.rentals n r (number_of_place i s.rentals r at)).closing refl now))

pub open_within_limit : (s : Operator) → IsSound s → open_rentals s ≤ MOST_BIKES
open_within_limit s sound =
    let few = open_within_bikes s sound in
    let most = sound.bikes.few in
    omega (arith, few, most)

pub room_left : (s : Operator) → IsSound s → last_number s.entries + MOST_BIKES < MOST_ENTRIES → has_full_ledger s ≡ false
room_left s sound room =
    let few = open_within_limit s sound in
    let left : last_number s.entries + open_rentals s < MOST_ENTRIES = omega (arith, few, room) in
    grind (arith, nat_tests, left)
