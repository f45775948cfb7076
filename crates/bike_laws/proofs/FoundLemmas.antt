-- What is found: a bicycle in a dock, a rental with its plan, and tests that do not hold.
use Rattle.std.proofs.Common.{◌≡◌, ℕ, ◌<◌, List, [], ◌∷◌, Bool, true, false, T, cond, leb, Option, Some, None, refl, sym, ap, ◌∙◌, subst, arith}
use Rattle.std.specs.Prelude.{is_none, is_some, find, not, ◌&&◌, IfSome}
use Rattle.std.specs.FinMap as finmap
use Rattle.std.specs.FinMap.Entries as sorted
use Rattle.std.specs.Ordering.{nat_cmp, eq_by_cmp, is_lt, is_eq, ordering_reverse}
use Rattle.std.specs.declared.cmp.Ordering.{Ordering}
use Rattle.std.specs.declared.cmp.Ordering.TheVariants.{Less, Equal, Greater}
use Rattle.std.specs.Cmp.{tied_itself, nat_cmp_total}
use Rattle.std.proofs.lemmas.Option.{same_Some}
use Rattle.std.proofs.lemmas.Bool.Decides.{nat_tests}
use Rattle.bike_catalogue.specs.Rows.{PlanRow}
use Rattle.bike_ledger.specs.Ledger.{refunded_of}
use Rattle.bike_operator.specs.declared.records.Place.{Place}
use Rattle.bike_operator.specs.declared.records.Place.TheVariants as place
use Rattle.bike_operator.specs.declared.records.Bike.{Bike}
use Rattle.bike_operator.specs.declared.records.Rental.{Rental}
use Rattle.bike_operator.specs.declared.view.RentalView.{RentalView}
use Rattle.bike_operator.specs.Operator.{Operator, Station, Rider, item_numbered}
use Rattle.bike_operator.specs.Counts.{is_dock, docked_at, is_open}
use Rattle.bike_operator.specs.View.{station_view, rider_balance, rider_view, planned_rental, rental_view, rental_in, rental_of}
use Rattle.bike_operator.specs.Steps.{on, fare_now}
use Rattle.bike_operator.specs.declared.records.Closing.{Closing}
use Rattle.bike_operator.specs.Sound.{AreBikesSound, IsPlace}
use Rattle.bike_laws.proofs.SingleSteps.TestLemmas.{holds}

-- ---- options and tests

pub each_some : {A : Type 0} (o : Option A) (P : A → Type 0) → ((x : A) → o ≡ Some x → P x) → IfSome o P
each_some None P each = tt
each_some (Some x) P each = each x refl

pub both_true : (a b : Bool) → (a && b) ≡ true → (a ≡ true) × (b ≡ true)
both_true true true e = (refl, refl)
both_true true false e = absurd cc
both_true false b e = absurd cc

pub below_of : (n m : ℕ) → leb n m ≡ false → m < n
below_of n m f = grind (arith, nat_tests, f)

-- ---- a bicycle in a dock

pub both : (a b : Bool) → T (a && b) → T a × T b
both true true t = (tt, tt)
both true false t = absurd t
both false b t = absurd t

later_key : {X : Type 0} (test : ℕ × X → Bool) (k : ℕ) (es : List (ℕ × X)) (e : ℕ × X) → T (sorted.below_all nat_cmp k es) → find test es ≡ Some e → T (is_lt (nat_cmp k e.0))
later_key test k [] e below is = absurd cc
later_key {X = X} test k (x ∷ es) e below is =
    let parts = both (is_lt (nat_cmp k x.0)) (sorted.below_all nat_cmp k es) below in
    go (test x) is (λ more. later_key test k es e parts.1 more) parts.0
  where
    go : (b : Bool) → cond b (Some x) (find test es) ≡ Some e → (find test es ≡ Some e → T (is_lt (nat_cmp k e.0))) → T (is_lt (nat_cmp k x.0)) → T (is_lt (nat_cmp k e.0))
    go true same more less = subst (λ (y : ℕ × X). T (is_lt (nat_cmp k y.0))) (same_Some x e same) less
    go false same more less = more same

apart_of : (k q : ℕ) → T (is_lt (nat_cmp k q)) → eq_by_cmp nat_cmp q k ≡ false
apart_of k q less = ap is_eq (nat_cmp_total.antisymm q k) ∙ go (nat_cmp k q) less where
  go : (r : Ordering) → T (is_lt r) → is_eq (ordering_reverse r) ≡ false
  go Less t = refl
  go Equal t = absurd t
  go Greater t = absurd t

entry_found : {X : Type 0} (test : ℕ × X → Bool) (es : List (ℕ × X)) (e : ℕ × X) → T (sorted.is_sorted nat_cmp es) → find test es ≡ Some e → sorted.find nat_cmp e.0 es ≡ Some e.1
entry_found test [] e order is = absurd cc
entry_found {X = X} test (x ∷ es) e order is =
    let parts = both (sorted.below_all nat_cmp x.0 es) (sorted.is_sorted nat_cmp es) order in
    go (test x) is (λ more. (apart_of x.0 e.0 (later_key test x.0 es e parts.0 more), entry_found test es e parts.1 more))
  where
    here : (y : ℕ × X) → sorted.find nat_cmp y.0 (y ∷ es) ≡ Some y.1
    here y = ap (λ (o : Ordering). cond (is_eq o) (Some y.1) (sorted.find nat_cmp y.0 es)) (tied_itself nat_cmp_total y.0)

    go : (b : Bool) → cond b (Some x) (find test es) ≡ Some e → (find test es ≡ Some e → (eq_by_cmp nat_cmp e.0 x.0 ≡ false) × (sorted.find nat_cmp e.0 es ≡ Some e.1))
        → sorted.find nat_cmp e.0 (x ∷ es) ≡ Some e.1
    go true same more = subst (λ (y : ℕ × X). sorted.find nat_cmp y.0 (x ∷ es) ≡ Some y.1) (same_Some x e same) (here x)
    go false same more = let m = more same in ap (λ (b : Bool). cond b (Some x.1) (sorted.find nat_cmp e.0 es)) m.0 ∙ m.1

found_passes : {X : Type 0} (test : X → Bool) (xs : List X) (x : X) → find test xs ≡ Some x → test x ≡ true
found_passes test [] x is = absurd cc
found_passes {X = X} test (y ∷ ys) x is = go (test y) refl is (λ more. found_passes test ys x more) where
  go : (b : Bool) → test y ≡ b → cond b (Some y) (find test ys) ≡ Some x → (find test ys ≡ Some x → test x ≡ true) → test x ≡ true
  go true t same more = subst (λ (z : X). test z ≡ true) (same_Some y x same) t
  go false t same more = more same

-- the bicycle is there, in this dock
pub record IsDocked (s : Operator) (station : List ℕ) (dock : ℕ) (b : ℕ × Bike) : Type 0 where
  pub found : finmap.get s.bikes b.0 ≡ Some b.1
  pub in_dock : is_dock station dock b.1.place ≡ true

pub docked_is : (s : Operator) (station : List ℕ) (dock : ℕ) (b : ℕ × Bike) → docked_at s station dock ≡ Some b → IsDocked s station dock b
docked_is s station dock b is = record {
  found = finmap.get-entries s.bikes b.0 ∙ entry_found (λ (x : ℕ × Bike). is_dock station dock x.1.place) (finmap.entries s.bikes) b (finmap.entries_sorted s.bikes) is;
  in_dock = found_passes (λ (x : ℕ × Bike). is_dock station dock x.1.place) (finmap.entries s.bikes) b is;
}

-- ---- a rental with its plan

-- the view of a rental that is there
pub record IsViewOf (s : Operator) (r : RentalView) : Type 0 where
  pub found : item_numbered r.number s.rentals ≡ Some r.rental
  pub plan_is : finmap.get s.plans r.rental.plan ≡ Some r.plan
  pub refunded_is : r.refunded ≡ refunded_of r.number s.entries.items
  pub balance_is : r.balance ≡ rider_balance s r.rental.rider

planned_is : (s : Operator) (number : ℕ) (x : Rental) (o : Option PlanRow) (r : RentalView) → item_numbered number s.rentals ≡ Some x → finmap.get s.plans x.plan ≡ o
    → planned_rental s number x o ≡ Some r → IsViewOf s r
planned_is s number x None r found plan is = absurd cc
planned_is s number x (Some p) r found plan is =
    subst (IsViewOf s) (same_Some (record { number = number; rental = x; plan = p; refunded = refunded_of number s.entries.items; balance = rider_balance s x.rider }) r is)
    (record { found = found; plan_is = plan; refunded_is = refl; balance_is = refl })

pub view_is : (s : Operator) (number : ℕ) (o : Option Rental) (r : RentalView) → item_numbered number s.rentals ≡ o → rental_view s number o ≡ Some r → IsViewOf s r
view_is s number None r found is = absurd cc
view_is s number (Some x) r found is = planned_is s number x (finmap.get s.plans x.plan) r found refl is

planned_number : (s : Operator) (number : ℕ) (x : Rental) (o : Option PlanRow) (r : RentalView) → planned_rental s number x o ≡ Some r → number ≡ r.number
planned_number s number x None r is = absurd cc
planned_number s number x (Some p) r is =
    ap (λ (v : RentalView). v.number) (same_Some (record { number = number; rental = x; plan = p; refunded = refunded_of number s.entries.items; balance = rider_balance s x.rider }) r is)

pub view_number : (s : Operator) (number : ℕ) (o : Option Rental) (r : RentalView) → rental_view s number o ≡ Some r → number ≡ r.number
view_number s number None r is = absurd cc
view_number s number (Some x) r is = planned_number s number x (finmap.get s.plans x.plan) r is

-- the open rental of a bicycle, which is in it
pub record IsRentalOf (s : Operator) (bike : ℕ) (r : RentalView) : Type 0 where
  pub view : IsViewOf s r
  pub not_closed : is_open r.rental ≡ true
  pub bike_is : r.rental.bike ≡ bike

rental_in_is : (s : Operator) (bike : ℕ) (type_id : List ℕ) (p : Place) (r : RentalView) → IsPlace s bike type_id p → rental_in s p ≡ Some r → IsRentalOf s bike r
rental_in_is s bike type_id (place.Dock station dock) r placed is = absurd cc
rental_in_is s bike type_id (place.Truck truck order) r placed is = absurd cc
rental_in_is s bike type_id place.Depot r placed is = absurd cc
rental_in_is s bike type_id (place.Rental rental) r placed is =
    let v : IsViewOf s r = view_is s rental (item_numbered rental s.rentals) r refl is in
    let number : rental ≡ r.number = view_number s rental (item_numbered rental s.rentals) r is in
    let same : placed.row ≡ r.rental = same_Some placed.row r.rental (sym placed.found ∙ ap (λ (n : ℕ). item_numbered n s.rentals) number ∙ v.found) in
    record { view = v; not_closed = ap (λ (x : Rental). is_open x) (sym same) ∙ placed.not_closed; bike_is = ap (λ (x : Rental). x.bike) (sym same) ∙ placed.bike_is }

pub rental_is : (s : Operator) (bike : ℕ) (o : Option Bike) (r : RentalView) → AreBikesSound s → finmap.get s.bikes bike ≡ o → rental_of s o ≡ Some r → IsRentalOf s bike r
rental_is s bike None r order found is = absurd cc
rental_is s bike (Some b) r order found is = rental_in_is s bike b.type_id b.place r (order.bikes bike b found).placed is

-- ---- what tests say of rows

pub nothing : {A : Type 0} (o : Option A) → is_none o ≡ true → o ≡ None
nothing None e = refl
nothing (Some x) e = absurd cc

pub rider_there : (s : Operator) (rider : ℕ) (o : Option Rider) → is_none (rider_view s rider o) ≡ false → is_some o ≡ true
rider_there s rider None e = absurd cc
rider_there s rider (Some r) e = refl

pub station_there : (o : Option Station) → is_none (station_view o) ≡ false → is_some o ≡ true
station_there None e = absurd cc
station_there (Some x) e = refl

-- a rental that isn't closed is open
pub open_of : (o : Option RentalView) (r : RentalView) → o ≡ Some r → on o (λ v. not (is_open v.rental)) ≡ false → is_open r.rental ≡ true
open_of o r is e = holds (is_open r.rental) (ap (λ (x : Option RentalView). on x (λ v. not (is_open v.rental))) (sym is) ∙ e)

pub closed_of : (o : Option RentalView) (r : RentalView) → o ≡ Some r → on o (λ v. is_open v.rental) ≡ false → is_open r.rental ≡ false
closed_of o r is e = ap (λ (x : Option RentalView). on x (λ v. is_open v.rental)) (sym is) ∙ e

-- ---- a rental that ends now

abbrev pub closing_now : RentalView → Option (List ℕ) → ℕ → Closing
closing_now r to_station now = record { to_station = to_station; finish = now; fare = fare_now r now }

abbrev pub closed_by : Closing → Rental → Rental
closed_by c x = record x { closing = Some c }
