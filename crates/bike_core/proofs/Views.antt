-- What a view shows of a dock, of a bicycle and of a balance.
use Rattle.std.proofs.Common.{◌≡◌, ℕ, ℤ, pos, ◌+ℤ◌, List, true, cond, eqb, Option, Some, None, is_some, refl, sym, ap, ◌∙◌, arith, inl, inr}
use Rattle.std.specs.Prelude.{Result, Ok, Err, IfOk}
use Rattle.std.specs.Option.{option_copied}
use Rattle.std.specs.Borrow.{Bor}
use Rattle.std.specs.FinMap as map
use Rattle.std.proofs.lemmas.Bool.Decides.{eqb_tells}
use Rattle.std.proofs.lemmas.Int.{ints}
use Rattle.std.proofs.lemmas.Option.{same_Some}
use Rattle.bike_catalogue.specs.Rows.{PlanRow, TypeRow}
use Rattle.bike_ledger.specs.Entries.{Entry}
use Rattle.bike_ledger.specs.Ledger.{balance_of, refunded_of, credit, share}
use Rattle.bike_ledger.proofs.SumLemmas.{total-append}
use Rattle.bike_commands.specs.declared.command.Command.{Command}
use Rattle.bike_commands.specs.declared.refusal.Refusal.{Refusal}
use Rattle.bike_operator.specs.declared.records.Place.{Place}
use Rattle.bike_operator.specs.declared.records.Place.TheVariants as place
use Rattle.bike_operator.specs.declared.records.Bike.{Bike}
use Rattle.bike_operator.specs.declared.records.Rental.{Rental}
use Rattle.bike_operator.specs.declared.view.RentalView.{RentalView}
use Rattle.bike_operator.specs.declared.view.RiderView.{RiderView}
use Rattle.bike_operator.specs.declared.view.View.{View}
use Rattle.bike_operator.specs.Operator.{Operator, Rider, item_numbered}
use Rattle.bike_operator.specs.Counts.{is_dock, docked_at}
use Rattle.bike_operator.specs.View.{view_of, before_of, rider_balance, rider_view, typed_bike, docked_view, rental_view, rental_of, rental_in, planned_rental}
use Rattle.bike_operator.specs.Steps.{first, tests, refusal_of, own_plan}
use Rattle.bike_operator.specs.Changes.{text_in, entry_added}
use Rattle.bike_operator.specs.Sound.{AreBikesSound}
use Rattle.bike_laws.proofs.SingleSteps.MapLemmas.{number_order}
use Rattle.bike_laws.proofs.SingleSteps.CountLemmas.{found_by}
use Rattle.bike_accepted.specs.declared.movement.BikeStatus.{BikeStatus}
use Rattle.bike_accepted.specs.declared.accepted.Accepted.{Accepted}
use Rattle.bike_accepted.specs.Effects.{bike_in}
use Rattle.bike_accepted.specs.Found.{FindsAt, FindsOn}
use Rattle.bike_accepted.specs.Moves.{IsShown}

-- the first test that holds over the view is the operator's refusal
pub refused_as : (s : Operator) (v : View) (c : Command) (o : Option Refusal) → v ≡ view_of s c → o ≡ first (tests v c) → refusal_of s c ≡ o
refused_as s v c o e is = ap (λ (w : View). first (tests w c)) (sym e) ∙ sym is

-- ---- the bicycle

pub shown_bike : (b : Bike) (type_id : Bor (List ℕ)) (was : BikeStatus) → IsShown b type_id was → bike_in type_id was ≡ b
shown_bike b type_id was h = λ i. record { type_id = h.type_is i; state = h.state_is i; place = h.place_is i }

-- where a view shows no bicycle in a dock, it is empty
pub empty_dock : (s : Operator) (station : List ℕ) (dock : ℕ) → AreBikesSound s → docked_view s (docked_at s station dock) ≡ None → docked_at s station dock ≡ None
empty_dock s station dock sound h = go (docked_at s station dock) refl h where
  typed : (b : ℕ × Bike) (t : Option TypeRow) → is_some t ≡ true → typed_bike b t ≡ None → ⊥
  typed b None known none = absurd cc
  typed b (Some t) known none = absurd cc

  go : (o : Option (ℕ × Bike)) → docked_at s station dock ≡ o → docked_view s o ≡ None → o ≡ None
  go None e none = refl
  go (Some b) e none =
      let f = found_by number_order (λ (y : Bike). is_dock station dock y.place) s.bikes b e in
      absurd (typed b (map.get s.types b.1.type_id) (sound.bikes b.0 b.1 f.0).type_is none)

-- ---- balances

equal_to_itself : (n : ℕ) → eqb n n ≡ true
equal_to_itself n = elim (eqb_tells n n) [ inl w ↦ w.0 | inr w ↦ absurd (w.1 refl) ]

-- one more entry adds its credit to its rider's balance
pub balance_after_entry : (s : Operator) (e : Entry) (balance : ℤ) → rider_balance s e.rider ≡ balance → rider_balance (entry_added (Some e) s) e.rider ≡ balance +ℤ credit e.kind e.amount
balance_after_entry s e balance is =
    let more = total-append (share e.rider) s.entries.items e in
    let own : share e.rider e ≡ credit e.kind e.amount = ap (λ b. cond b (credit e.kind e.amount) (pos 0)) (equal_to_itself e.rider) in
    omega (arith, ints, more, own, is)

planned_balance : (s : Operator) (number : ℕ) (r : Rental) (o : Option PlanRow) (row : RentalView) → planned_rental s number r o ≡ Some row → rider_balance s row.rental.rider ≡ row.balance
planned_balance s number r None row e = absurd cc
planned_balance s number r (Some plan) row e =
    let same = same_Some _ row e in
    sym (ap (λ (x : RentalView). rider_balance s x.rental.rider) same) ∙ ap (λ (x : RentalView). x.balance) same

pub rental_balance : (s : Operator) (number : ℕ) (o : Option Rental) (row : RentalView) → rental_view s number o ≡ Some row → rider_balance s row.rental.rider ≡ row.balance
rental_balance s number None row e = absurd cc
rental_balance s number (Some r) row e = planned_balance s number r (map.get s.plans r.plan) row e

place_balance : (s : Operator) (p : Place) (row : RentalView) → rental_in s p ≡ Some row → rider_balance s row.rental.rider ≡ row.balance
place_balance s (place.Dock station dock) row e = absurd cc
place_balance s (place.Rental rental) row e = rental_balance s rental (item_numbered rental s.rentals) row e
place_balance s (place.Truck truck order) row e = absurd cc
place_balance s place.Depot row e = absurd cc

pub bike_balance : (s : Operator) (o : Option Bike) (row : RentalView) → rental_of s o ≡ Some row → rider_balance s row.rental.rider ≡ row.balance
bike_balance s None row e = absurd cc
bike_balance s (Some b) row e = place_balance s b.place row e

-- ---- refunds

planned_refunds : (s : Operator) (number : ℕ) (r : Rental) (o : Option PlanRow) (row : RentalView) → planned_rental s number r o ≡ Some row → refunded_of row.number s.entries.items ≡ row.refunded
planned_refunds s number r None row e = absurd cc
planned_refunds s number r (Some plan) row e =
    let same = same_Some _ row e in
    sym (ap (λ (x : RentalView). refunded_of x.number s.entries.items) same) ∙ ap (λ (x : RentalView). x.refunded) same

-- a view's refunds are a sum over the entries
pub rental_refunds : (s : Operator) (number : ℕ) (o : Option Rental) (row : RentalView) → rental_view s number o ≡ Some row → refunded_of row.number s.entries.items ≡ row.refunded
rental_refunds s number None row e = absurd cc
rental_refunds s number (Some r) row e = planned_refunds s number r (map.get s.plans r.plan) row e

-- ---- riders

pub row_balance : (s : Operator) (rider : ℕ) (o : Option Rider) (row : RiderView) → rider_view s rider o ≡ Some row → before_of o +ℤ balance_of rider s.entries.items ≡ row.balance
row_balance s rider None row e = absurd cc
row_balance s rider (Some r) row e = ap (λ (x : RiderView). x.balance) (same_Some _ row e)

pub row_plan : (s : Operator) (rider : ℕ) (o : Option Rider) (row : RiderView) → rider_view s rider o ≡ Some row → own_plan o ≡ row.plan
row_plan s rider None row e = absurd cc
row_plan s rider (Some r) row e = ap (λ (x : RiderView). x.plan) (same_Some _ row e)

-- ---- decisions that no moment changes

pub finds_at : (v : View) (now : ℕ) (c : Command) (r : Result Accepted Refusal) → IfOk r (FindsOn v c) → IfOk r (FindsAt now v c)
finds_at v now c (Ok a) found = λ s sound e. found s now sound e
finds_at v now c (Err refusal) found = tt

-- the region that is named, read through a reference
pub region_named : (o : Option (Bor (List ℕ))) (region : Option (List ℕ)) → option_copied o ≡ region → region ≡ text_in o
region_named None region e = sym e
region_named (Some text) region e = sym e
