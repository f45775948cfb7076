-- What a command names, where its tests say that it is there.
use Rattle.std.proofs.Common.{◌≡◌, ℕ, List, Bool, true, false, ◌&&◌, ◌==◌, T, Option, Some, None, is_some, refl, sym, ap, ◌∙◌, subst}
use Rattle.std.specs.Str.{bytes_eq}
use Rattle.std.specs.FinMap as map
use Rattle.std.proofs.lemmas.Slice.Eq.{bytes_eq-Decides}
use Rattle.std.proofs.Math.Dec.{eqb_refl}
use Rattle.bike_catalogue.specs.Rows.{PlanRow, TypeRow}
use Rattle.bike_operator.specs.declared.records.Place.{Place}
use Rattle.bike_operator.specs.declared.records.Place.TheVariants as place
use Rattle.bike_operator.specs.declared.records.Bike.{Bike}
use Rattle.bike_operator.specs.declared.records.Rental.{Rental}
use Rattle.bike_operator.specs.declared.view.DockedBike.{DockedBike}
use Rattle.bike_operator.specs.declared.view.RentalView.{RentalView}
use Rattle.bike_operator.specs.Operator.{Operator, item_numbered}
use Rattle.bike_operator.specs.Counts.{is_dock, docked_at}
use Rattle.bike_operator.specs.View.{typed_bike, docked_view, planned_rental, rental_view, rental_in, rental_of}
use Rattle.bike_operator.specs.Sound.{AreBikesSound}
use Rattle.bike_laws.proofs.SingleSteps.MapLemmas.{number_order}
use Rattle.bike_laws.proofs.SingleSteps.CountLemmas.{missed, found_by}
use Rattle.bike_laws.proofs.SingleSteps.BikeLemmas.{IsFree}

-- ---- the bicycle in a dock

pub record IsDocked (s : Operator) (station : List ℕ) (dock : ℕ) (d : DockedBike) : Type 0 where
  pub row : Bike
  pub found : map.get s.bikes d.bike ≡ Some row
  pub state_is : row.state ≡ d.state
  pub placed : is_dock station dock row.place ≡ true

pub docked_of : (s : Operator) (station : List ℕ) (dock : ℕ) (d : DockedBike) → docked_view s (docked_at s station dock) ≡ Some d → IsDocked s station dock d
docked_of s station dock d h = go (docked_at s station dock) refl h where
  typed : (b : ℕ × Bike) → docked_at s station dock ≡ Some b → (t : Option TypeRow) → typed_bike b t ≡ Some d → IsDocked s station dock d
  typed b e None h = absurd cc
  typed b e (Some t) h =
      let f = found_by number_order (λ (y : Bike). is_dock station dock y.place) s.bikes b e in
      let d_is : ◌≡◌ {A = DockedBike} (record { bike = b.0; type_id = b.1.type_id; state = b.1.state; plan = t.plan_id }) d = cc in
      record { row = b.1; found = subst (λ (z : DockedBike). map.get s.bikes z.bike ≡ Some b.1) d_is f.0; state_is = ap (λ (z : DockedBike). z.state) d_is; placed = f.1 }

  go : (o : Option (ℕ × Bike)) → docked_at s station dock ≡ o → docked_view s o ≡ Some d → IsDocked s station dock d
  go None e h = absurd cc
  go (Some b) e h = typed b e (map.get s.types b.1.type_id) h

dock_itself : (station : List ℕ) (dock : ℕ) → (bytes_eq station station && (dock == dock)) ≡ true
dock_itself station dock = rw ((bytes_eq-Decides station station).1 refl) (tests (dock == dock) (eqb_refl dock)) where
  tests : (b : Bool) → T b → b ≡ true
  tests true h = refl
  tests false h = absurd h

-- where no bicycle is found in a dock, none is in it
pub free_dock : (s : Operator) (station : List ℕ) (dock : ℕ) → AreBikesSound s → is_some (docked_view s (docked_at s station dock)) ≡ false → IsFree s (place.Dock station dock)
free_dock s station dock order none q y at n found e is = go (docked_at s station dock) refl none where
  typed : (b : ℕ × Bike) (t : Option TypeRow) → is_some t ≡ true → is_some (typed_bike b t) ≡ false → ⊥
  typed b None known h = absurd cc
  typed b (Some t) known h = absurd cc

  go : (o : Option (ℕ × Bike)) → docked_at s station dock ≡ o → is_some (docked_view s o) ≡ false → ⊥
  go None e_none h =
      let no = missed number_order (λ (b : Bike). is_dock station dock b.place) s.bikes q y e_none found in
      let here : y.place ≡ place.Dock station dock = is ∙ sym e in
      let yes : is_dock station dock y.place ≡ true = subst (λ (p : Place). is_dock station dock p ≡ true) (sym here) (dock_itself station dock) in
      cc
  go (Some b) e_some h =
      let f = found_by number_order (λ (z : Bike). is_dock station dock z.place) s.bikes b e_some in
      typed b (map.get s.types b.1.type_id) (order.bikes b.0 b.1 f.0).type_is h

-- ---- rentals

pub record IsRentalRow (s : Operator) (number : ℕ) (r : RentalView) : Type 0 where
  pub number_is : r.number ≡ number
  pub found : item_numbered number s.rentals ≡ Some r.rental

pub rental_row : (s : Operator) (number : ℕ) (r : RentalView) → rental_view s number (item_numbered number s.rentals) ≡ Some r → IsRentalRow s number r
rental_row s number r h = go (item_numbered number s.rentals) refl h where
  planned : (row : Rental) → item_numbered number s.rentals ≡ Some row → (p : Option PlanRow) → planned_rental s number row p ≡ Some r → IsRentalRow s number r
  planned row e None h = absurd cc
  planned row e (Some plan) h = record { number_is = ap number_in (sym h); found = e ∙ ap rental_in_view h } where
    number_in : Option RentalView → ℕ
    number_in None = number
    number_in (Some v) = v.number

    rental_in_view : Option RentalView → Option Rental
    rental_in_view None = None
    rental_in_view (Some v) = Some v.rental

  go : (o : Option Rental) → item_numbered number s.rentals ≡ o → rental_view s number o ≡ Some r → IsRentalRow s number r
  go None e h = absurd cc
  go (Some row) e h = planned row e (map.get s.plans row.plan) h

-- the bicycle is in the rental
pub record IsRiddenIn (s : Operator) (bike : ℕ) (r : RentalView) : Type 0 where
  pub row : Bike
  pub found : map.get s.bikes bike ≡ Some row
  pub placed : row.place ≡ place.Rental r.number
  pub rental : item_numbered r.number s.rentals ≡ Some r.rental

pub ridden_in : (s : Operator) (bike : ℕ) (r : RentalView) → rental_of s (map.get s.bikes bike) ≡ Some r → IsRiddenIn s bike r
ridden_in s bike r h = go (map.get s.bikes bike) refl h where
  placed : (b : Bike) → map.get s.bikes bike ≡ Some b → (p : Place) → b.place ≡ p → rental_in s p ≡ Some r → IsRiddenIn s bike r
  placed b e (place.Dock station dock) is h = absurd cc
  placed b e (place.Rental rental) is h =
      let x = rental_row s rental r h in
      record { row = b; found = e; placed = is ∙ ap place.Rental (sym x.number_is); rental = rw x.number_is x.found }
  placed b e (place.Truck truck order) is h = absurd cc
  placed b e place.Depot is h = absurd cc

  go : (o : Option Bike) → map.get s.bikes bike ≡ o → rental_of s o ≡ Some r → IsRiddenIn s bike r
  go None e h = absurd cc
  go (Some b) e h = placed b e b.place refl h
