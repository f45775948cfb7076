-- The load of an order that isn't there.
use Rattle.std.proofs.Common.{◌≡◌, ℕ, List, Bool, true, false, ◌==◌, None, refl, sym, ap, ◌∙◌}
use Rattle.bike_operator.specs.declared.records.Bike.{Bike}
use Rattle.bike_operator.specs.declared.records.Place.{Place}
use Rattle.bike_operator.specs.declared.records.Place.TheVariants as place
use Rattle.bike_operator.specs.Operator.{Operator, item_numbered}
use Rattle.bike_operator.specs.Counts.{is_for_order, order_load}
use Rattle.bike_operator.specs.Sound.{IsPlace, IsSound}
use Rattle.bike_laws.proofs.SingleSteps.CountLemmas.{none_counted}
use Rattle.bike_laws.proofs.SingleSteps.MapLemmas.{number_order}
use Rattle.bike_laws.proofs.SingleSteps.TestLemmas.{same_number}

-- no bicycle is on a truck for it
pub no_load : (s : Operator) (order : ℕ) → IsSound s → item_numbered order s.orders ≡ None → order_load s order ≡ 0
no_load s order sound none = none_counted number_order (λ (y : Bike). is_for_order order y.place) s.bikes (λ q y found. off q y.type_id y.place (sound.bikes.bikes q y found).placed) where
  apart : (on its : ℕ) (type_id : List ℕ) → IsPlace s on type_id (place.Truck on its) → (b : Bool) → (its == order) ≡ b → b ≡ false
  apart on its type_id carried false e = refl
  apart on its type_id carried true e =
      let there = sym (ap (λ n. item_numbered n s.orders) (same_number its order e) ∙ none) ∙ carried.found in
      absurd cc

  off : (q : ℕ) (type_id : List ℕ) (p : Place) → IsPlace s q type_id p → is_for_order order p ≡ false
  off q type_id (place.Dock station dock) is = refl
  off q type_id (place.Rental rental) is = refl
  off q type_id (place.Truck on its) is = apart on its type_id is (its == order) refl
  off q type_id place.Depot is = refl
