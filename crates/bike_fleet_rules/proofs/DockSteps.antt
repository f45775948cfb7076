-- What is left of the pass over bicycles in docks, after one more line.
use Rattle.std.proofs.Common.{◌≡◌, ℕ, List, [], ◌∷◌, Bool, false, cond, Option, Some, None, refl, sym, ap, ◌∙◌}
use Rattle.std.specs.Prelude.{option_map, option_and_then}
use Rattle.std.specs.List.{filter_map, cons_option}
use Rattle.sqlite_value.specs.Order.{Row}
use Rattle.bike_operator.specs.declared.records.Place.{Place}
use Rattle.bike_operator.specs.declared.records.Place.TheVariants as place
use Rattle.bike_fleet_rules.specs.Docks.{Docked, docked_at, docked_in, is_dock, is_one_dock, shared_by, lesser_number, found_with, shared_pass, dock_pass, number_row}

pub pass_end : (last : Option Docked) (found : Option ℕ) → dock_pass last found [] ≡ found
unfolding dock_pass shared_pass
pass_end last found = refl

pass_none : (last : Option Docked) (found : Option ℕ) (line : Row) (left : List Row) → docked_in line ≡ None → dock_pass last found (line ∷ left) ≡ dock_pass last found left
unfolding dock_pass
pass_none last found line left is = ap (λ (o : Option Docked). shared_pass last found (cons_option o (filter_map docked_in left))) is

pass_some : (last : Option Docked) (found : Option ℕ) (line : Row) (left : List Row) (d : Docked) → docked_in line ≡ Some d
    → dock_pass last found (line ∷ left) ≡ dock_pass (Some d) (found_with last found d) left
unfolding dock_pass shared_pass
pass_some last found line left d is = ap (λ (o : Option Docked). shared_pass last found (cons_option o (filter_map docked_in left))) is

-- the number of a bicycle in a dock
pub bike_docked : (n : ℕ) (p : Place) → option_map (λ (d : Docked). d.bike) (docked_at n p) ≡ cond (is_dock p) (Some n) None
bike_docked n (place.Dock station dock) = refl
bike_docked n (place.Rental rental) = refl
bike_docked n (place.Truck truck order) = refl
bike_docked n place.Depot = refl

-- none is shared with what isn't there
pub none_shared : (o : Option Docked) → shared_by None o ≡ false
none_shared None = refl
none_shared (Some d) = refl

-- whether a dock is shared isn't a matter of numbers
pub any_numbers : (m n : ℕ) (p q : Place) → shared_by (docked_at m p) (docked_at n q) ≡ is_one_dock p q
any_numbers m n (place.Dock station dock) (place.Dock at number) = refl
any_numbers m n (place.Dock station dock) (place.Rental rental) = refl
any_numbers m n (place.Dock station dock) (place.Truck truck order) = refl
any_numbers m n (place.Dock station dock) place.Depot = refl
any_numbers m n (place.Rental rental) (place.Dock at number) = refl
any_numbers m n (place.Rental rental) (place.Rental other) = refl
any_numbers m n (place.Rental rental) (place.Truck truck order) = refl
any_numbers m n (place.Rental rental) place.Depot = refl
any_numbers m n (place.Truck truck order) (place.Dock at number) = refl
any_numbers m n (place.Truck truck order) (place.Rental rental) = refl
any_numbers m n (place.Truck truck order) (place.Truck other another) = refl
any_numbers m n (place.Truck truck order) place.Depot = refl
any_numbers m n place.Depot (place.Dock at number) = refl
any_numbers m n place.Depot (place.Rental rental) = refl
any_numbers m n place.Depot (place.Truck truck order) = refl
any_numbers m n place.Depot place.Depot = refl

abbrev Comes : Option Row → Option ℕ → List Row → Option Row → Type 0
Comes last found lines verdict = option_map number_row (dock_pass (option_and_then docked_in last) found lines) ≡ verdict

-- a line of no bicycle in a dock
pub step_none : (last : Option Row) (found : Option ℕ) (line : Row) (left : List Row) (verdict : Option Row) → None ≡ option_map (λ (d : Docked). d.bike) (docked_in line)
    → Comes last found (line ∷ left) verdict
    → Comes last found left verdict
step_none last found line left verdict none comes = go (docked_in line) refl none where
  go : (o : Option Docked) → docked_in line ≡ o → None ≡ option_map (λ (d : Docked). d.bike) o → Comes last found left verdict
  go None e is = ap (option_map number_row) (sym (pass_none (option_and_then docked_in last) found line left e)) ∙ comes
  go (Some d) e is = absurd cc

-- a line of a bicycle in a dock
pub step_some : (last : Option Row) (found next : Option ℕ) (line : Row) (left : List Row) (verdict : Option Row) (bike : ℕ) (shared : Bool)
    → Some bike ≡ option_map (λ (d : Docked). d.bike) (docked_in line)
    → shared ≡ shared_by (option_and_then docked_in last) (docked_in line) → next ≡ cond shared (lesser_number found bike) found → Comes last found (line ∷ left) verdict
    → Comes (Some line) next left verdict
step_some last found next line left verdict bike shared some shares now comes = go (docked_in line) refl some shares where
  go : (o : Option Docked) → docked_in line ≡ o → Some bike ≡ option_map (λ (d : Docked). d.bike) o → shared ≡ shared_by (option_and_then docked_in last) o → Comes (Some line) next left verdict
  go None e is s = absurd cc
  go (Some d) e is s =
      let own : bike ≡ d.bike = cc in
      let new : next ≡ found_with (option_and_then docked_in last) found d = now ∙ (λ i. cond (s i) (lesser_number found (own i)) found) in
      ap (option_map number_row) ((λ i. dock_pass (e i) (new i) left) ∙ sym (pass_some (option_and_then docked_in last) found line left d e)) ∙ comes
