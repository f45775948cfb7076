-- The operator of which nothing was asked yet is sound.
use Rattle.std.proofs.Common.{◌≡◌, ℕ, zero, suc, ◌-◌, ◌+ℤ◌, pos, List, [], ◌∷◌, length, true, Some, refl, sym, ap, ◌∙◌, arith}
use Rattle.std.specs.FinMap as finmap
use Rattle.std.specs.FinSet as finset
use Rattle.std.specs.Ordering.{nat_cmp}
use Rattle.std.proofs.lemmas.Int.{ints}
use Rattle.bike_catalogue.specs.Rows.{PlanRow, TypeRow, RegionRow}
use Rattle.bike_operator.specs.declared.records.Bike.{Bike}
use Rattle.bike_operator.specs.Operator.{none_numbered, item_in, Station, Truck, Rider, Key, NameKey, text_cmp, texts_cmp, no_operator, item_numbered}
use Rattle.bike_fields.specs.declared.name_kind.NameKind.{NameKind}
use Rattle.bike_operator.specs.Counts.{count}
use Rattle.bike_operator.specs.Names.{is_name_of, further_names}
use Rattle.bike_operator.specs.Sound.{IsHistory, IsSound, IsCatalogueSound, AreNamesSound, AreBikesSound, AreOrdersSound, AreRentalsSound, IsLedgerSound, IsSumOf, IsPast, befores}
use Rattle.bike_laws.proofs.SingleSteps.NameLemmas.{names_counted}

no_number : {A : Type 0} (n : ℕ) (x : A) → item_numbered n none_numbered ≡ Some x → ⊥
no_number n x e = go (n - 0) e where
  go : (k : ℕ) → item_in k [] ≡ Some x → ⊥
  go zero i = absurd cc
  go (suc k) i = absurd cc

no_plan : (id : List ℕ) (x : PlanRow) → finmap.get (finmap.empty {X = PlanRow} {R = text_cmp}) id ≡ Some x → ⊥
no_plan id x e = let none = finmap.get-empty {X = PlanRow} text_cmp id in absurd cc

no_type : (id : List ℕ) (x : TypeRow) → finmap.get (finmap.empty {X = TypeRow} {R = text_cmp}) id ≡ Some x → ⊥
no_type id x e = let none = finmap.get-empty {X = TypeRow} text_cmp id in absurd cc

no_region : (id : List ℕ) (x : RegionRow) → finmap.get (finmap.empty {X = RegionRow} {R = text_cmp}) id ≡ Some x → ⊥
no_region id x e = let none = finmap.get-empty {X = RegionRow} text_cmp id in absurd cc

no_station : (id : List ℕ) (x : Station) → finmap.get (finmap.empty {X = Station} {R = text_cmp}) id ≡ Some x → ⊥
no_station id x e = let none = finmap.get-empty {X = Station} text_cmp id in absurd cc

no_key : (X : Type 0) (n : ℕ) (x : X) → finmap.get (finmap.empty {X = X} {R = nat_cmp}) n ≡ Some x → ⊥
no_key X n x e = let none = finmap.get-empty {X = X} nat_cmp n in absurd cc

none_history : IsHistory 0 none_numbered
none_history = record {
  requests = λ n a e. absurd (no_number n a e);
  once = λ m n a b e f same. absurd (no_number m a e);
  in_order = λ m n a b e f within. absurd (no_number m a e);
}

no_name : (key : NameKey) (name : List ℕ) → finmap.get (finmap.empty {X = List ℕ} {R = texts_cmp}) key ≡ Some name → ⊥
no_name key name e = let none = finmap.get-empty {X = List ℕ} texts_cmp key in absurd cc

no_broken : (key : Key) → finset.contains (finset.empty {R = texts_cmp}) key ≡ true → ⊥
no_broken key e = let none = finset.contains-empty texts_cmp key in absurd cc

none_catalogue : IsCatalogueSound no_operator
none_catalogue = record {
  system = tt;
  plans = λ id x e. absurd (no_plan id x e);
  types = λ id x e. absurd (no_type id x e);
  regions = λ id x e. absurd (no_region id x e);
  stations = λ id x e. absurd (no_station id x e);
  broken = λ key e. absurd (no_broken key e);
  few_plans = omega (arith, finmap.len-empty text_cmp PlanRow);
  few_types = omega (arith, finmap.len-empty text_cmp TypeRow);
  few_regions = omega (arith, finmap.len-empty text_cmp RegionRow);
  few_stations = omega (arith, finmap.len-empty text_cmp Station);
}

none_bikes : AreBikesSound no_operator
none_bikes = record { bikes = λ n b e. absurd (no_key Bike n b e); apart = λ a b x y station dock e f p q. absurd (no_key Bike a x e); few = omega (arith, finmap.len-empty nat_cmp Bike) }

none_orders : AreOrdersSound no_operator
none_orders = record { trucks = λ n t e. absurd (no_key Truck n t e); orders = λ n o e. absurd (no_number n o e); few_trucks = omega (arith, finmap.len-empty nat_cmp Truck); few_orders = omega arith; all_orders = refl }

none_rentals : AreRentalsSound no_operator
none_rentals = record { rentals = λ n r e. absurd (no_number n r e); riding = λ a b q r e f p i same. absurd (no_number a q e); few_rentals = omega arith }

no_items : {A : Type 0} (xs : List A) → length xs ≡ 0 → xs ≡ []
no_items [] e = refl
no_items (x ∷ xs) e = absurd (omega arith)

none_sum : IsSumOf 0 (pos 0)
none_sum = record { low = omega (arith, ints); high = omega (arith, ints) }

none_past : IsPast no_operator
none_past = record {
  cash = none_sum;
  revenue = none_sum;
  conserved = let none = no_items (finmap.entries no_operator.riders) (sym (finmap.len-entries no_operator.riders) ∙ finmap.len-empty nat_cmp Rider) in ap (λ es. befores es +ℤ pos 0) none;
}

none_ledger : IsLedgerSound no_operator
none_ledger =
    record { riders = λ n r e. absurd (no_key Rider n r e); past = none_past; entries = λ n e i. absurd (no_number n e i); few_riders = omega (arith, finmap.len-empty nat_cmp Rider); few_entries = omega arith }

none_further : (kind : NameKind) (id : List ℕ) → length (further_names no_operator kind id) ≡ 0
none_further kind id =
    let names = no_operator.more_names in
    let none : finmap.entries names ≡ [] = no_items (finmap.entries names) (sym (finmap.len-entries names) ∙ finmap.len-empty texts_cmp (List ℕ)) in
    names_counted no_operator kind id ∙ ap (count (λ (e : NameKey × List ℕ). is_name_of kind id e.0)) none

none_names : AreNamesSound no_operator
none_names = record { names = λ key name e. absurd (no_name key name e); few = λ kind id. let none = none_further kind id in omega (arith, none) }

pub none_sound : IsSound no_operator
none_sound = record {
  catalogue = none_catalogue;
  bikes = none_bikes;
  orders = none_orders;
  rentals = none_rentals;
  ledger = none_ledger;
  history = none_history;
  names = none_names;
  now = omega arith;
}
