-- A dock marked: what each number of each station becomes.
use Rattle.std.proofs.Common.{◌≡◌, ℕ, ◌+◌, ◌≤◌, List, Bool, true, false, cond, not, ◌&&◌, ◌||◌, ◌==◌, Option, Some, None, option_map, refl, sym, ap, ◌∙◌, arith}
use Rattle.std.specs.Str.{bytes_eq}
use Rattle.std.specs.Ordering.{nat_cmp, eq_by_cmp}
use Rattle.std.specs.Cmp.{eq_by_cmp_equiv}
use Rattle.std.specs.FinMap as map
use Rattle.std.specs.FinMap.{FinMap}
use Rattle.std.specs.FinSet as set
use Rattle.std.specs.FinSet.{FinSet}
use Rattle.std.proofs.lemmas.Slice.Eq.{bytes_eq-Decides}
use Rattle.std.proofs.lemmas.Bool.{eq-eqb}
use Rattle.bike_operator.specs.declared.records.Place.{Place}
use Rattle.bike_operator.specs.declared.records.Place.TheVariants as place
use Rattle.bike_operator.specs.declared.records.Bike.{Bike}
use Rattle.bike_operator.specs.Operator.{Operator, texts_cmp, dock_key}
use Rattle.bike_operator.specs.Counts.{count, is_dock, is_at, is_fit, is_broken, is_working_dock, docked_at, docks_up_to, docks_broken}
use Rattle.bike_operator.specs.Sound.{AreBikesSound}
use Rattle.bike_laws.proofs.SingleSteps.MapLemmas.{number_order, texts_order, tied}
use Rattle.bike_laws.specs.SingleSteps.Numbers.{is_available_of, is_disabled_of}
use Rattle.bike_laws.specs.SingleSteps.Laws.{one, share, docked_bike, is_free, HasMarked, MarkLaw}
use Rattle.bike_laws.proofs.SingleSteps.StoredCountLemmas.{count_same, count_turned, found_share, dock_turned}
use Rattle.bike_laws.proofs.SingleSteps.DockLaw.{docked_once}

-- keys that tie are those of one dock
same_dock : (a b : List ℕ) (m n : ℕ) → eq_by_cmp texts_cmp (dock_key a m) (dock_key b n) ≡ true → (a ≡ b) × (m ≡ n)
same_dock a b m n h = let e = tied texts_order (dock_key a m) (dock_key b n) h in (cc, cc)

in_or : (b c : Bool) → (b || c) ≡ cond b true c
in_or true c = refl
in_or false c = refl

in_and : (b c : Bool) → (not b && c) ≡ cond b false c
in_and true c = refl
in_and false c = refl

module _ (s next : Operator) (at : List ℕ) (n : ℕ) (broken : Bool) (h : HasMarked s next at n broken) where
  marked_at : (station : List ℕ) (m : ℕ) → is_broken next station m ≡ cond (eq_by_cmp texts_cmp (dock_key station m) (dock_key at n)) broken (is_broken s station m)
  marked_at station m = ap (λ (b : FinSet texts_cmp). set.contains b (dock_key station m)) h.marks ∙ go broken where
    go : (b : Bool) → set.contains (cond b (set.insert s.broken (dock_key at n)) (set.remove s.broken (dock_key at n))) (dock_key station m)
        ≡ cond (eq_by_cmp texts_cmp (dock_key station m) (dock_key at n)) b (is_broken s station m)
    go true = set.contains-insert texts_order.total s.broken (dock_key at n) (dock_key station m) ∙ in_or (eq_by_cmp texts_cmp (dock_key station m) (dock_key at n)) (is_broken s station m)
    go false = set.contains-remove texts_order.total s.broken (dock_key at n) (dock_key station m) ∙ in_and (eq_by_cmp texts_cmp (dock_key station m) (dock_key at n)) (is_broken s station m)

  -- the dock itself
  pub marked_here : is_broken next at n ≡ broken
  marked_here = marked_at at n ∙ ap (λ b. cond b broken (is_broken s at n)) ((eq_by_cmp_equiv texts_order.total).refl (dock_key at n))

  -- any other
  pub marked_other : (station : List ℕ) (m : ℕ) → ((station ≡ at) → (m ≡ n) → ⊥) → is_broken next station m ≡ is_broken s station m
  marked_other station m apart = marked_at station m ∙ go (eq_by_cmp texts_cmp (dock_key station m) (dock_key at n)) refl where
    go : (b : Bool) → eq_by_cmp texts_cmp (dock_key station m) (dock_key at n) ≡ b → cond b broken (is_broken s station m) ≡ is_broken s station m
    go true e = let same = same_dock station at m n e in absurd (apart same.0 same.1)
    go false e = refl

  docked_same : (station : List ℕ) (m : ℕ) → docked_at next station m ≡ docked_at s station m
  docked_same station m = ap (λ (b : FinMap nat_cmp Bike). docked_at (record s { bikes = b }) station m) h.bikes

  free_other : (station : List ℕ) (m : ℕ) → ((station ≡ at) → (m ≡ n) → ⊥) → is_free next station m ≡ is_free s station m
  free_other station m apart = rw (docked_same station m, marked_other station m apart) refl

  -- a bicycle that isn't in the dock stands in a working one as before
  works_same : (station : List ℕ) (p : Place) → is_dock at n p ≡ false → is_working_dock next station p ≡ is_working_dock s station p
  works_same station (place.Dock there dock) apart = go (bytes_eq there station) refl where
    go : (b : Bool) → bytes_eq there station ≡ b → (b && not (is_broken next station dock)) ≡ (b && not (is_broken s station dock))
    go true same =
        ap not (marked_other station dock (λ e f.
        let here : there ≡ at = (bytes_eq-Decides there station).0 same ∙ e in
        let a : bytes_eq there at ≡ true = (bytes_eq-Decides there at).1 here in
        let c : (dock == n) ≡ true = eq-eqb dock n f in
        let yes : is_dock at n (place.Dock there dock) ≡ true = rw (a, c) refl in
        absurd (let no = apart in cc)))
    go false same = refl
  works_same station (place.Rental rental) apart = refl
  works_same station (place.Truck truck order) apart = refl
  works_same station place.Depot apart = refl

  share_is : (t : Bike → Bool) (o : Option (ℕ × Bike)) → found_share number_order.total t o ≡ share t (option_map (λ b. b.1) o)
  share_is t None = refl
  share_is t (Some b) = refl

  module _ (sound : AreBikesSound s) where
    -- two tests that differ at most in the dock
    mark_count : (t u : Bike → Bool) → ((b : Bike) → is_dock at n b.place ≡ false → t b ≡ u b)
        → count (λ e. u e.1) (map.entries next.bikes) + share t (docked_bike s at n) ≡ count (λ e. t e.1) (map.entries s.bikes) + share u (docked_bike s at n)
    mark_count t u same =
        let turned = count_turned number_order.total t u (λ (b : Bike). is_dock at n b.place) (map.entries s.bikes) (map.entries_sorted s.bikes) (docked_once s sound at n) (λ e has. same e.1) in
        let a = share_is t (docked_at s at n) in
        let b = share_is u (docked_at s at n) in
        let now : count (λ (e : ℕ × Bike). u e.1) (map.entries next.bikes) ≡ count (λ (e : ℕ × Bike). u e.1) (map.entries s.bikes) = ap (λ (m : FinMap nat_cmp Bike). count (λ (e : ℕ × Bike). u e.1) (map.entries m)) h.bikes in
        omega (arith, turned, a, b, now)

    broken_docks : (docks : ℕ) → 1 ≤ n → n ≤ docks → docks_broken next at docks + one (is_broken s at n) ≡ docks_broken s at docks + one broken
    broken_docks docks low high =
        dock_turned (λ m. is_broken s at m) (λ m. is_broken next at m) n (λ m apart. sym (marked_other at m (λ e f. apart f))) docks low high
        ∙ ap (λ (b : Bool). docks_broken s at docks + one b) marked_here

    -- THE LAW OF A DOCK MARKED
    pub mark_law : MarkLaw s next at n broken
    mark_law = record {
      mark = marked_here;
      available = λ station type_id. mark_count (is_available_of s station type_id) (is_available_of next station type_id) (λ b apart.
          ap (λ w. bytes_eq b.type_id type_id && (is_fit b.state && w)) (sym (works_same station b.place apart)));
      disabled = λ station type_id. mark_count (is_disabled_of s station type_id) (is_disabled_of next station type_id) (λ b apart.
          ap (λ w. bytes_eq b.type_id type_id && (is_at station b.place && not (is_fit b.state && w))) (sym (works_same station b.place apart)));
      occupied = λ station. mark_count (λ b. is_working_dock s station b.place) (λ b. is_working_dock next station b.place) (λ b apart. sym (works_same station b.place apart));
      free_docks = λ docks low high. dock_turned (λ m. is_free s at m) (λ m. is_free next at m) n (λ m apart. sym (free_other at m (λ e f. apart f))) docks low high;
      broken_docks = broken_docks;
      other_docks = λ other docks apart. (
        count_same (λ m. is_free next other m) (λ m. is_free s other m) (docks_up_to docks) (λ m has. free_other other m (λ e f. apart e)),
        count_same (λ m. is_broken next other m) (λ m. is_broken s other m) (docks_up_to docks) (λ m has. marked_other other m (λ e f. apart e)),
      );
    }
