-- Where none of a station's docks is broken, no dock there is: a broken dock is one that its station has.
use Rattle.std.proofs.Common.{◌≡◌, ◌≤◌, ◌+◌, ◌==◌, ◌⊎◌, inl, inr, ℕ, zero, suc, List, [], ◌∷◌, ◌++◌, Bool, true, false, Option, Some, None, option_map, refl, sym, ap, ◌∙◌, arith}
use Rattle.std.specs.FinMap as fin
use Rattle.std.proofs.lemmas.Bool.Decides.{eqb_tells, nat_tests}
use Rattle.bike_operator.specs.Operator.{Operator, Station, dock_key}
use Rattle.bike_operator.specs.Counts.{count, is_broken, docks_up_to, docks_broken}
use Rattle.bike_laws.specs.SingleSteps.Laws.{one}
use Rattle.bike_laws.proofs.SingleSteps.StoredCountLemmas.{count_last}
use Rattle.bike_book.specs.declared.by_type.CountedType.{CountedType}
use Rattle.bike_book.specs.ByType.{types_at}
use Rattle.bike_fleet_reads.specs.declared.stations.DockNumbers.{DockNumbers}
use Rattle.bike_fleet_reads.specs.declared.stations.StationNumbers.{StationNumbers}
use Rattle.bike_fleet_reads.specs.Fleet.{dock_numbers_of, has_broken, numbers_pair, NoDockIsBroken}

-- a broken dock of the first ones counts
broken_counts : (s : Operator) (station : List ℕ) (dock : ℕ) → 1 ≤ dock → is_broken s station dock ≡ true → (docks : ℕ) → dock ≤ docks → 1 ≤ docks_broken s station docks
unfolding docks_up_to
broken_counts s station dock low broken zero high = absurd (omega (arith, low, high))
broken_counts s station dock low broken (suc d) high =
    go (broken_counts s station dock low broken d) (count_last (λ n. is_broken s station n) (docks_up_to d) (suc d)) (eqb_tells dock (suc d))
  where
    go : (dock ≤ d → 1 ≤ docks_broken s station d) → count (λ n. is_broken s station n) (docks_up_to d ++ suc d ∷ [])
        ≡ count (λ n. is_broken s station n) (docks_up_to d) + one (is_broken s station (suc d))
        → ((dock == suc d) ≡ true) × (dock ≡ suc d) ⊎ ((dock == suc d) ≡ false) × (dock ≡ suc d → ⊥) → 1 ≤ count (λ n. is_broken s station n) (docks_up_to d ++ suc d ∷ [])
    go less last (inl same) = let here : one (is_broken s station (suc d)) ≡ 1 = ap (λ n. one (is_broken s station n)) (sym same.1) ∙ ap one broken in omega (arith, last, here)
    go less last (inr other) = let rest = less (let apart = other.1 in omega (arith, apart, high)) in omega (arith, last, rest)

pub none_broken : (numbers : Option StationNumbers) → has_broken numbers ≡ false → NoDockIsBroken numbers
none_broken numbers none s station sound read dock = go (is_broken s station dock) refl where
  -- by its numbers the station that has it has a broken dock
  counted : (row : Station) (o : Option Station) → o ≡ Some row → (n : Option StationNumbers) → option_map numbers_pair n ≡ option_map (λ x. (dock_numbers_of s station x, types_at s station)) o
      → has_broken n ≡ false
      → docks_broken s station row.row.docks ≡ 0
  counted row None there n is works = absurd cc
  counted row (Some x) there None is works = absurd cc
  counted row (Some x) there (Some n) is works =
      let same : x ≡ row = cc in
      let pair : numbers_pair n ≡ (dock_numbers_of s station x, types_at s station) = cc in
      let broken : n.docks.broken ≡ docks_broken s station x.row.docks = ap (λ (m : DockNumbers × List CountedType). m.0.broken) pair in
      let zero : n.docks.broken ≡ 0 = grind (arith, nat_tests, works) in
      ap (λ (y : Station). docks_broken s station y.row.docks) (sym same) ∙ sym broken ∙ zero

  go : (b : Bool) → is_broken s station dock ≡ b → b ≡ false
  go false is = refl
  go true is =
      let it = sound.catalogue.broken (dock_key station dock) is in
      let keys : dock_key station dock ≡ dock_key it.station it.dock = it.key_is in
      let at : station ≡ it.station = cc in
      let number : dock ≡ it.dock = cc in
      let there : fin.get s.stations station ≡ Some it.has.row = ap (fin.get s.stations) at ∙ it.has.found in
      let none = counted it.has.row (fin.get s.stations station) there numbers read none in
      let low = it.has.low in
      let high = it.has.high in
      let some = broken_counts s station dock (omega (arith, number, low)) is it.has.row.row.docks (omega (arith, number, high)) in
      absurd (omega (arith, none, some))
