-- The counts of a station, counted type by type.
use Rattle.std.proofs.Common.{◌≡◌, ◌+◌, ◌++◌, ◌≤◌, ◌<◌, ℕ, List, [], ◌∷◌, length, take, map, get_or, Option, Some, None, sym, ap, subst, ◌∙◌, arith}
use Rattle.std.proofs.lemmas.List.{take_more, take_all, map_push}
use Rattle.std.specs.List.{sum_by}
use Rattle.std.specs.FinMap as fin
use Rattle.std.specs.Prelude.{option_map}
use Rattle.std.proofs.lemmas.Option.{same_Some}
use Rattle.bike_operator.specs.Operator.{Operator, Station}
use Rattle.bike_operator.specs.Counts.{available_of}
use Rattle.bike_operator.specs.Sound.{IsSound}
use Rattle.bike_laws.specs.SingleSteps.Numbers.{disabled_of}
use Rattle.bike_book.specs.ByType.{CountsLaw, counts_of, types_at}
use Rattle.bike_book.specs.declared.by_type.CountedType.{CountedType}
use Rattle.bike_book.specs.declared.by_type.TypeCounts.{TypeCounts}
use Rattle.bike_fleet_reads.specs.declared.stations.DockNumbers.{DockNumbers}
use Rattle.bike_fleet_reads.specs.declared.stations.StationNumbers.{StationNumbers}
use Rattle.bike_fleet_reads.specs.Fleet.{dock_numbers_of, numbers_pair}
use Rattle.bike_operator.specs.declared.station_info.Counts.{Counts}
use Rattle.bike_queries.specs.StationCounts.{told_count, Adds, AreCountsFor, AreCountsOf, AreCountsOfTypes, AreCountsTold, AreCountsWith, AreRising}
use Rattle.bike_queries.proofs.TypeOrder.{types_rise}
use Rattle.bike_queries.proofs.SumLaw.{sum_last, available_sum, disabled_sum}

-- ---- by what is told of the types

module _ (told : List CountedType) (docks : DockNumbers) where
  pub none_counted : (ids : List (List ℕ)) (c : Counts) → c.available ≡ 0 → c.disabled ≡ 0 → c.by_type.items ≡ [] → c.docks_available ≡ docks.free → c.docks_disabled ≡ docks.broken
      → AreCountsTold told docks (take 0 ids) c
  none_counted ids c available disabled none free broken =
      record { available = available; by_type = none; disabled = disabled; docks_available = free; docks_disabled = broken }

  one_more : (front : List (List ℕ)) (id copy : List ℕ) (old new : Counts) (counts : TypeCounts) → copy ≡ id → counts ≡ counts_of id told
      → Adds old copy counts new → AreCountsTold told docks front old → AreCountsTold told docks (front ++ id ∷ []) new
  one_more front id copy old new counts same counted adds was =
      let available_is : counts.available ≡ (counts_of id told).available = ap (λ (c : TypeCounts). c.available) counted in
      let disabled_is : counts.disabled ≡ (counts_of id told).disabled = ap (λ (c : TypeCounts). c.disabled) counted in
      let more = sum_last (λ (x : List ℕ). (counts_of x told).available) front id in
      let most = sum_last (λ (x : List ℕ). (counts_of x told).disabled) front id in
      record {
        available = omega (arith, adds.available, was.available, available_is, more);
        by_type = adds.by_type ∙ (λ i. was.by_type i ++ record { type_id = same i; count = available_is i } ∷ [])
            ∙ sym (map_push (told_count told) front id);
        disabled = omega (arith, adds.disabled, was.disabled, disabled_is, most);
        docks_available = adds.docks_available ∙ was.docks_available;
        docks_disabled = adds.docks_disabled ∙ was.docks_disabled;
      }

  pub next_counted : (ids : List (List ℕ)) (i : ℕ) (id copy : List ℕ) (old new : Counts) (counts : TypeCounts) → i < length ids
      → id ≡ get_or ids i id → copy ≡ id → counts ≡ counts_of id told → Adds old copy counts new → AreCountsTold told docks (take i ids) old
      → AreCountsTold told docks (take (i + 1) ids) new
  next_counted ids i id copy old new counts below is same counted adds was =
      subst (λ front. AreCountsTold told docks front new) (ap (λ x. take i ids ++ x ∷ []) is ∙ sym (take_more ids i id below))
      (one_more (take i ids) id copy old new counts same counted adds was)

  pub all_counted : (ids : List (List ℕ)) (i : ℕ) (c : Counts) → length ids ≤ i → AreCountsTold told docks (take i ids) c → AreCountsTold told docks ids c
  all_counted ids i c end was = subst (λ front. AreCountsTold told docks front c) (take_all i ids end) was

-- ---- a station's

module _ (s : Operator) (station : List ℕ) where
  -- the counts of all types are those of the station
  pub all_types : IsSound s → (x : Station) (ids : List (List ℕ)) (c : Counts) → ids ≡ fin.keys s.types → AreCountsOfTypes s station x ids c → AreCountsOf s station x c
  all_types sound x ids c named are =
      let all : AreCountsOfTypes s station x (fin.keys s.types) c = subst (λ k. AreCountsOfTypes s station x k c) named are in
      record {
        available = all.available ∙ available_sum s sound station;
        by_type = all.by_type;
        disabled = all.disabled ∙ disabled_sum s sound station;
        docks_available = all.docks_available;
        docks_disabled = all.docks_disabled;
      }

module _ (law : CountsLaw) (s : Operator) (station : List ℕ) where
  -- what is told of a station's types is so
  told_so : (docks : DockNumbers) (ids : List (List ℕ)) (c : Counts) → AreCountsTold (types_at s station) docks ids c → AreCountsWith s station docks ids c
  told_so docks ids c are =
      let available_is : (λ id. (counts_of id (types_at s station)).available) ≡ available_of s station = λ i id. (law s station id i).available in
      let disabled_is : (λ id. (counts_of id (types_at s station)).disabled) ≡ disabled_of s station = λ i id. (law s station id i).disabled in
      record {
        available = are.available ∙ ap (λ f. sum_by f ids) available_is;
        by_type = are.by_type ∙ (λ i. map (λ id. record { type_id = id; count = available_is i id }) ids);
        disabled = are.disabled ∙ ap (λ f. sum_by f ids) disabled_is;
        docks_available = are.docks_available;
        docks_disabled = are.docks_disabled;
      }

  -- with the docks of a station that is there
  pub types_shown : (x : Station) (ids : List (List ℕ)) (c : Counts) (numbers : StationNumbers) → numbers_pair numbers ≡ (dock_numbers_of s station x, types_at s station)
      → (AreRising numbers.by_type.items → AreCountsTold numbers.by_type.items numbers.docks ids c) → AreCountsOfTypes s station x ids c
  types_shown x ids c numbers are counted =
      told_so (dock_numbers_of s station x) ids c (subst (λ (n : DockNumbers × List CountedType). AreRising n.1 → AreCountsTold n.1 n.0 ids c) are counted (types_rise s station))

  pub counts_shown : IsSound s → (o : Option Station) (numbers : StationNumbers) (ids : List (List ℕ)) (c : Counts)
      → Some (numbers_pair numbers) ≡ option_map (λ x. (dock_numbers_of s station x, types_at s station)) o → ids ≡ fin.keys s.types
      → (AreRising numbers.by_type.items → AreCountsTold numbers.by_type.items numbers.docks ids c) → AreCountsFor s station o (Some c)
  counts_shown sound None numbers ids c is named counted = absurd cc
  counts_shown sound (Some x) numbers ids c is named counted =
      all_types s station sound x ids c named (types_shown x ids c numbers (same_Some (numbers_pair numbers) (dock_numbers_of s station x, types_at s station) is) counted)

pub no_counts_shown : (s : Operator) (station : List ℕ) (o : Option Station) → ◌≡◌ {A = Option (DockNumbers × List CountedType)} None (option_map (λ x. (dock_numbers_of s station x, types_at s station)) o)
    → AreCountsFor s station o None
no_counts_shown s station None is = tt
no_counts_shown s station (Some x) is = absurd cc
