-- The verdict on stations: of the row of each and of its numbers.
use Rattle.std.proofs.Common.{◌≡◌, ℕ, ℤ, leb, List, Bool, true, ◌&&◌, Option, Some, None, refl, sym, ap, ◌∙◌, subst, arith}
use Rattle.std.specs.Prelude.{nat_lt}
use Rattle.std.specs.Option.{IsSomeAnd}
use Rattle.std.proofs.lemmas.Bool.{and_parts, leb-true, le-leb}
use Rattle.std.proofs.lemmas.Bool.Decides.{nat_tests}
use Rattle.sqlite_value.specs.Order.{Row}
use Rattle.sqlite_rules.specs.Lists.{Has}
use Rattle.bike_operator.specs.declared.limits.TheConstants.{MOST_STATIONS}
use Rattle.bike_catalogue.specs.Rows.{RegionRow}
use Rattle.bike_operator.specs.Operator.{Station}
use Rattle.bike_book.specs.Tables.{Tables, Stations}
use Rattle.bike_book.specs.declared.columns.regions.TheConstants as regions
use Rattle.bike_book.specs.declared.columns.stations.TheConstants as stations
use Rattle.bike_readings.specs.Readings.{region_read, station_read}
use Rattle.bike_readings.proofs.CatalogueRows.{station_reading}
use Rattle.bike_readings.specs.ReadOff.{operator_of, moment_of}
use Rattle.bike_readings.specs.Demands.{IsGoodStation}
use Rattle.bike_readings.specs.Rules.{AreInOrder, row_under, rows_below, IsGoodKey}
use Rattle.bike_judges.specs.Lines.{part}
use Rattle.bike_judges.specs.Passes.{Demands, OfRow}
use Rattle.bike_judges.specs.Verdicts.{IsFirstFailing, IsTableVerdict}
use Rattle.bike_station_rules.specs.StationRows.{has_region, stands_well}
use Rattle.bike_station_rules.specs.StationVerdicts.{with_region, is_good_row, is_accounted}
use Rattle.bike_station_rules.proofs.OfRows.{IsTestOf, demands_good, good_demands, same_verdict}
use Rattle.bike_station_rules.proofs.DockTest.{AreWide}
use Rattle.bike_station_rules.proofs.RegionLines.{own_part, region_is}
use Rattle.bike_station_rules.proofs.StationTest.{HasNumbers, with_all_good, good_with_all}

-- ---- what is demanded of a station

module _ (t : Tables) (up : AreInOrder t) (wide : AreWide t) (now : ℕ) (now_is : now ≡ moment_of t) where
  abbrev both : ℕ → Row → Bool
  both n row = is_good_row now t n row && is_accounted t n row

  -- the region of a station, where its line has it
  abbrev region_beside : Row → Option (List ℕ × RegionRow)
  region_beside row = region_read (part stations.COLUMNS regions.COLUMNS (with_region t row))

  -- what is asked of the row of a station
  asked : (below : ℕ) (row : Row) → Has t.stations row → is_good_row now t below row ≡ stands_well now below (station_read row) (region_beside row)
  asked below row has = ap (λ (r : Row). stands_well now below (station_read r) (region_beside row)) (own_part t up wide row has)

  station_good : (below : ℕ) (row : Row) → Has t.stations row → both below row ≡ true → IsSomeAnd (station_read row) (IsGoodStation (operator_of t) below)
  station_good below row has is =
      let parts = and_parts (is_good_row now t below row) (is_accounted t below row) is in
      go (station_read row) refl (sym (asked below row has) ∙ parts.0) (with_all_good t up wide row has below parts.1)
    where
      go : (o : Option (List ℕ × Station × ℤ × ℕ × List ℕ)) → station_read row ≡ o → stands_well now below o (region_beside row) ≡ true → IsSomeAnd o (HasNumbers t up wide)
          → IsSomeAnd o (IsGoodStation (operator_of t) below)
      go None e room numbers = absurd cc
      go (Some x) e room numbers =
          let law = (station_reading.sound row x e).1 in
          let there = and_parts (nat_lt below MOST_STATIONS && leb x.1.reported now) (has_region x.1.region (region_beside row)) room in
          let two = and_parts (nat_lt below MOST_STATIONS) (leb x.1.reported now) there.0 in
          let fits = two.0 in
          let by = ap (leb x.1.reported) (sym now_is) ∙ two.1 in
          record {
            room = grind (arith, nat_tests, fits);
            good = record { id_is = law.id_is; good = law.good; by_now = leb-true x.1.reported (moment_of t) by; region = sym (region_is t up wide row x has e) ∙ there.1 };
            free_is = numbers.free_is;
            broken_is = numbers.broken_is;
            by_type_is = numbers.by_type_is;
          }

  good_station : (below : ℕ) (row : Row) → Has t.stations row → IsSomeAnd (station_read row) (IsGoodStation (operator_of t) below) → both below row ≡ true
  good_station below row has good = go (station_read row) refl good where
    go : (o : Option (List ℕ × Station × ℤ × ℕ × List ℕ)) → station_read row ≡ o → IsSomeAnd o (IsGoodStation (operator_of t) below) → both below row ≡ true
    go None e g = absurd g
    go (Some x) e g =
        let room = g.room in
        let fits : nat_lt below MOST_STATIONS ≡ true = grind (arith, nat_tests, room) in
        let by : leb x.1.reported now ≡ true = ap (leb x.1.reported) now_is ∙ le-leb x.1.reported (moment_of t) g.good.by_now in
        let there = region_is t up wide row x has e ∙ g.good.region in
        let alone : is_good_row now t below row ≡ true = asked below row has ∙ ap (λ (o : Option (List ℕ × Station × ℤ × ℕ × List ℕ)). stands_well now below o (region_beside row)) e ∙ (λ i. ((fits i && by i) && there i)) in
        let numbers : IsSomeAnd (station_read row) (HasNumbers t up wide) = subst (λ (o : Option (List ℕ × Station × ℤ × ℕ × List ℕ)). IsSomeAnd o (HasNumbers t up wide)) (sym e) (record { free_is = g.free_is; broken_is = g.broken_is; by_type_is = g.by_type_is }) in
        let accounted : is_accounted t below row ≡ true = good_with_all t up wide row has below numbers in
        (λ i. (alone i && accounted i))

  station_test : IsTestOf t Stations both
  station_test = record { good = station_good; passes = good_station }

  abbrev pub Both : Row → Type 0
  Both key = Demands t Stations (is_good_row now t) key × Demands t Stations (is_accounted t) key

  two_of : (n : ℕ) (o : Option Row) → OfRow both n o → OfRow (is_good_row now t) n o × OfRow (is_accounted t) n o
  two_of n None h = (tt, tt)
  two_of n (Some row) h = let parts = and_parts (is_good_row now t n row) (is_accounted t n row) h in (parts.0, parts.1)

  of_two : (n : ℕ) (o : Option Row) → OfRow (is_good_row now t) n o → OfRow (is_accounted t) n o → OfRow both n o
  of_two n None a b = tt
  of_two n (Some row) a b = λ i. (a i && b i)

  -- the lesser of the two keys is the first bad one
  pub station_verdict : (v : Option Row) → IsFirstFailing t Stations Both v → IsTableVerdict t Stations v
  station_verdict v =
      same_verdict t Stations Both (IsGoodKey t Stations)
      (λ key two. demands_good t Stations both station_test (λ k. tt) key (of_two (rows_below t Stations key) (row_under t Stations key) two.0 two.1))
      (λ key good. two_of (rows_below t Stations key) (row_under t Stations key) (good_demands t Stations both station_test (λ k. tt) key good))
      v
