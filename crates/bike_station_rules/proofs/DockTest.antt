-- The test of docks says what is demanded of them.
use Rattle.std.proofs.Common.{◌≡◌, ℕ, ℤ, ◌≤◌, ◌++◌, List, [], ◌∷◌, length, map, Bool, true, Option, Some, None, refl, sym, ap, ◌∙◌, subst, arith}
use Rattle.std.proofs.lemmas.Bool.{leb-true, le-leb}
use Rattle.std.proofs.lemmas.List.{take-append-le}
use Rattle.std.proofs.Math.Seq.{take-append_seam, take-length}
use Rattle.std.specs.Prelude.{take, option_map, option_and_then}
use Rattle.std.specs.Option.{IsSomeAnd}
use Rattle.std.specs.FinMap as fin
use Rattle.sqlite_value.specs.declared.value.Value.TheVariants.{Text}
use Rattle.sqlite_value.specs.Order.{Row, column}
use Rattle.sqlite_rules.specs.Lists.{Has}
use Rattle.bike_sql.specs.View.{row_with, partner}
use Rattle.bike_operator.specs.Operator.{Station}
use Rattle.bike_book.specs.Tables.{TableName, Tables, rows_in, Stations, Docks}
use Rattle.bike_book.specs.declared.columns.stations.TheConstants as stations
use Rattle.bike_book.specs.declared.columns.docks.TheConstants as docks
use Rattle.bike_book.proofs.Keys.{texts}
use Rattle.bike_schema.specs.Layouts.{layout_of}
use Rattle.bike_readings.specs.Readings.{station_read, dock_read}
use Rattle.bike_readings.proofs.CatalogueRows.{station_reading, dock_reading}
use Rattle.bike_readings.specs.ReadOff.{operator_of, station_in}
use Rattle.bike_readings.specs.Demands.{IsGoodDock}
use Rattle.bike_readings.specs.Rules.{AreInOrder, IsGoodKey}
use Rattle.bike_readings.proofs.Places.{under_has}
use Rattle.bike_readings.proofs.RowRules.{some_with}
use Rattle.bike_readings.proofs.ReadRows.{mapped}
use Rattle.bike_judges.specs.Lines.{or_nulls, with_one, part, nulls}
use Rattle.bike_judges.specs.Passes.{Demands}
use Rattle.bike_judges.proofs.Lookups.{found_at, station_key}
use Rattle.bike_station_rules.specs.Docks.{has_dock, is_good_dock}
use Rattle.bike_judges.specs.Verdicts.{IsFirstFailing, IsTableVerdict}
use Rattle.bike_station_rules.proofs.OfRows.{IsTestOf, demands_good, good_demands, same_verdict}

-- each row has as many columns as its table
abbrev pub AreWide : Tables → Type 0
AreWide t = (name : TableName) (r : Row) → Has (rows_in t name) r → length r ≡ length (layout_of name).columns

pub take_all : (n : ℕ) (row : Row) → length row ≡ n → take n row ≡ row
take_all n row is = ap (λ (k : ℕ). take k row) (sym is) ∙ take-length row

pub take_front : (n : ℕ) (row rest : Row) → length row ≡ n → take n (row ++ rest) ≡ row
take_front n row rest is = ap (λ (k : ℕ). take k (row ++ rest)) (sym is) ∙ take-append_seam row rest

-- what a partner is read as
pub read_partner : {A : Type 0} (read : Row → Option A) (width : ℕ) → read (take width (nulls width)) ≡ None → (p : Option Row) → ((r : Row) → p ≡ Some r → length r ≡ width)
    → read (take width (or_nulls width p)) ≡ option_and_then read p
read_partner read width none None wide = none
read_partner read width none (Some r) wide = ap read (take_all width r (wide r refl))

module _ (t : Tables) (up : AreInOrder t) (wide : AreWide t) where
  -- what stands in the operator under a station is what its row spells
  pub station_found : (id : List ℕ) → fin.get (operator_of t).stations id ≡ option_map (λ e. e.1) (option_and_then station_in (row_with 1 (Text id ∷ []) t.stations))
  station_found id = found_at texts station_in station_key t.stations (up Stations) id tt

  pub station_wide : (id : List ℕ) (r : Row) → row_with 1 (Text id ∷ []) t.stations ≡ Some r → length r ≡ stations.COLUMNS
  station_wide id r is = wide Stations r (under_has 1 (Text id ∷ []) t.stations r is).0

  abbrev pub joined_dock : Row → Row
  joined_dock row = with_one stations.COLUMNS row (partner 1 (map (column row) (0 ∷ [])) t.stations)

  -- what the parts of a line are read as, where the dock spells something
  line_reads : (row : Row) (d : List ℕ × ℕ × Bool) → dock_read row ≡ Some d → is_good_dock (joined_dock row) ≡ has_dock (Some d) (option_and_then station_read (row_with 1 (Text d.0 ∷ []) t.stations))
  line_reads row d is =
      let made = (dock_reading.sound row d is).0 in
      let at = row_with 1 (Text d.0 ∷ []) t.stations in
      ap (λ (r : Row). is_good_dock (joined_dock r)) made ∙ ap (λ (o : Option (List ℕ × ℕ × Bool)). has_dock o (station_read (take stations.COLUMNS (or_nulls stations.COLUMNS at))))
      (ap dock_read (sym made) ∙ is)
      ∙ ap (has_dock (Some d)) (read_partner station_read stations.COLUMNS refl at (station_wide d.0))

  dock_true : (d : List ℕ × ℕ × Bool) (o : Option (List ℕ × Station × ℤ × ℕ × List ℕ)) → has_dock (Some d) o ≡ true → (x : List ℕ × Station × ℤ × ℕ × List ℕ) × (o ≡ Some x) × (d.1 ≤ x.1.row.docks)
  dock_true d None is = absurd cc
  dock_true d (Some x) is = (x, refl, leb-true d.1 x.1.row.docks is)

  stands : (id : List ℕ) (x : List ℕ × Station × ℤ × ℕ × List ℕ) → option_and_then station_read (row_with 1 (Text id ∷ []) t.stations) ≡ Some x → fin.get (operator_of t).stations id ≡ Some x.1
  stands id x is = station_found id ∙ go (row_with 1 (Text id ∷ []) t.stations) is where
    go : (o : Option Row) → option_and_then station_read o ≡ Some x → option_map (λ e. e.1) (option_and_then station_in o) ≡ Some x.1
    go None e = absurd cc
    go (Some r) e = ap (λ (q : Option (List ℕ × Station × ℤ × ℕ × List ℕ)). option_map (λ (y : List ℕ × Station). y.1) (option_map (λ (y : List ℕ × Station × ℤ × ℕ × List ℕ). (y.0, y.1)) q)) e

  read_of_found : (id : List ℕ) (x : Station) → fin.get (operator_of t).stations id ≡ Some x
      → (e : List ℕ × Station × ℤ × ℕ × List ℕ) × (option_and_then station_read (row_with 1 (Text id ∷ []) t.stations) ≡ Some e) × (e.1 ≡ x)
  read_of_found id x found = go (row_with 1 (Text id ∷ []) t.stations) (sym (station_found id) ∙ found) where
    go : (o : Option Row) → option_map (λ (y : List ℕ × Station). y.1) (option_and_then station_in o) ≡ Some x → (e : List ℕ × Station × ℤ × ℕ × List ℕ) × (option_and_then station_read o ≡ Some e) × (e.1 ≡ x)
    go None e = absurd cc
    go (Some r) e = by (station_read r) refl e where
      by : (q : Option (List ℕ × Station × ℤ × ℕ × List ℕ)) → station_read r ≡ q → option_map (λ (y : List ℕ × Station). y.1) (option_map (λ (y : List ℕ × Station × ℤ × ℕ × List ℕ). (y.0, y.1)) q) ≡ Some x
          → (e : List ℕ × Station × ℤ × ℕ × List ℕ) × (q ≡ Some e) × (e.1 ≡ x)
      by None is same = absurd cc
      by (Some y) is same = (y, refl, cc)

  -- the test passes exactly where the dock is one of its station's
  pub test_good : (row : Row) (below : ℕ) → Has t.docks row → is_good_dock (joined_dock row) ≡ true → IsSomeAnd (dock_read row) (IsGoodDock (operator_of t) below)
  test_good row below has passes = go (dock_read row) refl where
    go : (o : Option (List ℕ × ℕ × Bool)) → dock_read row ≡ o → IsSomeAnd o (IsGoodDock (operator_of t) below)
    go None e =
        let front : part 0 docks.COLUMNS (joined_dock row) ≡ row = take_front docks.COLUMNS row (or_nulls stations.COLUMNS (partner 1 (map (column row) (0 ∷ [])) t.stations)) (wide Docks row has) in
        let none : dock_read (part 0 docks.COLUMNS (joined_dock row)) ≡ None = ap dock_read front ∙ e in
        absurd (never (dock_read (part 0 docks.COLUMNS (joined_dock row))) none passes)
      where
        never : (o : Option (List ℕ × ℕ × Bool)) → o ≡ None → has_dock o (station_read (part docks.COLUMNS stations.COLUMNS (joined_dock row))) ≡ true → ⊥
        never None none is = cc
        never (Some x) none is = cc
    go (Some d) e =
        let it = dock_true d (option_and_then station_read (row_with 1 (Text d.0 ∷ []) t.stations)) (sym (line_reads row d e) ∙ passes) in
        let low = (dock_reading.sound row d e).1.good_dock.0 in
        record { row = it.0.1; found = stands d.0 it.0 it.1; low = low; high = it.2 }

  pub good_test : (row : Row) (below : ℕ) → IsSomeAnd (dock_read row) (IsGoodDock (operator_of t) below) → is_good_dock (joined_dock row) ≡ true
  good_test row below good =
      let it = some_with (IsGoodDock (operator_of t) below) (dock_read row) good in
      let at = read_of_found it.value.0 it.fact.row it.fact.found in
      line_reads row it.value it.value_is ∙ ap (has_dock (Some it.value)) at.1 ∙ le-leb it.value.1 at.0.1.row.docks (subst (λ (x : Station). it.value.1 ≤ x.row.docks) (sym at.2) it.fact.high)

  -- THE TEST OF DOCKS
  pub dock_test : IsTestOf t Docks (λ n row. is_good_dock (joined_dock row))
  dock_test = record { good = λ below row has passes. test_good row below has passes; passes = λ below row has good. good_test row below good }

  -- the verdict on docks by their lines
  pub dock_verdict : (v : Option Row) → IsFirstFailing t Docks (Demands t Docks (λ n row. is_good_dock (joined_dock row))) v → IsTableVerdict t Docks v
  dock_verdict v =
      same_verdict t Docks (Demands t Docks (λ n row. is_good_dock (joined_dock row))) (IsGoodKey t Docks) (demands_good t Docks (λ n row. is_good_dock (joined_dock row)) dock_test (λ key. tt))
      (good_demands t Docks (λ n row. is_good_dock (joined_dock row)) dock_test (λ key. tt)) v

  -- a line begins with the key of its row
  pub dock_key : (row : Row) → Has t.docks row → take 2 (joined_dock row) ≡ take 2 row
  dock_key row has = take-append-le 2 row (or_nulls stations.COLUMNS (partner 1 (map (column row) (0 ∷ [])) t.stations)) (let wide3 = wide Docks row has in omega (arith, wide3))
