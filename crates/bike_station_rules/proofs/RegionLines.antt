-- A station's row with that of its region beside it.
use Rattle.std.proofs.Common.{◌≡◌, ℕ, ℤ, List, [], ◌∷◌, ◌++◌, length, Option, Some, None, is_some, refl, sym, ap, ◌∙◌, arith}
use Rattle.std.specs.Prelude.{take, drop, option_map, option_and_then}
use Rattle.std.specs.FinMap as fin
use Rattle.std.proofs.lemmas.List.{take-append-le}
use Rattle.std.proofs.Math.Seq.{drop-append_seam}
use Rattle.sqlite_value.specs.declared.value.Value.TheVariants.{Text}
use Rattle.sqlite_value.specs.Order.{Row, column}
use Rattle.sqlite.specs.Values.{or_null}
use Rattle.sqlite_rules.specs.Lists.{Has}
use Rattle.bike_sql.specs.View.{row_with, partner}
use Rattle.bike_catalogue.specs.Rows.{RegionRow}
use Rattle.bike_operator.specs.Operator.{Station}
use Rattle.bike_operator.specs.View.{has_region as has_region_in}
use Rattle.bike_book.specs.Tables.{Tables, Regions, Stations}
use Rattle.bike_book.specs.declared.columns.regions.TheConstants as regions
use Rattle.bike_book.specs.declared.columns.stations.TheConstants as stations
use Rattle.bike_book.proofs.Keys.{texts}
use Rattle.bike_readings.specs.Readings.{region_read, station_read}
use Rattle.bike_readings.proofs.CatalogueRows.{region_reading, station_reading}
use Rattle.bike_readings.specs.ReadOff.{operator_of}
use Rattle.bike_readings.specs.Rules.{AreInOrder}
use Rattle.bike_readings.proofs.Places.{under_has}
use Rattle.bike_judges.specs.Lines.{or_nulls, with_one, part}
use Rattle.bike_judges.proofs.Lookups.{found_at, region_key}
use Rattle.bike_station_rules.specs.StationRows.{has_region}
use Rattle.bike_station_rules.specs.StationVerdicts.{with_region}
use Rattle.bike_station_rules.proofs.DockTest.{AreWide, take_front, read_partner}

module _ (t : Tables) (up : AreInOrder t) (wide : AreWide t) where
  -- what stands in the operator under a region is what its row spells
  region_found : (id : List ℕ) → fin.get (operator_of t).regions id ≡ option_map (λ e. e.1) (option_and_then region_read (row_with 1 (Text id ∷ []) t.regions))
  region_found id = found_at texts region_read region_key t.regions (up Regions) id tt

  region_wide : (id : List ℕ) (r : Row) → row_with 1 (Text id ∷ []) t.regions ≡ Some r → length r ≡ regions.COLUMNS
  region_wide id r is = wide Regions r (under_has 1 (Text id ∷ []) t.regions r is).0

  -- ---- the parts of a line

  pub own_part : (row : Row) → Has t.stations row → part 0 stations.COLUMNS (with_region t row) ≡ row
  own_part row has = take_front stations.COLUMNS row (or_nulls regions.COLUMNS (partner 1 (column row 11 ∷ []) t.regions)) (wide Stations row has)

  region_part : (row : Row) (p : Option Row) → Has t.stations row → part stations.COLUMNS regions.COLUMNS (with_one regions.COLUMNS row p) ≡ take regions.COLUMNS (or_nulls regions.COLUMNS p)
  region_part row p has =
      ap (λ (n : ℕ). take regions.COLUMNS (drop n (row ++ or_nulls regions.COLUMNS p))) (sym (wide Stations row has)) ∙ ap (take regions.COLUMNS) (drop-append_seam row (or_nulls regions.COLUMNS p))

  -- a line begins with the key of its row
  pub station_key : (row : Row) → Has t.stations row → take 1 (with_region t row) ≡ take 1 row
  station_key row has = take-append-le 1 row (or_nulls regions.COLUMNS (partner 1 (column row 11 ∷ []) t.regions)) (let row_wide = wide Stations row has in omega (arith, row_wide))

  -- the region that a station names is read of its line just where the operator has it
  pub region_is : (row : Row) (x : List ℕ × Station × ℤ × ℕ × List ℕ) → Has t.stations row → station_read row ≡ Some x
      → has_region x.1.region (region_read (part stations.COLUMNS regions.COLUMNS (with_region t row))) ≡ has_region_in (operator_of t) x.1.region
  region_is row x has e = by x.1.region refl where
    found : (o : Option (List ℕ × RegionRow)) → is_some o ≡ is_some (option_map (λ (e : List ℕ × RegionRow). e.1) o)
    found None = refl
    found (Some r) = refl

    by : (o : Option (List ℕ)) → x.1.region ≡ o → has_region o (region_read (part stations.COLUMNS regions.COLUMNS (with_region t row))) ≡ has_region_in (operator_of t) o
    by None is = refl
    by (Some id) is =
        let names : column row 11 ≡ Text id = ap (λ (r : Row). column r 11) (station_reading.sound row x e).0 ∙ ap (or_null Text) is in
        let at = row_with 1 (Text id ∷ []) t.regions in
        ap (λ v. is_some (region_read (part stations.COLUMNS regions.COLUMNS (with_one regions.COLUMNS row (partner 1 (v ∷ []) t.regions))))) names
        ∙ ap (λ (r : Row). is_some (region_read r)) (region_part row at has)
        ∙ ap is_some (read_partner region_read regions.COLUMNS refl at (region_wide id))
        ∙ found (option_and_then region_read at)
        ∙ ap is_some (sym (region_found id))
