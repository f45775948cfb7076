-- A name with what has it beside it: the station and the region of its identifier, or the vehicle type and the plan.
use Rattle.std.proofs.Common.{◌≡◌, ℕ, ◌+◌, List, [], ◌∷◌, ◌++◌, length, Bool, true, false, ◌&&◌, Option, Some, is_some, refl, ap, ◌∙◌}
use Rattle.std.specs.FinMap as fin
use Rattle.sqlite_value.specs.declared.value.Value.TheVariants.{Text}
use Rattle.sqlite_value.specs.Order.{Row, column}
use Rattle.sqlite_rules.specs.Lists.{Has}
use Rattle.bike_sql.specs.View.{partner}
use Rattle.bike_catalogue.specs.Rows.{SystemRow}
use Rattle.bike_fields.specs.declared.name_kind.NameKind.{NameKind}
use Rattle.bike_fields.specs.declared.name_kind.NameKind.TheVariants as named
use Rattle.bike_operator.specs.Operator.{Operator}
use Rattle.bike_operator.specs.Names.{has_named, is_system}
use Rattle.bike_book.specs.Tables.{Tables, Types, Regions, Stations}
use Rattle.bike_book.specs.declared.columns.plans.TheConstants as plans
use Rattle.bike_book.specs.declared.columns.types.TheConstants as types
use Rattle.bike_book.specs.declared.columns.regions.TheConstants as regions
use Rattle.bike_book.specs.declared.columns.stations.TheConstants as stations
use Rattle.bike_book.specs.declared.columns.more_names.TheConstants as more_names
use Rattle.bike_readings.specs.Readings.{plan_read, type_read, region_read, station_read, name_read}
use Rattle.bike_readings.specs.ReadOff.{station_in, operator_of}
use Rattle.bike_readings.specs.Rules.{AreInOrder}
use Rattle.bike_readings.proofs.CatalogueRows.{name_reading}
use Rattle.bike_judges.specs.Lines.{part, or_nulls, with_two}
use Rattle.bike_catalogue_rules.specs.Names.{FurtherName, system_key, is_own_id, is_place_there, is_offer_there, of_kind, has_place, has_offer}
use Rattle.bike_judges.proofs.Lookups.{type_key, region_key, station_part, station_key}
use Rattle.bike_catalogue_rules.proofs.Partners.{own_part, second_part, third_part, beside_wide, mapped_some, is_there}
use Rattle.bike_catalogue_rules.proofs.PlanLines.{plan_there}
use Rattle.bike_catalogue_rules.proofs.Widths.{AreWide}

-- ---- what a name is of

-- the operator has the station or the region, if it is a name of one
abbrev pub place_named : Operator → NameKind → List ℕ → Bool
place_named s named.System id = true
place_named s named.Station id = fin.contains_key s.stations id
place_named s named.«Type» id = true
place_named s named.Plan id = true
place_named s named.Description id = true
place_named s named.Region id = fin.contains_key s.regions id

-- the vehicle type or the plan, in the same way
abbrev pub offer_named : Operator → NameKind → List ℕ → Bool
offer_named s named.System id = true
offer_named s named.Station id = true
offer_named s named.«Type» id = fin.contains_key s.types id
offer_named s named.Plan id = fin.contains_key s.plans id
offer_named s named.Description id = fin.contains_key s.plans id
offer_named s named.Region id = true

also_true : (b : Bool) → b ≡ b && true
also_true true = refl
also_true false = refl

-- what has the name is there exactly where the system is that, and so are a place and an offer
pub named_parts : (s : Operator) (x : SystemRow) → s.system ≡ Some x → (kind : NameKind) (id : List ℕ)
    → has_named s kind id ≡ is_own_id (system_key x) kind id && (place_named s kind id && offer_named s kind id)
named_parts s x set named.System id = ap (λ (o : Option SystemRow). is_system o id) set ∙ also_true (is_system (Some x) id)
named_parts s x set named.Station id = also_true (fin.contains_key s.stations id)
named_parts s x set named.«Type» id = refl
named_parts s x set named.Plan id = refl
named_parts s x set named.Description id = refl
named_parts s x set named.Region id = also_true (fin.contains_key s.regions id)

-- ---- the lines

abbrev pub places_line : Tables → Row → Row
places_line t row = with_two stations.COLUMNS regions.COLUMNS row (partner 1 (column row 1 ∷ []) t.stations) (partner 1 (column row 1 ∷ []) t.regions)

abbrev pub offers_line : Tables → Row → Row
offers_line t row = with_two types.COLUMNS plans.COLUMNS row (partner 1 (column row 1 ∷ []) t.types) (partner 1 (column row 1 ∷ []) t.plans)

module _ (t : Tables) (up : AreInOrder t) (wide : AreWide t) (row : Row) (has : Has t.more_names row) (e : FurtherName) (is : name_read row ≡ Some e) where
  abbrev s : Operator
  s = operator_of t

  abbrev beside : ℕ → List Row → Row
  beside width rows = or_nulls width (partner 1 (column row 1 ∷ []) rows)

  id_is : column row 1 ≡ Text e.1
  id_is = ap (λ (r : Row). column r 1) (name_reading.sound row e is).0

  -- the row itself
  own_name : (rest : Row) → name_read (part 0 more_names.COLUMNS (row ++ rest)) ≡ Some e
  own_name rest = ap name_read (own_part more_names.COLUMNS row rest (wide.more_names row has)) ∙ is

  stations_wide : length (beside stations.COLUMNS t.stations) ≡ stations.COLUMNS
  stations_wide = beside_wide stations.COLUMNS t.stations wide.stations (column row 1) e.1 id_is

  regions_wide : length (beside regions.COLUMNS t.regions) ≡ regions.COLUMNS
  regions_wide = beside_wide regions.COLUMNS t.regions wide.regions (column row 1) e.1 id_is

  types_wide : length (beside types.COLUMNS t.types) ≡ types.COLUMNS
  types_wide = beside_wide types.COLUMNS t.types wide.types (column row 1) e.1 id_is

  plans_wide : length (beside plans.COLUMNS t.plans) ≡ plans.COLUMNS
  plans_wide = beside_wide plans.COLUMNS t.plans wide.plans (column row 1) e.1 id_is

  station_there : is_some (station_read (part more_names.COLUMNS stations.COLUMNS (places_line t row))) ≡ fin.contains_key s.stations e.1
  station_there =
      ap (λ (r : Row). is_some (station_read r)) (second_part more_names.COLUMNS stations.COLUMNS row (beside stations.COLUMNS t.stations) (beside regions.COLUMNS t.regions)
      (wide.more_names row has) stations_wide)
      ∙ is_there station_in station_key station_read (λ r. mapped_some station_part (station_read r)) stations.COLUMNS t.stations (up Stations) refl (column row 1) e.1 id_is

  region_there : is_some (region_read (part (more_names.COLUMNS + stations.COLUMNS) regions.COLUMNS (places_line t row))) ≡ fin.contains_key s.regions e.1
  region_there =
      ap (λ (r : Row). is_some (region_read r)) (third_part more_names.COLUMNS stations.COLUMNS regions.COLUMNS row (beside stations.COLUMNS t.stations) (beside regions.COLUMNS t.regions)
      (wide.more_names row has) stations_wide regions_wide)
      ∙ is_there region_read region_key region_read (λ r. refl) regions.COLUMNS t.regions (up Regions) refl (column row 1) e.1 id_is

  type_there : is_some (type_read (part more_names.COLUMNS types.COLUMNS (offers_line t row))) ≡ fin.contains_key s.types e.1
  type_there =
      ap (λ (r : Row). is_some (type_read r)) (second_part more_names.COLUMNS types.COLUMNS row (beside types.COLUMNS t.types) (beside plans.COLUMNS t.plans) (wide.more_names row has) types_wide)
      ∙ is_there type_read type_key type_read (λ r. refl) types.COLUMNS t.types (up Types) refl (column row 1) e.1 id_is

  named_plan_there : is_some (plan_read (part (more_names.COLUMNS + types.COLUMNS) plans.COLUMNS (offers_line t row))) ≡ fin.contains_key s.plans e.1
  named_plan_there =
      ap (λ (r : Row). is_some (plan_read r)) (third_part more_names.COLUMNS types.COLUMNS plans.COLUMNS row (beside types.COLUMNS t.types) (beside plans.COLUMNS t.plans)
      (wide.more_names row has) types_wide plans_wide)
      ∙ plan_there t up row 1 e.1 id_is

  pub place_is : (n : ℕ) → has_place n (places_line t row) ≡ place_named s e.0 e.1
  place_is n = ap (of_kind is_place_there (places_line t row)) (own_name (beside stations.COLUMNS t.stations ++ beside regions.COLUMNS t.regions)) ∙ go e.0 where
    go : (kind : NameKind) → is_place_there kind (places_line t row) ≡ place_named s kind e.1
    go named.System = refl
    go named.Station = station_there
    go named.«Type» = refl
    go named.Plan = refl
    go named.Description = refl
    go named.Region = region_there

  pub offer_is : (n : ℕ) → has_offer n (offers_line t row) ≡ offer_named s e.0 e.1
  offer_is n = ap (of_kind is_offer_there (offers_line t row)) (own_name (beside types.COLUMNS t.types ++ beside plans.COLUMNS t.plans)) ∙ go e.0 where
    go : (kind : NameKind) → is_offer_there kind (offers_line t row) ≡ offer_named s kind e.1
    go named.System = refl
    go named.Station = refl
    go named.«Type» = type_there
    go named.Plan = named_plan_there
    go named.Description = named_plan_there
    go named.Region = refl
