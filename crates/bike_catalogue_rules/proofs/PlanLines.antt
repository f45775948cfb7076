-- A row with the plan that it names beside it.
use Rattle.std.proofs.Common.{◌≡◌, ℕ, List, [], ◌∷◌, length, Some, is_some, refl, sym, ap, ◌∙◌}
use Rattle.std.specs.Prelude.{take}
use Rattle.std.specs.List.{filter_map}
use Rattle.std.specs.FinMap as fin
use Rattle.sqlite_value.specs.declared.value.Value.TheVariants.{Text}
use Rattle.sqlite_value.specs.Order.{Row, column}
use Rattle.bike_sql.specs.View.{partner}
use Rattle.bike_catalogue.specs.Rows.{PlanRow}
use Rattle.bike_operator.specs.Operator.{text_cmp}
use Rattle.bike_book.specs.Tables.{Tables, Plans}
use Rattle.bike_book.proofs.Keys.{text_key, texts}
use Rattle.bike_readings.specs.Readings.{plan_read}
use Rattle.bike_readings.specs.ReadOff.{plan_in, with_segments, segments_of, operator_of}
use Rattle.bike_readings.specs.Rules.{AreInOrder}
use Rattle.bike_readings.proofs.CatalogueRows.{plan_reading}
use Rattle.bike_readings.proofs.ReadLists.{read_of, find_has}
use Rattle.bike_readings.proofs.ReadRows.{mapped}
use Rattle.bike_judges.specs.Lines.{or_nulls, with_one}
use Rattle.bike_judges.proofs.Lookups.{SpellsKeys, sorted_read}
use Rattle.bike_book.specs.declared.columns.plans.TheConstants as plans
use Rattle.bike_catalogue_rules.specs.Tests.{has_plan}
use Rattle.bike_catalogue_rules.proofs.Partners.{last_part, beside_wide, mapped_some, is_there}
use Rattle.bike_catalogue_rules.proofs.Widths.{AreWide}

plan_key : (segments : List Row) → SpellsKeys texts (plan_in segments)
plan_key segments r e is =
    let it = mapped (with_segments segments) (plan_read r) e is in
    (ap (take 1) (plan_reading.sound r it.value it.value_is).0 ∙ ap (λ (x : List ℕ × PlanRow). text_key x.0) it.part_is, tt)

-- the row that names a plan in this column, with that plan beside it
abbrev pub plan_line : Tables → ℕ → Row → Row
plan_line t at row = with_one plans.COLUMNS row (partner 1 (column row at ∷ []) t.plans)

-- a plan is there exactly where the operator has it
pub plan_there : (t : Tables) → AreInOrder t → (row : Row) (at : ℕ) (id : List ℕ) → column row at ≡ Text id
    → is_some (plan_read (or_nulls 5 (partner 1 (column row at ∷ []) t.plans))) ≡ fin.contains_key (operator_of t).plans id
plan_there t up row at id names =
    is_there (plan_in t.segments) (plan_key t.segments) plan_read (λ r. mapped_some (with_segments t.segments) (plan_read r)) 5 t.plans (up Plans) refl (column row at) id names

pub has_plan_is : (t : Tables) → AreInOrder t → AreWide t → (row : Row) (at : ℕ) (id : List ℕ) → length row ≡ 6 → column row at ≡ Text id
    → has_plan 6 (plan_line t at row) ≡ fin.contains_key (operator_of t).plans id
has_plan_is t up wide row at id six names =
    ap (λ (r : Row). is_some (plan_read r)) (last_part 6 5 row (or_nulls 5 (partner 1 (column row at ∷ []) t.plans)) six (beside_wide 5 t.plans wide.plans (column row at) id names))
    ∙ plan_there t up row at id names

-- a plan has the segments that stand under it
pub plan_segments : (t : Tables) → AreInOrder t → (id : List ℕ) (p : PlanRow) → fin.get (operator_of t).plans id ≡ Some p → p.segments ≡ segments_of t.segments id
plan_segments t up id p found =
    let es = filter_map (plan_in t.segments) t.plans in
    let sorted = sorted_read texts (plan_in t.segments) (plan_key t.segments) t.plans (up Plans) in
    let at = read_of (plan_in t.segments) t.plans (id, p) (find_has texts id p es (sym (fin.get-from_sorted text_cmp es id sorted) ∙ found)) in
    let it = mapped (with_segments t.segments) (plan_read at.item) (id, p) at.read_is in
    ap (λ (e : List ℕ × PlanRow). e.1.segments) (sym it.part_is) ∙ ap (λ (e : List ℕ × PlanRow). segments_of t.segments e.0) it.part_is
