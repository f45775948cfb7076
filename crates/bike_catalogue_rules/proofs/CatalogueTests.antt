-- The rows of system, of plans, of regions and of vehicle types pass their tests exactly where they are good.
use Rattle.std.proofs.Common.{◌≡◌, ℕ, List, ◌&&◌, Some, is_some, sym, ap, ◌∙◌}
use Rattle.std.proofs.lemmas.Bool.{ltb-true, lt-ltb, and_from}
use Rattle.std.specs.Prelude.{nat_lt}
use Rattle.std.specs.FinMap as fin
use Rattle.sqlite_value.specs.Order.{Row, column}
use Rattle.sqlite_rules.specs.Lists.{Has}
use Rattle.bike_fields.proofs.Lengths.{both_hold}
use Rattle.bike_catalogue.specs.Rows.{TypeRow}
use Rattle.bike_operator.specs.declared.limits.TheConstants.{MOST_PLANS, MOST_TYPES, MOST_REGIONS}
use Rattle.bike_book.specs.Tables.{Tables, System, Plans, Types, Regions}
use Rattle.bike_readings.specs.Readings.{system_read, plan_read, type_read, region_read}
use Rattle.bike_readings.proofs.CatalogueRows.{type_reading}
use Rattle.bike_readings.specs.ReadOff.{operator_of}
use Rattle.bike_readings.specs.Demands.{IsGoodPlan, IsGoodType, IsGoodRegion}
use Rattle.bike_readings.specs.Rules.{AreInOrder}
use Rattle.bike_readings.proofs.RowRules.{some_with}
use Rattle.bike_judges.specs.Lines.{part}
use Rattle.bike_catalogue_rules.specs.Tests.{is_system, is_plan, is_region, is_type, has_plan}
use Rattle.bike_catalogue_rules.proofs.Partners.{own_part}
use Rattle.bike_catalogue_rules.proofs.PlanLines.{plan_line, has_plan_is}
use Rattle.bike_catalogue_rules.proofs.RowVerdicts.{IsTestOf, good_some, some_good}
use Rattle.bike_catalogue_rules.proofs.Widths.{AreWide}

pub system_test : (t : Tables) → IsTestOf t System is_system
system_test t = record {
  may_lack = λ key. tt;
  good = λ below r has passes. good_some (λ x. Unit {0}) (system_read r) passes (λ x e. tt);
  passes = λ below r has good. some_good (λ x. Unit {0}) (system_read r) good;
}

pub plan_test : (t : Tables) → IsTestOf t Plans is_plan
plan_test t = record {
  may_lack = λ key. tt;
  good = λ below r has passes.
      let both = both_hold (nat_lt below MOST_PLANS) (is_some (plan_read r)) passes in
      good_some (IsGoodPlan (operator_of t) below) (plan_read r) both.1 (λ x e. record { room = ltb-true below MOST_PLANS both.0 });
  passes = λ below r has good.
      let it = some_with (IsGoodPlan (operator_of t) below) (plan_read r) good in
      and_from (nat_lt below MOST_PLANS) (is_some (plan_read r)) (lt-ltb below MOST_PLANS it.fact.room) (ap is_some it.value_is);
}

pub region_test : (t : Tables) → IsTestOf t Regions is_region
region_test t = record {
  may_lack = λ key. tt;
  good = λ below r has passes.
      let both = both_hold (nat_lt below MOST_REGIONS) (is_some (region_read r)) passes in
      good_some (IsGoodRegion (operator_of t) below) (region_read r) both.1 (λ x e. record { room = ltb-true below MOST_REGIONS both.0 });
  passes = λ below r has good.
      let it = some_with (IsGoodRegion (operator_of t) below) (region_read r) good in
      and_from (nat_lt below MOST_REGIONS) (is_some (region_read r)) (lt-ltb below MOST_REGIONS it.fact.room) (ap is_some it.value_is);
}

module _ (t : Tables) (up : AreInOrder t) (wide : AreWide t) where
  -- the plan that a vehicle type names
  named : (r : Row) (x : List ℕ × TypeRow) → Has t.types r → type_read r ≡ Some x → has_plan 6 (plan_line t 5 r) ≡ is_some (fin.get (operator_of t).plans x.1.plan_id)
  named r x has e = has_plan_is t up wide r 5 x.1.plan_id (wide.types r has) (ap (λ (z : Row). column z 5) (type_reading.sound r x e).0)

  own : (r : Row) → Has t.types r → part 0 6 (plan_line t 5 r) ≡ r
  own r has = own_part 6 r _ (wide.types r has)

  pub type_test : IsTestOf t Types (λ n r. is_type n (plan_line t 5 r))
  type_test = record {
    may_lack = λ key. tt;
    good = λ below r has passes.
        let both = both_hold (nat_lt below MOST_TYPES) (has_plan 6 (plan_line t 5 r) && is_some (type_read (part 0 6 (plan_line t 5 r)))) passes in
        let there = both_hold (has_plan 6 (plan_line t 5 r)) (is_some (type_read (part 0 6 (plan_line t 5 r)))) both.1 in
        good_some (IsGoodType (operator_of t) below) (type_read r) (ap (λ (z : Row). is_some (type_read z)) (sym (own r has)) ∙ there.1) (λ x e.
        let law = (type_reading.sound r x e).1 in
        record { room = ltb-true below MOST_TYPES both.0; good = record { id_is = law.id_is; good = law.good; plan = sym (named r x has e) ∙ there.0 } });
    passes = λ below r has good.
        let it = some_with (IsGoodType (operator_of t) below) (type_read r) good in
        and_from (nat_lt below MOST_TYPES) (has_plan 6 (plan_line t 5 r) && is_some (type_read (part 0 6 (plan_line t 5 r)))) (lt-ltb below MOST_TYPES it.fact.room)
        (and_from (has_plan 6 (plan_line t 5 r)) (is_some (type_read (part 0 6 (plan_line t 5 r)))) (named r it.value has it.value_is ∙ it.fact.good.plan)
        (ap (λ (z : Row). is_some (type_read z)) (own r has) ∙ ap is_some it.value_is));
  }
