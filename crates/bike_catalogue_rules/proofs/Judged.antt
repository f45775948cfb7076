-- What a judge finds in the lines of a table is the table's verdict.
use Rattle.std.proofs.Common.{◌≡◌, ℕ, List, [], ◌∷◌, map, Bool, true, false, cond, Option, Some, None, refl, sym, ap, ◌∙◌, arith}
use Rattle.std.specs.Prelude.{take, option_map}
use Rattle.std.proofs.lemmas.List.{take-append-le}
use Rattle.sqlite_value.specs.Order.{Row}
use Rattle.sqlite_rules.specs.Lists.{Has}
use Rattle.sqlite.specs.Effect.{Database}
use Rattle.bike_book.specs.Tables.{TableName, Tables, rows_in, keys_of, System, Plans, Segments, Types, Regions}
use Rattle.bike_schema.specs.Tables.{IsOurs, tables_of}
use Rattle.bike_readings.specs.Rules.{AreInOrder}
use Rattle.bike_readings.proofs.RulesLaws.{stored_in_order}
use Rattle.bike_judges.specs.declared.key.BadKey.{BadKey}
use Rattle.bike_judges.specs.declared.query.Query.TheVariants as query
use Rattle.bike_judges.specs.Judging.{key_row}
use Rattle.bike_judges.specs.Lines.{lines_of}
use Rattle.bike_judges.specs.Passes.{first_failing}
use Rattle.bike_judges.specs.Verdicts.{IsTableVerdict, JudgesTable}
use Rattle.bike_judges.proofs.LineLaw.{lines_verdict}
use Rattle.bike_catalogue_rules.specs.Tests.{is_system, is_plan, is_region, is_type, first_astray, is_next, segment_name}
use Rattle.bike_catalogue_rules.proofs.RowVerdicts.{IsTestOf, test_verdict}
use Rattle.bike_catalogue_rules.proofs.CatalogueTests.{system_test, plan_test, region_test, type_test}
use Rattle.bike_catalogue_rules.proofs.PlanLines.{plan_line}
use Rattle.bike_catalogue_rules.proofs.SegmentRules.{segments_verdict}
use Rattle.bike_catalogue_rules.proofs.Widths.{are_wide}

-- the judge found just this
abbrev pub Finds : Option Row → Option BadKey → Type 0
Finds is found = (verdict : Option Row) → is ≡ verdict → option_map key_row found ≡ verdict

same_lines : (rows : List Row) → rows ≡ map (λ r. r) rows
same_lines [] = refl
same_lines (r ∷ rows) = ap (λ (xs : List Row). r ∷ xs) (same_lines rows)

module _ (t : Tables) (name : TableName) (up : AreInOrder t) (line : Row → Row) (test : ℕ → Row → Bool) (key : Row → Row)
    (key_is : (row : Row) → Has (rows_in t name) row → key (line row) ≡ take (keys_of name) row) (of : IsTestOf t name (λ n r. test n (line r))) where
  judged : (lines : List Row) → lines ≡ map line (rows_in t name) → (before : ℕ) → before ≡ 0 → (found : Option BadKey) → Finds (first_failing test key before lines) found
      → IsTableVerdict t name (option_map key_row found)
  judged lines are before zero found finds =
      let at : first_failing test key 0 (map line (rows_in t name)) ≡ option_map key_row found = (λ i. first_failing test key (sym zero i) (sym are i)) ∙ sym (finds (first_failing test key before lines) refl) in
      test_verdict t name (λ n r. test n (line r)) of (option_map key_row found) (lines_verdict t name up line test key key_is (option_map key_row found) at)

module _ (db : Database) (before : ℕ) (zero : before ≡ 0) (found : Option BadKey) where
  pub system_judged : Finds (first_failing is_system (take 1) before (lines_of query.System (tables_of db))) found → JudgesTable System db found
  system_judged finds earlier =
      judged (tables_of db) System (stored_in_order db) (λ r. r) is_system (take 1) (λ r has. refl) (system_test (tables_of db)) (tables_of db).system
      (same_lines (tables_of db).system) before zero found finds

  pub plans_judged : Finds (first_failing is_plan (take 1) before (lines_of query.Plans (tables_of db))) found → JudgesTable Plans db found
  plans_judged finds earlier =
      judged (tables_of db) Plans (stored_in_order db) (λ r. r) is_plan (take 1) (λ r has. refl) (plan_test (tables_of db)) (tables_of db).plans
      (same_lines (tables_of db).plans) before zero found finds

  pub regions_judged : Finds (first_failing is_region (take 1) before (lines_of query.Regions (tables_of db))) found → JudgesTable Regions db found
  regions_judged finds earlier =
      judged (tables_of db) Regions (stored_in_order db) (λ r. r) is_region (take 1) (λ r has. refl) (region_test (tables_of db)) (tables_of db).regions
      (same_lines (tables_of db).regions) before zero found finds

  pub types_judged : IsOurs db → Finds (first_failing is_type (take 1) before (lines_of query.Types (tables_of db))) found → JudgesTable Types db found
  types_judged ours finds earlier =
      let wide = are_wide db ours.has in
      judged (tables_of db) Types (stored_in_order db) (plan_line (tables_of db) 5) is_type (take 1) (λ r has. let six = wide.types r has in take-append-le 1 r _ (omega (arith, six)))
      (type_test (tables_of db) (stored_in_order db) wide) (lines_of query.Types (tables_of db)) refl before zero found finds

pub segments_judged : (db : Database) → IsOurs db → (found : Option BadKey) → Finds (first_astray None (lines_of query.Segments (tables_of db))) found → JudgesTable Segments db found
segments_judged db ours found finds earlier =
    segments_verdict (tables_of db) (stored_in_order db) (are_wide db ours.has) (option_map key_row found) (sym (finds (first_astray None (lines_of query.Segments (tables_of db))) refl))

-- ---- one more segment

module _ (b : Option (List ℕ × ℕ)) (x : Row) (left : List Row) (verdict : Option Row) (is : first_astray b (x ∷ left) ≡ verdict) where
  pub next_segment : is_next b (segment_name x) ≡ true → first_astray (segment_name x) left ≡ verdict
  unfolding first_astray
  next_segment next = ap (λ (c : Bool). cond c (first_astray (segment_name x) left) (Some (take 2 x))) (sym next) ∙ is

  pub astray_segment : is_next b (segment_name x) ≡ false → verdict ≡ Some (take 2 x)
  unfolding first_astray
  astray_segment astray = sym is ∙ ap (λ (c : Bool). cond c (first_astray (segment_name x) left) (Some (take 2 x))) astray

pub no_segment : (b : Option (List ℕ × ℕ)) → first_astray b [] ≡ None
unfolding first_astray
no_segment b = refl
