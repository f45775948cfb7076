-- What the judges of further names find is the verdict on them.
use Rattle.std.proofs.Common.{◌≡◌, ℕ, List, [], ◌∷◌, Option, Some, None, refl, sym, ap, ◌∙◌, subst}
use Rattle.std.specs.Prelude.{take, fold, option_map}
use Rattle.std.specs.List.{filter_map, cons_option}
use Rattle.sqlite_value.specs.Order.{Row}
use Rattle.sqlite.specs.Effect.{Database}
use Rattle.bike_catalogue.specs.Rows.{SystemRow}
use Rattle.bike_book.specs.Tables.{MoreNames}
use Rattle.bike_schema.specs.Tables.{IsOurs, tables_of}
use Rattle.bike_readings.specs.Readings.{system_read, name_read}
use Rattle.bike_readings.specs.ReadOff.{first, operator_of}
use Rattle.bike_readings.proofs.RulesLaws.{stored_in_order}
use Rattle.bike_judges.specs.declared.key.BadKey.{BadKey}
use Rattle.bike_judges.specs.declared.query.Query.TheVariants as query
use Rattle.bike_judges.specs.Judging.{key_row}
use Rattle.bike_judges.specs.Least.{least_key}
use Rattle.bike_judges.specs.Lines.{lines_of}
use Rattle.bike_judges.specs.Passes.{first_failing}
use Rattle.bike_judges.specs.Verdicts.{IsTableVerdict, JudgesTable}
use Rattle.bike_catalogue_rules.specs.Names.{FurtherName, system_key, key_or, with_system, next_run, misnamed_or, first_misnamed, has_place, has_offer}
use Rattle.bike_catalogue_rules.specs.declared.names.FirstSystem.{FirstSystem}
use Rattle.bike_catalogue_rules.specs.declared.names.SystemKey.{SystemKey}
use Rattle.bike_catalogue_rules.proofs.Judged.{Finds}
use Rattle.bike_catalogue_rules.proofs.NameTests.{names_verdict}
use Rattle.bike_catalogue_rules.proofs.Widths.{are_wide}

-- ---- the system

key_kept : (key : Option SystemKey) → key ≡ key_or key None
key_kept None = refl
key_kept (Some k) = refl

key_then : (key : Option SystemKey) (system : Option SystemRow) (rest : List SystemRow) → key_or (key_or key system) (first rest) ≡ key_or key (first (cons_option system rest))
key_then None None rest = refl
key_then (Some k) None rest = refl
key_then None (Some x) rest = refl
key_then (Some k) (Some x) rest = refl

-- what is kept of lines is the first system that they spell
key_found : (found : FirstSystem) (rows : List Row) → (fold with_system found rows).key ≡ key_or found.key (first (filter_map system_read rows))
key_found found [] = key_kept found.key
key_found found (row ∷ rows) = key_found (with_system found row) rows ∙ key_then found.key (system_read row) (filter_map system_read rows)

-- .. which is that of the operator
pub own_is : (db : Database) (start found : FirstSystem) → start.key ≡ None → found ≡ fold with_system start (lines_of query.System (tables_of db))
    → found.key ≡ option_map system_key (operator_of (tables_of db)).system
own_is db start found none is =
    ap (λ (f : FirstSystem). f.key) is ∙ key_found start (tables_of db).system ∙ ap (λ (o : Option SystemKey). key_or o (operator_of (tables_of db)).system) none

-- ---- the passes

-- what three passes found
pub record AreFound (own : Option SystemKey) (order place : Option BadKey) (db : Database) (offer : Option BadKey) : Type 0 where
  pub ours : IsOurs db
  pub own_is : own ≡ option_map system_key (operator_of (tables_of db)).system
  pub by_order : Finds (first_misnamed own None 0 (lines_of query.Names (tables_of db))) order
  pub by_place : Finds (first_failing has_place (take 3) 0 (lines_of query.NamePlaces (tables_of db))) place
  pub by_offer : Finds (first_failing has_offer (take 3) 0 (lines_of query.NameOffers (tables_of db))) offer

-- the least of the three keys is the verdict
pub names_judged : (db : Database) (own : Option SystemKey) (order place offer least : Option BadKey)
    → option_map key_row least ≡ least_key (least_key (option_map key_row order) (option_map key_row place)) (option_map key_row offer) → AreFound own order place db offer
    → JudgesTable MoreNames db least
names_judged db own order place offer least least_is found earlier =
    subst (IsTableVerdict (tables_of db) MoreNames) (sym least_is)
    (names_verdict (tables_of db) (stored_in_order db) (are_wide db found.ours.has) own found.own_is (option_map key_row order) (option_map key_row place) (option_map key_row offer)
    (sym (found.by_order _ refl)) (sym (found.by_place _ refl)) (sym (found.by_offer _ refl)))

-- ---- one more line

module _ (own : Option SystemKey) (last : Option FurtherName) (run : ℕ) where
  module _ (x : Row) (left : List Row) (verdict : Option Row) (is : first_misnamed own last run (x ∷ left) ≡ verdict) where
    pub next_name : (n : ℕ) → next_run own last run (name_read x) ≡ Some n → first_misnamed own (name_read x) n left ≡ verdict
    unfolding first_misnamed
    next_name n next = sym (ap (λ (o : Option ℕ). misnamed_or x o (λ k. first_misnamed own (name_read x) k left)) next) ∙ is

    pub no_name : next_run own last run (name_read x) ≡ None → verdict ≡ Some (take 3 x)
    unfolding first_misnamed
    no_name none = sym is ∙ ap (λ (o : Option ℕ). misnamed_or x o (λ k. first_misnamed own (name_read x) k left)) none

  pub no_line : first_misnamed own last run [] ≡ None
  unfolding first_misnamed
  no_line = refl
