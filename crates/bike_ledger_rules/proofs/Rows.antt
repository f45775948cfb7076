-- What fails first on the rows of a table is its verdict, where each row passes exactly where it is good.
use Rattle.std.proofs.Common.{◌≡◌, ℕ, map, length, take, Bool, true, Option, Some, None, refl, sym, subst}
use Rattle.std.specs.Prelude.{option_map}
use Rattle.sqlite_value.specs.Order.{Row}
use Rattle.sqlite_rules.specs.Lists.{Has}
use Rattle.sqlite.specs.Effect.{Database}
use Rattle.bike_book.specs.Tables.{TableName, Tables, rows_in, keys_of}
use Rattle.bike_schema.specs.Tables.{tables_of}
use Rattle.bike_readings.specs.ReadOff.{operator_of}
use Rattle.bike_readings.specs.Rules.{row_under, rows_below, IsGoodRow, MayLack, IsGoodAt, IsGoodKey}
use Rattle.bike_readings.proofs.Places.{under_has}
use Rattle.bike_readings.proofs.RulesLaws.{stored_in_order}
use Rattle.bike_judges.specs.declared.key.BadKey.{BadKey}
use Rattle.bike_judges.specs.Judging.{key_row}
use Rattle.bike_judges.specs.Passes.{first_failing, OfRow, Demands}
use Rattle.bike_judges.specs.Verdicts.{IsFirstFailing, IsTableVerdict}
use Rattle.bike_judges.proofs.LineLaw.{lines_verdict}
use Rattle.bike_ledger_rules.specs.Lines.{first_column, FindsFailing}
use Rattle.bike_ledger_rules.proofs.RiderFolds.{AreWide}

module _ (t : Tables) (name : TableName) where
  -- demands that are made of the same keys fail first at the same
  pub failing_same : (P Q : Row → Type 0) → ((key : Row) → P key → Q key) → ((key : Row) → Q key → P key) → (v : Option Row) → IsFirstFailing t name P v → IsFirstFailing t name Q v
  failing_same P Q to back None all = λ key. to key (all key)
  failing_same P Q to back (Some k) it = record { bad = λ q. it.bad (back k q); own = it.own; before = λ other low. to other (it.before other low) }

  pub demanded : (test : ℕ → Row → Bool) (key r : Row) → row_under t name key ≡ Some r → Demands t name test key → test (rows_below t name key) r ≡ true
  demanded test key r is h = subst (OfRow test (rows_below t name key)) is h

  pub demands : (test : ℕ → Row → Bool) (key r : Row) → row_under t name key ≡ Some r → test (rows_below t name key) r ≡ true → Demands t name test key
  demands test key r is h = subst (OfRow test (rows_below t name key)) (sym is) h

  pub lacking : (test : ℕ → Row → Bool) (key : Row) → row_under t name key ≡ None → Demands t name test key
  lacking test key is = subst (OfRow test (rows_below t name key)) (sym is) tt

  -- what is demanded of the rows
  pub record AsRows (P : Row → Type 0) : Type 0 where
    pub good : (key r : Row) → row_under t name key ≡ Some r → Has (rows_in t name) r → P key → IsGoodRow t (operator_of t) (rows_below t name key) name r
    pub from : (key r : Row) → row_under t name key ≡ Some r → Has (rows_in t name) r → IsGoodRow t (operator_of t) (rows_below t name key) name r → P key
    pub none : (key : Row) → row_under t name key ≡ None → P key

  pub verdict_of : ((key : Row) → MayLack name key) → (P : Row → Type 0) → AsRows P → (v : Option Row) → IsFirstFailing t name P v → IsTableVerdict t name v
  verdict_of lacks P it = failing_same P (IsGoodKey t name) (λ key. to key (row_under t name key) refl) (λ key. back key (row_under t name key) refl) where
    to : (key : Row) (o : Option Row) → row_under t name key ≡ o → P key → IsGoodAt t (operator_of t) name key (rows_below t name key) o
    to key None is p = lacks key
    to key (Some r) is p = it.good key r is (under_has (keys_of name) key (rows_in t name) r is).0 p

    back : (key : Row) (o : Option Row) → row_under t name key ≡ o → IsGoodAt t (operator_of t) name key (rows_below t name key) o → P key
    back key None is good = it.none key is
    back key (Some r) is good = it.from key r is (under_has (keys_of name) key (rows_in t name) r is).0 good

-- ---- one pass over each line by itself

-- a line begins with its row's key
abbrev pub BeginsLine : TableName → (Tables → Row → Row) → ℕ → Type 0
BeginsLine name line width = (t : Tables) (r : Row) → length r ≡ width → take 1 (line t r) ≡ take (keys_of name) r

pub lines_failing : (name : TableName) (line : Tables → Row → Row) (test : ℕ → Row → Bool) (width : ℕ) → BeginsLine name line width
    → (db : Database) → AreWide width (rows_in (tables_of db) name) → (found : Option BadKey)
    → ((v : Option Row) → first_failing test first_column 0 (map (line (tables_of db)) (rows_in (tables_of db) name)) ≡ v
    → option_map key_row found ≡ v)
    → FindsFailing name (λ t n row. test n (line t row)) db found
lines_failing name line test width begins db wide found says =
    let t = tables_of db in
    lines_verdict t name (stored_in_order db) (line t) test first_column (λ row has. begins t row (wide row has)) (option_map key_row found)
    (sym (says (first_failing test first_column 0 (map (line t) (rows_in t name))) refl))
