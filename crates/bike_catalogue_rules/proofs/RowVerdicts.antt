-- The first row that fails a test is the first bad one, where a row passes exactly where it is good.
use Rattle.std.proofs.Common.{◌≡◌, ℕ, Bool, true, ◌&&◌, Option, Some, None, is_some, refl}
use Rattle.std.specs.Option.{IsSomeAnd}
use Rattle.std.proofs.lemmas.Bool.{and_from}
use Rattle.sqlite_value.specs.Order.{Row}
use Rattle.sqlite_rules.specs.Lists.{Has}
use Rattle.bike_fields.proofs.Lengths.{both_hold}
use Rattle.bike_book.specs.Tables.{TableName, Tables, rows_in, keys_of}
use Rattle.bike_readings.specs.ReadOff.{operator_of}
use Rattle.bike_readings.specs.Rules.{row_under, rows_below, IsGoodRow, MayLack, IsGoodAt, IsGoodKey}
use Rattle.bike_readings.proofs.Places.{under_has}
use Rattle.bike_judges.specs.Passes.{OfRow, Demands}
use Rattle.bike_judges.specs.Verdicts.{IsFirstFailing, IsTableVerdict}
use Rattle.bike_judges.specs.Least.{least_key}
use Rattle.bike_judges.proofs.LeastLaw.{least_verdict}

-- ---- what a row spells

pub good_some : {A : Type 0} (Fact : A → Type 0) (o : Option A) → is_some o ≡ true → ((x : A) → o ≡ Some x → Fact x) → IsSomeAnd o Fact
good_some Fact None is each = absurd cc
good_some Fact (Some x) is each = each x refl

pub some_good : {A : Type 0} (Fact : A → Type 0) (o : Option A) → IsSomeAnd o Fact → is_some o ≡ true
some_good Fact None good = absurd good
some_good Fact (Some x) good = refl

-- ---- verdicts

module _ (t : Tables) (name : TableName) (test : ℕ → Row → Bool) where
  -- a row passes exactly where it is good
  pub record IsTestOf : Type 0 where
    pub may_lack : (key : Row) → MayLack name key
    pub good : (below : ℕ) (r : Row) → Has (rows_in t name) r → test below r ≡ true → IsGoodRow t (operator_of t) below name r
    pub passes : (below : ℕ) (r : Row) → Has (rows_in t name) r → IsGoodRow t (operator_of t) below name r → test below r ≡ true

  module _ (it : IsTestOf) where
    to_good : (key : Row) → Demands t name test key → IsGoodKey t name key
    to_good key = go (row_under t name key) refl where
      go : (o : Option Row) → row_under t name key ≡ o → OfRow test (rows_below t name key) o → IsGoodAt t (operator_of t) name key (rows_below t name key) o
      go None e h = it.may_lack key
      go (Some r) e h = it.good (rows_below t name key) r (under_has (keys_of name) key (rows_in t name) r e).0 h

    to_demands : (key : Row) → IsGoodKey t name key → Demands t name test key
    to_demands key = go (row_under t name key) refl where
      go : (o : Option Row) → row_under t name key ≡ o → IsGoodAt t (operator_of t) name key (rows_below t name key) o → OfRow test (rows_below t name key) o
      go None e h = tt
      go (Some r) e h = it.passes (rows_below t name key) r (under_has (keys_of name) key (rows_in t name) r e).0 h

    pub test_verdict : (verdict : Option Row) → IsFirstFailing t name (Demands t name test) verdict → IsTableVerdict t name verdict
    test_verdict None all = λ key. to_good key (all key)
    test_verdict (Some key) first = record { bad = λ good. first.bad (to_demands key good); own = first.own; before = λ other low. to_good other (first.before other low) }

-- ---- two tests

module _ (t : Tables) (name : TableName) (first second : ℕ → Row → Bool) where
  abbrev pub both : ℕ → Row → Bool
  both n r = first n r && second n r

  both_demanded : (key : Row) → Demands t name first key × Demands t name second key → Demands t name both key
  both_demanded key = go (row_under t name key) where
    go : (o : Option Row) → OfRow first (rows_below t name key) o × OfRow second (rows_below t name key) o → OfRow both (rows_below t name key) o
    go None h = tt
    go (Some r) h = and_from (first (rows_below t name key) r) (second (rows_below t name key) r) h.0 h.1

  each_demanded : (key : Row) → Demands t name both key → Demands t name first key × Demands t name second key
  each_demanded key = go (row_under t name key) where
    go : (o : Option Row) → OfRow both (rows_below t name key) o → OfRow first (rows_below t name key) o × OfRow second (rows_below t name key) o
    go None h = (tt, tt)
    go (Some r) h = both_hold (first (rows_below t name key) r) (second (rows_below t name key) r) h

  -- the lesser of the first keys that fail two tests is the first that fails both at once
  pub both_verdict : (a b : Option Row) → IsFirstFailing t name (Demands t name first) a → IsFirstFailing t name (Demands t name second) b → IsFirstFailing t name (Demands t name both) (least_key a b)
  both_verdict a b one two = go (least_key a b) (least_verdict t name (Demands t name first) (Demands t name second) a b one two) where
    go : (v : Option Row) → IsFirstFailing t name (λ key. Demands t name first key × Demands t name second key) v → IsFirstFailing t name (Demands t name both) v
    go None all = λ key. both_demanded key (all key)
    go (Some key) it = record { bad = λ h. it.bad (each_demanded key h); own = it.own; before = λ other low. both_demanded other (it.before other low) }
