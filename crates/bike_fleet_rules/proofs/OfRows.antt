-- What is demanded of keys, by what is demanded of rows.
use Rattle.std.proofs.Common.{◌≡◌, ℕ, ◌&&◌, Bool, true, false, Option, Some, None, refl, subst}
use Rattle.sqlite_value.specs.Order.{Row}
use Rattle.sqlite_rules.specs.Lists.{Has}
use Rattle.bike_book.specs.Tables.{TableName, Tables, rows_in, keys_of}
use Rattle.bike_readings.specs.ReadOff.{operator_of}
use Rattle.bike_readings.specs.Rules.{row_under, rows_below, IsGoodKey, IsGoodRow, IsGoodAt, MayLack}
use Rattle.bike_readings.proofs.Places.{under_has}
use Rattle.bike_judges.specs.Passes.{Demands, OfRow}
use Rattle.bike_judges.specs.Verdicts.{IsFirstFailing}

pub both_true : (a b : Bool) → a ≡ true → b ≡ true → a && b ≡ true
both_true true b e f = f
both_true false b e f = e

pub first_true : (a b : Bool) → a && b ≡ true → a ≡ true
first_true true b e = refl
first_true false b e = e

pub second_true : (a b : Bool) → a && b ≡ true → b ≡ true
second_true true b e = e
second_true false b e = absurd cc

module _ (t : Tables) (name : TableName) where
  -- it is demanded of each row with so many rows below it
  abbrev pub OfEach : (ℕ → Row → Type 0) → Row → Type 0
  OfEach Fact key = (row : Row) → row_under t name key ≡ Some row → Fact (rows_below t name key) row

  pub demanded : (test : ℕ → Row → Bool) (key : Row) → Demands t name test key → OfEach (λ n row. test n row ≡ true) key
  demanded test key it row is = subst (OfRow test (rows_below t name key)) is it

  pub demands_of : (test : ℕ → Row → Bool) (key : Row) → OfEach (λ n row. test n row ≡ true) key → Demands t name test key
  demands_of test key each = go (row_under t name key) refl where
    go : (o : Option Row) → row_under t name key ≡ o → OfRow test (rows_below t name key) o
    go None e = tt
    go (Some row) e = each row e

  -- all of it is demanded of a good row, and nothing else
  pub record SaysGood (Fact : ℕ → Row → Type 0) : Type 0 where
    pub good : (below : ℕ) (row : Row) → Has (rows_in t name) row → Fact below row → IsGoodRow t (operator_of t) below name row
    pub says : (below : ℕ) (row : Row) → Has (rows_in t name) row → IsGoodRow t (operator_of t) below name row → Fact below row

  module _ (Fact : ℕ → Row → Type 0) (it : SaysGood Fact) (lacks : (key : Row) → MayLack name key) where
    pub good_key : (key : Row) → OfEach Fact key → IsGoodKey t name key
    good_key key each = go (row_under t name key) refl where
      go : (o : Option Row) → row_under t name key ≡ o → IsGoodAt t (operator_of t) name key (rows_below t name key) o
      go None e = lacks key
      go (Some r) e = it.good (rows_below t name key) r (under_has (keys_of name) key (rows_in t name) r e).0 (each r e)

    pub of_good_key : (key : Row) → IsGoodKey t name key → OfEach Fact key
    of_good_key key good row is =
        it.says (rows_below t name key) row (under_has (keys_of name) key (rows_in t name) row is).0 (subst (IsGoodAt t (operator_of t) name key (rows_below t name key)) is good)

-- what says the same fails first at the same key
pub same_verdict : (t : Tables) (name : TableName) (P Q : Row → Type 0) → ((key : Row) → P key → Q key) → ((key : Row) → Q key → P key) → (v : Option Row) → IsFirstFailing t name P v
    → IsFirstFailing t name Q v
same_verdict t name P Q to from None all = λ key. to key (all key)
same_verdict t name P Q to from (Some key) it = record { bad = λ q. it.bad (from key q); own = it.own; before = λ other less. to other (it.before other less) }
