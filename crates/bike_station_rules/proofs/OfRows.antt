-- What is demanded of keys, by what is demanded of rows.
use Rattle.std.proofs.Common.{◌≡◌, ℕ, Bool, true, Option, Some, None, refl}
use Rattle.sqlite_value.specs.Order.{Row}
use Rattle.sqlite_rules.specs.Lists.{Has}
use Rattle.bike_book.specs.Tables.{TableName, Tables, rows_in, keys_of}
use Rattle.bike_readings.specs.ReadOff.{operator_of}
use Rattle.bike_readings.specs.Rules.{row_under, rows_below, IsGoodKey, IsGoodRow, IsGoodAt, MayLack}
use Rattle.bike_readings.proofs.Places.{under_has}
use Rattle.bike_judges.specs.Passes.{Demands, OfRow}
use Rattle.bike_judges.specs.Verdicts.{IsFirstFailing}

module _ (t : Tables) (name : TableName) where
  -- the test of a row says just what is demanded of it
  pub record IsTestOf (test : ℕ → Row → Bool) : Type 0 where
    pub good : (below : ℕ) (row : Row) → Has (rows_in t name) row → test below row ≡ true → IsGoodRow t (operator_of t) below name row
    pub passes : (below : ℕ) (row : Row) → Has (rows_in t name) row → IsGoodRow t (operator_of t) below name row → test below row ≡ true

  module _ (test : ℕ → Row → Bool) (it : IsTestOf test) (lacks : (key : Row) → MayLack name key) where
    pub demands_good : (key : Row) → Demands t name test key → IsGoodKey t name key
    demands_good key demands = go (row_under t name key) refl demands where
      go : (o : Option Row) → row_under t name key ≡ o → OfRow test (rows_below t name key) o → IsGoodAt t (operator_of t) name key (rows_below t name key) o
      go None e d = lacks key
      go (Some r) e d = it.good (rows_below t name key) r (under_has (keys_of name) key (rows_in t name) r e).0 d

    pub good_demands : (key : Row) → IsGoodKey t name key → Demands t name test key
    good_demands key good = go (row_under t name key) refl good where
      go : (o : Option Row) → row_under t name key ≡ o → IsGoodAt t (operator_of t) name key (rows_below t name key) o → OfRow test (rows_below t name key) o
      go None e g = tt
      go (Some r) e g = it.passes (rows_below t name key) r (under_has (keys_of name) key (rows_in t name) r e).0 g

-- what says the same fails first at the same key
pub same_verdict : (t : Tables) (name : TableName) (P Q : Row → Type 0) → ((key : Row) → P key → Q key) → ((key : Row) → Q key → P key) → (v : Option Row) → IsFirstFailing t name P v
    → IsFirstFailing t name Q v
same_verdict t name P Q to from None all = λ key. to key (all key)
same_verdict t name P Q to from (Some key) it = record { bad = λ q. it.bad (from key q); own = it.own; before = λ other less. to other (it.before other less) }
