-- All keys are good exactly where all rows are and none is missing.
use Rattle.std.proofs.Common.{◌≡◌, ℕ, List, [], ◌∷◌, length, Bool, true, false, cond, filter, Option, Some, None, refl, sym, ap, ◌∙◌, subst, suc}
use Rattle.std.specs.Prelude.{take}
use Rattle.std.specs.Option.{IsSomeAnd}
use Rattle.std.specs.Ordering.{is_lt, ordering_reverse}
use Rattle.std.specs.declared.cmp.Ordering.TheVariants.{Equal}
use Rattle.sqlite_value.specs.Order.{Row, row_cmp}
use Rattle.sqlite_value.proofs.OrderLemmas.{row_cmp_total}
use Rattle.sqlite_rules.specs.Lists.{Has}
use Rattle.bike_operator.specs.Operator.{Operator}
use Rattle.bike_book.specs.Tables.{TableName, Tables, rows_in, keys_of}
use Rattle.bike_readings.specs.Rules.{AreInOrder, row_under, rows_below, IsGoodRow, MayLack, IsGoodAt}
use Rattle.bike_readings.proofs.Places.{has_under, under_has, lesser}

-- ---- keys that tie have the same rows below them

pub below_tied : (keys : ℕ) (key other : Row) → row_cmp key other ≡ Equal → (rows : List Row) → lesser keys key rows ≡ lesser keys other rows
below_tied keys key other tie [] = refl
below_tied keys key other tie (r ∷ rows) =
    let turned : row_cmp (take keys r) key ≡ row_cmp (take keys r) other =
    row_cmp_total.antisymm (take keys r) key ∙ ap ordering_reverse (row_cmp_total.congr key other (take keys r) tie) ∙ sym (row_cmp_total.antisymm (take keys r) other) in
    (λ i. length (cond (is_lt (turned i)) (r ∷ filter (λ row. is_lt (row_cmp (take keys row) key)) rows) (filter (λ row. is_lt (row_cmp (take keys row) key)) rows)))
    ∙ go (is_lt (row_cmp (take keys r) other)) (below_tied keys key other tie rows)
  where
    go : (b : Bool) → lesser keys key rows ≡ lesser keys other rows
        → length (cond b (r ∷ filter (λ row. is_lt (row_cmp (take keys row) key)) rows) (filter (λ row. is_lt (row_cmp (take keys row) key)) rows))
        ≡ length (cond b (r ∷ filter (λ row. is_lt (row_cmp (take keys row) other)) rows) (filter (λ row. is_lt (row_cmp (take keys row) other)) rows))
    go true rest = ap (λ (n : ℕ). suc n) rest
    go false rest = rest

-- what is demanded of a row that spells this
pub some_and : {A : Type 0} (Fact : A → Type 0) (o : Option A) (x : A) → o ≡ Some x → Fact x → IsSomeAnd o Fact
some_and {A} Fact o x is fact = subst (λ (q : Option A). IsSomeAnd q Fact) (sym is) fact

-- what a row spells of which something is demanded
pub record IsSomeWith {A : Type 0} (Fact : A → Type 0) (o : Option A) : Type 0 where
  pub value : A
  pub value_is : o ≡ Some value
  pub fact : Fact value

pub some_with : {A : Type 0} (Fact : A → Type 0) (o : Option A) → IsSomeAnd o Fact → IsSomeWith Fact o
some_with Fact None h = absurd h
some_with Fact (Some x) h = record { value = x; value_is = refl; fact = h }

pub some_is : {A : Type 0} (Fact : A → Type 0) (o : Option A) (x : A) → IsSomeAnd o Fact → o ≡ Some x → Fact x
some_is {A} Fact o x h is = subst (λ (q : Option A). IsSomeAnd q Fact) is h

-- no row is missing that has to be there
abbrev pub LacksNone : Tables → Type 0
LacksNone t = (name : TableName) (key : Row) → row_under t name key ≡ None → MayLack name key

module _ (s : Operator) (t : Tables) where
  abbrev pub AreGoodRows : Type 0
  AreGoodRows = (name : TableName) (row : Row) → Has (rows_in t name) row → IsGoodRow t s (rows_below t name (take (keys_of name) row)) name row

  abbrev pub AreGoodKeys : Type 0
  AreGoodKeys = (name : TableName) (key : Row) → IsGoodAt t s name key (rows_below t name key) (row_under t name key)

  pub keys_good : AreGoodRows → LacksNone t → AreGoodKeys
  keys_good rows lacks name key = go (row_under t name key) refl where
    go : (o : Option Row) → row_under t name key ≡ o → IsGoodAt t s name key (rows_below t name key) o
    go None e = lacks name key e
    go (Some r) e =
        let there = under_has (keys_of name) key (rows_in t name) r e in
        subst (λ (n : ℕ). IsGoodRow t s n name r) (below_tied (keys_of name) (take (keys_of name) r) key there.1 (rows_in t name)) (rows name r there.0)

  pub rows_good : AreInOrder t → AreGoodKeys → AreGoodRows
  rows_good up all name row has =
      subst (IsGoodAt t s name (take (keys_of name) row) (rows_below t name (take (keys_of name) row))) (has_under (keys_of name) (rows_in t name) row (up name) has)
      (all name (take (keys_of name) row))

  pub lacks_none : AreGoodKeys → LacksNone t
  lacks_none all name key none = subst (IsGoodAt t s name key (rows_below t name key)) none (all name key)
