-- What a query of a table answers that is sorted by the table's key.
use Rattle.std.proofs.Common.{◌≡◌, inl, inr, ℕ, suc, List, [], ◌∷◌, length, map, take, filter, Bool, true, false, cond, Ordering, Less, Equal, Greater, refl, sym, ap, ap₂, ◌∙◌}
use Rattle.std.specs.List.{IsDistinct}
use Rattle.std.specs.Ordering.{eq_by_cmp, is_eq}
use Rattle.sqlite_value.specs.declared.keys.Key.{Key}
use Rattle.sqlite_value.specs.Order.{Row, column, value_cmp, row_cmp}
use Rattle.sqlite_value.specs.Keys.{rising}
use Rattle.sqlite_trees.specs.Tree.{Trees, rowid}
use Rattle.sqlite_sql.specs.Term.{Term, eval_all}
use Rattle.sqlite_sql.specs.Query.{key_cmp, Query, output_cmp, Output}
use Rattle.sqlite_sql.proofs.QueryLemmas.{output_cmp_total, key_cmp_up}
use Rattle.sqlite_schema.specs.declared.schema.Table.{Table}
use Rattle.sqlite_rules.specs.Lists.{Has}
use Rattle.bike_sql.specs.Keyed.{in_order}
use Rattle.bike_sql.specs.View.{columns_of, by_key, AreSpread, IsKeyed}
use Rattle.bike_sql.specs.Queries.{table_query, by_columns}
use Rattle.bike_sql.proofs.OrderLemmas.{all_has, all_from}
use Rattle.bike_sql.proofs.RowListLemmas.{map_has, map_map, map_same, has_filter}
use Rattle.bike_sql.proofs.TreeLemmas.{by_key_total}
use Rattle.sqlite_value.specs.Keys.{ascending}
use Rattle.sqlite_value.specs.declared.keys.Collation.TheVariants.{Binary}
use Rattle.bike_sql.proofs.SortLemmas.{AreApartAll, sorted_is, order_map}
use Rattle.bike_sql.proofs.AnswerLemmas.{passes, out, Answered}

keys_rise : (places : List ℕ) → map (λ (k : Term × Key). k.1) (by_columns places) ≡ rising (length places) []
keys_rise [] = refl
keys_rise (place ∷ places) = ap (λ ks. ascending Binary ∷ ks) (keys_rise places)

-- whatever else was joined to the row
sorts_by : (places : List ℕ) (params r : Row) (joined : List Row) → eval_all (map (λ (k : Term × Key). k.0) (by_columns places)) (params ∷ r ∷ joined) ≡ map (column r) places
sorts_by [] params r joined = refl
sorts_by (place ∷ places) params r joined = ap (λ vs. column r place ∷ vs) (sorts_by places params r joined)

length_columns : (places : List ℕ) (r : Row) → length (map (column r) places) ≡ length places
length_columns [] r = refl
length_columns (place ∷ places) r = ap suc (length_columns places r)

-- ORDER BY columns of the first table compares the rows at those columns
pub compares : (places : List ℕ) (params a b : Row) (more others : List Row)
    → key_cmp 0 (map (λ (k : Term × Key). k.1) (by_columns places)) (eval_all (map (λ (k : Term × Key). k.0) (by_columns places)) (params ∷ a ∷ more))
    (eval_all (map (λ (k : Term × Key). k.0) (by_columns places)) (params ∷ b ∷ others)) ≡ row_cmp (map (column a) places) (map (column b) places)
compares places params a b more others =
    rw (keys_rise places, sorts_by places params a more, sorts_by places params b others)
    (key_cmp_up (length places) [] (map (column a) places) (map (column b) places) (length_columns places a) (length_columns places b))

-- the rows that a keyed table shows are apart, wherever they stand
pub keyed_apart : (keys : ℕ) (table : Table) (rows : List Row) → IsKeyed keys table rows → AreApartAll (by_key_total keys) (map (columns_of table) rows)
unfolding IsDistinct
keyed_apart keys table rows keyed = each rows keyed.spread keyed.apart
  where
    unequal : (c : Ordering) → (c ≡ Equal → ⊥) → is_eq c ≡ false
    unequal Less f = refl
    unequal Equal f = absurd (f refl)
    unequal Greater f = refl

    each : (rs : List Row) → AreSpread rs → ((a b : Row) → Has rs a → Has rs b → by_key keys (columns_of table a) (columns_of table b) ≡ Equal → value_cmp (rowid a) (rowid b) ≡ Equal)
        → AreApartAll (by_key_total keys) (map (columns_of table) rs)
    each [] spread apart = tt
    each (r ∷ rs) spread apart = (
      all_from (λ y. is_eq (by_key keys (columns_of table r) y) ≡ false) (map (columns_of table) rs) (λ y has.
          let b = map_has (columns_of table) rs y has in
          let far = all_has (λ x. value_cmp (rowid r) (rowid x) ≡ Equal → ⊥) rs b.0 spread.0 b.1 in
          unequal (by_key keys (columns_of table r) y) (λ tie. far (apart r b.0 (inl refl) (inr b.1) (ap (by_key keys (columns_of table r)) (sym b.2) ∙ tie)))),
      each rs spread.1 (λ a b p s. apart a b (inr p) (inr s)),
    )

module _ (tree : ℕ) (tests : List Term) (places : List ℕ) (project : List Term) (db : Trees) (params : Row) (keys : ℕ) (table : Table)
    (first : (row : Row) → take keys (columns_of table row) ≡ map (column row) places) where
  abbrev order : List (Term × Key)
  order = by_columns places

  abbrev query : Query
  query = table_query tree tests order project

  abbrev o : Row → Output
  o = out tree tests order project db params

  abbrev test : Row → Bool
  test = passes tree tests order project db params

  pub same_order : (a b : Row) → output_cmp query (o a) (o b) ≡ by_key keys (columns_of table a) (columns_of table b)
  same_order a b =
      compares places params a b [] [] ∙ sym (ap₂ row_cmp (first a) (first b))

  distinct : (rows : List Row) → AreSpread rows → ((a b : Row) → Has rows a → Has rows b → by_key keys (columns_of table a) (columns_of table b) ≡ Equal → value_cmp (rowid a) (rowid b) ≡ Equal)
      → IsDistinct (eq_by_cmp (output_cmp query)) (map o (filter test rows))
  unfolding IsDistinct
  distinct [] spread apart = tt
  distinct (r ∷ rows) spread apart =
      let rest = distinct rows spread.1 (λ a b p s. apart a b (inr p) (inr s)) in
      elim (test r) as (λ b. IsDistinct (eq_by_cmp (output_cmp query)) (map o (cond b (r ∷ filter test rows) (filter test rows)))) [
        | true ↦ (
          all_from (λ y. is_eq (output_cmp query (o r) y) ≡ false) (map o (filter test rows)) (λ y has.
              let b = map_has o (filter test rows) y has in
              let there = (has_filter test rows b.0 b.1).0 in
              let far = all_has (λ x. value_cmp (rowid r) (rowid x) ≡ Equal → ⊥) rows b.0 spread.0 there in
              unequal (output_cmp query (o r) y) (λ tie. far (apart r b.0 (inl refl) (inr there) (sym (same_order r b.0) ∙ ap (output_cmp query (o r)) (sym b.2) ∙ tie)))),
          rest,
        )
        | false ↦ rest
      ]
    where
      unequal : (c : Ordering) → (c ≡ Equal → ⊥) → is_eq c ≡ false
      unequal Less f = refl
      unequal Equal f = absurd (f refl)
      unequal Greater f = refl

  -- ORDER BY the key gives the rows that pass in the order of their keys
  pub in_key_order : ((r : Row) → eval_all project (params ∷ r ∷ []) ≡ columns_of table r) → (rows : List Row) → IsKeyed keys table (db tree) → Answered tree tests order project db params rows
      → rows ≡ in_order (by_key keys) (map (columns_of table) (filter test (db tree)))
  in_key_order shows rows keyed a =
      let f = columns_of table in
      let found = filter test (db tree) in
      let by = λ (x y : Row). by_key keys (f x) (f y) in
      let outs : a.outs ≡ in_order (output_cmp query) (map o found) = sorted_is (output_cmp_total query) (map o found) a.outs a.same a.sorted (distinct (db tree) keyed.spread keyed.apart) in
      a.shown ∙ ap (map (λ (x : Output). x.1)) (outs ∙ order_map by (output_cmp query) o same_order found)
      ∙ map_map o (λ (x : Output). x.1) (in_order by found)
      ∙ map_same (λ r. eval_all project (params ∷ r ∷ [])) f shows (in_order by found)
      ∙ sym (order_map by (by_key keys) f (λ x y. refl) found)

  -- and so it does where it shows something of each row
  pub shown_in_key_order : (show : Row → Row) → ((r : Row) → eval_all project (params ∷ r ∷ []) ≡ show (columns_of table r)) → (rows : List Row) → IsKeyed keys table (db tree)
      → Answered tree tests order project db params rows → rows ≡ map show (in_order (by_key keys) (map (columns_of table) (filter test (db tree))))
  shown_in_key_order show shows rows keyed a =
      let f = columns_of table in
      let found = filter test (db tree) in
      let by = λ (x y : Row). by_key keys (f x) (f y) in
      let outs : a.outs ≡ in_order (output_cmp query) (map o found) = sorted_is (output_cmp_total query) (map o found) a.outs a.same a.sorted (distinct (db tree) keyed.spread keyed.apart) in
      a.shown ∙ ap (map (λ (x : Output). x.1)) (outs ∙ order_map by (output_cmp query) o same_order found)
      ∙ map_map o (λ (x : Output). x.1) (in_order by found)
      ∙ map_same (λ r. eval_all project (params ∷ r ∷ [])) (λ r. show (f r)) shows (in_order by found)
      ∙ sym (map_map f show (in_order by found)) ∙ ap (map show) (sym (order_map by (by_key keys) f (λ x y. refl) found))
