-- What a query of one table answers.
use Rattle.std.proofs.Common.{◌≡◌, ℕ, ◌-◌, ◌^◌, List, [], ◌∷◌, ◌++◌, map, filter, flat_map, Bool, true, false, cond, None, unwrap_or, slice_get, refl, sym, ap, subst, ◌∙◌, nat_le}
use Rattle.std.specs.List.{list_all}
use Rattle.std.specs.List.Sorted.{IsPermutation, IsSorted}
use Rattle.std.proofs.lemmas.List.Sorted.{IsPermutation-sym}
use Rattle.sqlite_value.specs.declared.value.Value.{Value}
use Rattle.sqlite_value.specs.declared.keys.Key.{Key}
use Rattle.sqlite_value.specs.Order.{Row}
use Rattle.sqlite_trees.specs.Tree.{Trees}
use Rattle.sqlite_sql.specs.Term.{Term, holds}
use Rattle.sqlite_sql.specs.Query.{Query, inner, end, matches_as, IsAnswerAs, output, output_cmp, page, Output}
use Rattle.sqlite_sql.specs.Program.{overlay}
use Rattle.sqlite_rules.specs.Lists.{Has}
use Rattle.bike_sql.specs.Queries.{table_query}
use Rattle.bike_sql.proofs.RowListLemmas.{map_has, map_map, permuted}

pub no_overlay : (db : Trees) (tree : ℕ) → overlay db [] tree ≡ db tree
no_overlay db tree = elim (nat_le (2 ^ 31) tree) as (λ b. unwrap_or (cond b (slice_get {X = List Row} [] (tree - 2 ^ 31)) None) (db tree) ≡ db tree) [ true ↦ refl | false ↦ refl ]

chosen : {A B : Type 0} (p : A → Bool) (f : A → B) (xs : List A) → flat_map (λ x. cond (p x) (f x ∷ []) []) xs ≡ map f (filter p xs)
chosen p f [] = refl
chosen p f (x ∷ xs) =
    elim (p x) as (λ b. cond b (f x ∷ []) [] ++ flat_map (λ y. cond (p y) (f y ∷ []) []) xs
    ≡ map f (cond b (x ∷ filter p xs) (filter p xs))) [ true ↦ ap (λ l. f x ∷ l) (chosen p f xs) | false ↦ chosen p f xs ]

-- ---- the answer

module _ (tree : ℕ) (tests : List Term) (order : List (Term × Key)) (project : List Term) (db : Trees) (params : Row) where
  abbrev q : Query
  q = table_query tree tests order project

  -- the stored row passes WHERE
  abbrev pub passes : Row → Bool
  passes r = list_all (holds (params ∷ r ∷ [])) tests

  abbrev pub out : Row → Output
  out r = output q (params ∷ r ∷ [])

  pub matched : (lost : Value) → matches_as lost (overlay db []) tests (inner tree end) (params ∷ []) ≡ map (λ r. params ∷ r ∷ []) (filter passes (db tree))
  matched lost = ap (flat_map (λ r. matches_as lost (overlay db []) tests end ((params ∷ []) ++ r ∷ []))) (no_overlay db tree) ∙ chosen passes (λ r. params ∷ r ∷ []) (db tree)

  -- the rows that pass, as the query shows them, in an order that ORDER BY allows
  pub record Answered (rows : List Row) : Type 0 where
    pub outs : List Output
    pub same : IsPermutation (map out (filter passes (db tree))) outs
    pub sorted : IsSorted (output_cmp q) outs
    pub shown : rows ≡ map (λ o. o.1) outs

  -- whatever the LIMIT, the rows are a page of them
  pub answered_page : (limit : Term) (lost : Value) (rows : List Row) → IsAnswerAs lost (record q { limit = limit }) (overlay db []) params rows
      → (all : List Row) × Answered all × (rows ≡ page (record q { limit = limit }) params all)
  answered_page limit lost rows a = (
    map (λ o. o.1) a.ordered,
    record {
      outs = a.ordered;
      same = subst (λ k. IsPermutation k a.ordered) (a.distinct ∙ ap (map (output q)) (a.grouped ∙ matched lost) ∙ map_map (λ r. params ∷ r ∷ []) (output q) (filter passes (db tree))) a.same;
      sorted = a.sorted;
      shown = refl;
    },
    a.shown,
  )

  pub answered : (lost : Value) (rows : List Row) → IsAnswerAs lost q (overlay db []) params rows → Answered rows
  answered lost rows a = let it = answered_page q.limit lost rows a in subst Answered (sym it.2) it.1

  pub out_from : (rows : List Row) (a : Answered rows) (o : Output) → Has a.outs o → (r : Row) × Has (filter passes (db tree)) r × (o ≡ out r)
  out_from rows a o h = map_has out (filter passes (db tree)) o (permuted a.outs (map out (filter passes (db tree))) o (IsPermutation-sym _ _ a.same) h)
