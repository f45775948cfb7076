-- Lines of a union: what it shows of the rows of its tables. Where no two of them tie there is one order of them.
use Rattle.std.proofs.Common.{◌≡◌, ◌⊎◌, inl, inr, ℕ, List, [], ◌∷◌, ◌++◌, map, false, Ordering, Less, Equal, Greater, refl, sym, ap, subst, ◌∙◌}
use Rattle.std.specs.Cmp.{IsTotalOrder}
use Rattle.std.specs.List.{AllByRecursion, IsDistinct}
use Rattle.std.specs.List.Sorted.{IsPermutation}
use Rattle.std.specs.Ordering.{eq_by_cmp, is_eq, ordering_reverse}
use Rattle.std.proofs.lemmas.List.Sorted.{IsPermutation-map, IsPermutation-sym, IsPermutation-trans}
use Rattle.std.proofs.lemmas.Map.Keys.{IsDistinct-IsPermutation}
use Rattle.sqlite_value.specs.Order.{Row}
use Rattle.sqlite_sql.specs.Term.{Term, eval_all}
use Rattle.sqlite_rules.specs.Lists.{Has}
use Rattle.sqlite.specs.Effect.{Database}
use Rattle.bike_sql.specs.Layout.{Layout, table_of}
use Rattle.bike_sql.specs.Stands.{rows_of, Stands}
use Rattle.bike_sql.specs.View.{columns_of, by_key}
use Rattle.bike_sql.proofs.OrderLemmas.{all_from}
use Rattle.bike_sql.proofs.RowListLemmas.{map_has, map_map, map_same}
use Rattle.bike_sql.proofs.TreeLemmas.{by_key_total}
use Rattle.bike_sql.proofs.SortLemmas.{AreApartAll, order_permutes}
use Rattle.bike_sql.proofs.KeyOrderLemmas.{keyed_apart}
use Rattle.bike_sql.proofs.FrameLemmas.{rows_of_is}

-- ---- lines of which no two tie

unequal : (c : Ordering) → (c ≡ Equal → ⊥) → is_eq c ≡ false
unequal Less f = refl
unequal Equal f = absurd (f refl)
unequal Greater f = refl

-- of two lists, where no line of the one ties with one of the other
pub apart_append : {X : Type 0} {R : X → X → Ordering} (o : IsTotalOrder R) (xs ys : List X) → AreApartAll o xs → AreApartAll o ys → ((x y : X) → Has xs x → Has ys y → R x y ≡ Equal → ⊥)
    → AreApartAll o (xs ++ ys)
unfolding IsDistinct
apart_append o [] ys a b far = b
apart_append {X} {R} o (x ∷ xs) ys a b far = (each xs a.0, apart_append o xs ys a.1 b (λ z y h k. far z y (inr h) k))
  where
    each : (zs : List X) → AllByRecursion (λ y. eq_by_cmp R x y ≡ false) zs → AllByRecursion (λ y. eq_by_cmp R x y ≡ false) (zs ++ ys)
    each [] h = all_from (λ y. eq_by_cmp R x y ≡ false) ys (λ y there. unequal (R x y) (far x y (inl refl) there))
    each (z ∷ zs) h = (h.0, each zs h.1)

-- of rows that are apart, where two lines tie only if their rows do
apart_shown : {X Y : Type 0} {R : X → X → Ordering} {Q : Y → Y → Ordering} (o : IsTotalOrder R) (p : IsTotalOrder Q) (show : X → Y) (xs : List X)
    → ((a b : X) → Has xs a → Has xs b → Q (show a) (show b) ≡ Equal → R a b ≡ Equal) → AreApartAll o xs → AreApartAll p (map show xs)
unfolding IsDistinct
apart_shown o p show [] ties apart = tt
apart_shown {X} {Y} {R} {Q} o p show (x ∷ xs) ties apart = (each xs (λ y h. h) apart.0, apart_shown o p show xs (λ a b h k. ties a b (inr h) (inr k)) apart.1)
  where
    each : (ys : List X) → ((y : X) → Has ys y → Has xs y) → AllByRecursion (λ y. eq_by_cmp R x y ≡ false) ys → AllByRecursion (λ y. eq_by_cmp Q (show x) y ≡ false) (map show ys)
    each [] there all = tt
    each (y ∷ ys) there all = (
      unequal (Q (show x) (show y)) (λ tie. let t = ties x y (inl refl) (inr (there y (inl refl))) tie in let far : is_eq (R x y) ≡ false = all.0 in absurd (let e = rw t at far in cc)),
      each ys (λ z h. there z (inr h)) all.1,
    )

pub has_append : {X : Type 0} (xs ys : List X) (x : X) → Has (xs ++ ys) x → Has xs x ⊎ Has ys x
has_append [] ys x h = inr h
has_append (z ∷ xs) ys x (inl is) = inl (inl is)
has_append (z ∷ xs) ys x (inr later) = elim (has_append xs ys x later) [ inl here ↦ inl (inr here) | inr there ↦ inr there ]

-- ---- the lines of one table, `show` of each of its rows

module _ (keys : ℕ) (db : Database) (params : Row) (project : List Term) (n : ℕ) (layout : Layout) (it : Stands db n layout) (show : Row → Row) where
  abbrev f : Row → Row
  f = columns_of (table_of layout it.tree)

  abbrev seen : Row → Row
  seen r = eval_all project (params ∷ r ∷ [])

  in_rows : IsPermutation (map f (db.trees it.tree)) (rows_of n layout.name db)
  in_rows =
      subst (IsPermutation (map f (db.trees it.tree))) (sym (rows_of_is db n layout it))
      (order_permutes (by_key_total n) (map f (db.trees it.tree)) (keyed_apart n (table_of layout it.tree) (db.trees it.tree) it.keyed))

  -- they are what the union shows of its part
  pub side : (terms : List Term) (rows : List Row) → ((r : Row) → eval_all project (params ∷ eval_all terms (params ∷ r ∷ []) ∷ []) ≡ show (f r))
      → IsPermutation (map (λ r. eval_all terms (params ∷ r ∷ [])) (db.trees it.tree)) rows → IsPermutation (map show (rows_of n layout.name db)) (map seen rows)
  side terms rows shows same =
      let stored = db.trees it.tree in
      let shown_rows : map show (map f stored) ≡ map seen (map (λ r. eval_all terms (params ∷ r ∷ [])) stored) =
      map_map f show stored ∙ sym (map_same (λ r. eval_all project (params ∷ eval_all terms (params ∷ r ∷ []) ∷ [])) (λ r. show (f r)) shows stored)
      ∙ sym (map_map (λ r. eval_all terms (params ∷ r ∷ [])) seen stored) in
      IsPermutation-trans _ _ _ (IsPermutation-sym _ _ (IsPermutation-map show (map f stored) (rows_of n layout.name db) in_rows))
      (subst (λ xs. IsPermutation xs (map seen rows)) (sym shown_rows) (IsPermutation-map seen (map (λ r. eval_all terms (params ∷ r ∷ [])) stored) rows same))

  -- no two of them tie, where two lines tie only if their rows have one key
  pub lines_apart : ((r s : Row) → by_key keys (show (f r)) (show (f s)) ≡ Equal → by_key n (f r) (f s) ≡ Equal) → AreApartAll (by_key_total keys) (map show (rows_of n layout.name db))
  lines_apart ties =
      let flips = λ (x y : Row). ap is_eq ((by_key_total keys).antisymm x y) ∙ turn (by_key keys y x) in
      let apart : AreApartAll (by_key_total keys) (map show (map f (db.trees it.tree))) = apart_shown (by_key_total n) (by_key_total keys) show (map f (db.trees it.tree))
      (λ a b h k tie.
      let x = map_has f (db.trees it.tree) a h in
      let y = map_has f (db.trees it.tree) b k in
      rw (x.2, y.2) (ties x.0 y.0 (rw (x.2, y.2) at tie))) (keyed_apart n (table_of layout it.tree) (db.trees it.tree) it.keyed) in
      IsDistinct-IsPermutation (eq_by_cmp (by_key keys)) flips (map show (map f (db.trees it.tree))) (map show (rows_of n layout.name db))
      (IsPermutation-map show (map f (db.trees it.tree)) (rows_of n layout.name db) in_rows) apart
    where
      turn : (c : Ordering) → is_eq (ordering_reverse c) ≡ is_eq c
      turn Less = refl
      turn Equal = refl
      turn Greater = refl
