-- UNION ALL of two tables, sorted by what it shows, answers the rows of both in that order. Where what comes first tells the tables apart, these are the rows of the one and then those of the other.
use Rattle.std.proofs.Common.{◌≡◌, inl, inr, ℕ, ◌^◌, List, [], ◌∷◌, ◌++◌, map, flat_map, take, length, cond, true, false, nat_le, Less, refl, sym, ap, ap₂, subst, ◌∙◌}
use Rattle.std.specs.Ordering.{is_lt}
use Rattle.std.specs.List.Sorted.{IsPermutation}
use Rattle.std.proofs.lemmas.List.{map-append}
use Rattle.std.proofs.lemmas.List.Sorted.{IsPermutation-map, IsPermutation-sym, IsPermutation-trans, IsPermutation-append}
use Rattle.sqlite_value.specs.declared.value.Value.TheVariants.{Null}
use Rattle.sqlite_value.specs.declared.keys.Collation.{Collation}
use Rattle.sqlite_value.specs.declared.keys.Collation.TheVariants.{Binary}
use Rattle.sqlite_value.specs.Order.{Row, column, row_cmp}
use Rattle.sqlite_trees.specs.Tree.{Trees}
use Rattle.sqlite_sql.specs.Term.{Term, lit, eval_all}
use Rattle.sqlite_sql.specs.Query.{Query, IsAnswerAs, IsSureAnswer, output, Output, output_cmp}
use Rattle.sqlite_sql.specs.Program.{overlay, selected, combined, Computes}
use Rattle.sqlite_sql.specs.declared.query.SetOp.TheVariants.{UnionAll}
use Rattle.sqlite_sql.proofs.QueryLemmas.{output_cmp_total}
use Rattle.sqlite_schema.specs.declared.command.Command.TheVariants.{Select}
use Rattle.sqlite_schema.specs.Program.{let_in}
use Rattle.sqlite_rules.specs.Lists.{Has}
use Rattle.sqlite.specs.Effect.{Database}
use Rattle.bike_sql.specs.Laws.{Reads}
use Rattle.bike_sql.specs.Layout.{Layout, table_of}
use Rattle.bike_sql.specs.Stands.{rows_of, Stands}
use Rattle.bike_sql.specs.Answer.{HasOneAnswer}
use Rattle.bike_sql.specs.Keyed.{in_order}
use Rattle.bike_sql.specs.View.{columns_of, by_key}
use Rattle.bike_sql.specs.Queries.{table_query, by_columns, union_tree, union_tables, union_query}
use Rattle.bike_sql.proofs.OrderLemmas.{all_from, all_has, Rises, rises, rises_append}
use Rattle.bike_sql.proofs.RowListLemmas.{map_has, map_map, map_same, filter_all, permuted}
use Rattle.bike_sql.proofs.TreeLemmas.{by_key_total}
use Rattle.bike_sql.proofs.SortLemmas.{NoneAbove, AreApartAll, ascends, ordered_is, order_permutes, order_map, rising_apart, rising_is}
use Rattle.bike_sql.proofs.AnswerLemmas.{no_overlay, out, answered}
use Rattle.bike_sql.proofs.KeyOrderLemmas.{compares, keyed_apart}
use Rattle.bike_sql.proofs.FrameLemmas.{rows_of_is}

-- ---- one part: the rows of a table, in some order

module _ (tree : ℕ) (project : List Term) (collations : List Collation) (db : Trees) (params : Row) where
  abbrev pub part : Query
  part = record (table_query tree [] [] project) { collations = collations }

  each : (rows : List Row) → flat_map (λ r. cond true ((params ∷ r ∷ []) ∷ []) []) rows ≡ map (λ r. params ∷ r ∷ []) rows
  each [] = refl
  each (r ∷ rows) = ap (λ l. (params ∷ r ∷ []) ∷ l) (each rows)

  pub part_rows : (rows : List Row) → IsAnswerAs Null part db params rows → IsPermutation (map (λ r. eval_all project (params ∷ r ∷ [])) (db tree)) rows
  part_rows rows a =
      let kept : a.kept ≡ map (output part) (map (λ r. params ∷ r ∷ []) (db tree)) = a.distinct ∙ ap (map (output part)) (a.grouped ∙ each (db tree)) in
      let moved : IsPermutation (map (λ (o : Output). o.1) a.kept) (map (λ (o : Output). o.1) a.ordered) = IsPermutation-map (λ (o : Output). o.1) a.kept a.ordered a.same in
      let from : map (λ (o : Output). o.1) a.kept ≡ map (λ r. eval_all project (params ∷ r ∷ [])) (db tree) =
      ap (map (λ (o : Output). o.1)) (kept ∙ map_map (λ r. params ∷ r ∷ []) (output part) (db tree)) ∙ map_map (λ r. output part (params ∷ r ∷ [])) (λ (o : Output). o.1) (db tree) in
      subst (IsPermutation (map (λ r. eval_all project (params ∷ r ∷ [])) (db tree))) (sym a.shown) (subst (λ xs. IsPermutation xs (map (λ (o : Output). o.1) a.ordered)) from moved)

module _ (t u : ℕ) (first second : List Term) (db : Trees) (params : Row) where
  -- the rows of each part, and both in turn
  pub record Parts (P : List (List Row) → Type 0) : Type 0 where
    pub left : List Row
    pub right : List Row
    pub left_is : IsPermutation (map (λ r. eval_all first (params ∷ r ∷ [])) (db t)) left
    pub right_is : IsPermutation (map (λ r. eval_all second (params ∷ r ∷ [])) (db u)) right
    pub whole : P (left ∷ right ∷ (left ++ right) ∷ [])

  module _ (collations by : List Collation) (width : ℕ) (stored_t : nat_le (2 ^ 31) t ≡ false) (stored_u : nat_le (2 ^ 31) u ≡ false) where
    under : (tables : List (List Row)) (tree : ℕ) → nat_le (2 ^ 31) tree ≡ false → overlay db tables tree ≡ db tree
    under tables tree low = rw low refl

    pub parted : (P : List (List Row) → Type 0) → Computes db params [] (selected (part t first collations db params) ∷ selected (part u second collations db params) ∷ combined UnionAll 0 1 width by
        ∷ []) P → Parts P
    parted P (inr (going, none, more)) = elim none [ ]
    parted P (inl (left, a, inr (going, none, more))) = elim none [ ]
    parted P (inl (left, a, inl (right, b, inr (going, none, more)))) = elim none [ ]
    parted P (inl (left, a, inl (right, b, inl (both, is, whole)))) = record {
      left = left;
      right = right;
      left_is = subst (λ rows. IsPermutation (map (λ r. eval_all first (params ∷ r ∷ [])) rows) left) (under [] t stored_t) (part_rows t first collations (overlay db []) params left (a Null));
      right_is =
          subst (λ rows. IsPermutation (map (λ r. eval_all second (params ∷ r ∷ [])) rows) right) (under (left ∷ []) u stored_u)
          (part_rows u second collations (overlay db (left ∷ [])) params right (b Null));
      whole = subst (λ l. P (left ∷ right ∷ l ∷ [])) is whole;
    }

-- ---- both, in the order of what is shown

module _ (tree : ℕ) (keys : ℕ) (places : List ℕ) (project : List Term) (trees : Trees) (params : Row) where
  abbrev shown : Row → Row
  shown r = eval_all project (params ∷ r ∷ [])

  abbrev query : Query
  query = table_query tree [] (by_columns places) project

  abbrev o : Row → Output
  o = out tree [] (by_columns places) project trees params

  unlaid : overlay trees [] ≡ trees
  unlaid = λ i t. no_overlay trees t i

  -- a permutation of the rows, in which no key falls
  pub union_rows : ((r : Row) → take keys (shown r) ≡ map (column r) places) → (rows : List Row) → IsAnswerAs Null query trees params rows
      → IsPermutation (map shown (trees tree)) rows × NoneAbove (by_key_total keys) rows
  union_rows first rows answer =
      let a = answered tree [] (by_columns places) project trees params Null rows (subst (λ d. IsAnswerAs Null query d params rows) (sym unlaid) answer) in
      let same : IsPermutation (map o (trees tree)) a.outs = subst (λ rs. IsPermutation (map o rs) a.outs) (filter_all (trees tree)) a.same in
      let moved : IsPermutation (map (λ (x : Output). x.1) (map o (trees tree))) (map (λ (x : Output). x.1) a.outs) = IsPermutation-map (λ (x : Output). x.1) (map o (trees tree)) a.outs same in (
        subst (IsPermutation (map shown (trees tree))) (sym a.shown) (subst (λ xs. IsPermutation xs (map (λ (x : Output). x.1) a.outs)) (map_map o (λ (x : Output). x.1) (trees tree)) moved),
        subst (NoneAbove (by_key_total keys)) (sym a.shown) (rise a.outs (λ x h. map_has o (trees tree) x (permuted a.outs (map o (trees tree)) x (IsPermutation-sym _ _ same) h))
            (ascends (output_cmp_total query) a.outs a.sorted)),
      )
    where
      compared : (a b : Row) → output_cmp query (o a) (o b) ≡ by_key keys (shown a) (shown b)
      compared a b = compares places params a b [] [] ∙ sym (ap₂ row_cmp (first a) (first b))

      rise : (outs : List Output) → ((x : Output) → Has outs x → (r : Row) × Has (trees tree) r × (x ≡ o r)) → NoneAbove (output_cmp_total query) outs
          → NoneAbove (by_key_total keys) (map (λ (x : Output). x.1) outs)
      rise [] from up = tt
      rise (x ∷ outs) from up = (
        all_from (λ y. is_lt (by_key keys y x.1) ≡ false) (map (λ (p : Output). p.1) outs) (λ y has.
            let p = map_has (λ (p : Output). p.1) outs y has in
            let a = from x (inl refl) in
            let b = from p.0 (inr p.1) in
            let not_below : is_lt (output_cmp query p.0 x) ≡ false = all_has (λ z. is_lt (output_cmp query z x) ≡ false) outs p.0 up.0 p.1 in
            let turned : is_lt (output_cmp query (o b.0) (o a.0)) ≡ false = subst (λ z. is_lt (output_cmp query (o b.0) z) ≡ false) a.2 (subst (λ z. is_lt (output_cmp query z x) ≡ false) b.2 not_below) in
            let low : y ≡ shown b.0 = p.2 ∙ ap (λ (z : Output). z.1) b.2 in
            let high : x.1 ≡ shown a.0 = ap (λ (z : Output). z.1) a.2 in
            rw (low, high) (ap is_lt (sym (compared b.0 a.0)) ∙ turned)),
        rise outs (λ y has. from y (inr has)) up.1,
      )

-- A union of two keyed tables, of whose rows it shows `left` and `right`.
module _ (keys : ℕ) (k1 k2 : ℕ) (a b : Layout) (db : Database) (was : Stands db k1 a) (also : Stands db k2 b) (text : List ℕ) (params : Row) (first second project : List Term)
    (collations : List Collation) (places : List ℕ) (names : List (List ℕ)) (left right : Row → Row)
    (means : Reads db.schema text (Select (record { lets = union_tables was.tree also.tree first second collations; body = union_query places project }) names))
    (keyed_by : (r : Row) → take keys (eval_all project (params ∷ r ∷ [])) ≡ map (column r) places)
    (shows_left : (r : Row) → eval_all project (params ∷ eval_all (lit Null ∷ first) (params ∷ r ∷ []) ∷ []) ≡ left (columns_of (table_of a was.tree) r))
    (shows_right : (r : Row) → eval_all project (params ∷ eval_all (lit Null ∷ second) (params ∷ r ∷ []) ∷ []) ≡ right (columns_of (table_of b also.tree) r)) where
  abbrev both : List Row
  both = map left (rows_of k1 a.name db) ++ map right (rows_of k2 b.name db)

  abbrev body : Query
  body = union_query places project

  abbrev seen : Row → Row
  seen r = eval_all project (params ∷ r ∷ [])

  abbrev computed : (P : List (List Row) → Type 0) → Computes db.trees params [] (map let_in (union_tables was.tree also.tree first second collations)) P
      → Parts was.tree also.tree (lit Null ∷ first) (lit Null ∷ second) db.trees params P
  computed = parted was.tree also.tree (lit Null ∷ first) (lit Null ∷ second) db.trees params (Binary ∷ []) collations (length collations) was.has.stored also.has.stored

  -- the rows of one table, as the union shows them
  side : (n : ℕ) (layout : Layout) (it : Stands db n layout) (parts : List Term) (show : Row → Row) (rows : List Row)
      → ((r : Row) → eval_all project (params ∷ eval_all parts (params ∷ r ∷ []) ∷ []) ≡ show (columns_of (table_of layout it.tree) r))
      → IsPermutation (map (λ r. eval_all parts (params ∷ r ∷ [])) (db.trees it.tree)) rows → IsPermutation (map show (rows_of n layout.name db)) (map seen rows)
  side n layout it parts show rows shows same =
      let f = columns_of (table_of layout it.tree) in
      let stored = db.trees it.tree in
      let ordered : IsPermutation (map f stored) (rows_of n layout.name db) = subst (IsPermutation (map f stored)) (sym (rows_of_is db n layout it)) (order_permutes (by_key_total n) (map f stored) (keyed_apart n (table_of layout it.tree) stored it.keyed)) in
      let shown_rows : map show (map f stored) ≡ map seen (map (λ r. eval_all parts (params ∷ r ∷ [])) stored) =
      map_map f show stored ∙ sym (map_same (λ r. eval_all project (params ∷ eval_all parts (params ∷ r ∷ []) ∷ [])) (λ r. show (f r)) shows stored)
      ∙ sym (map_map (λ r. eval_all parts (params ∷ r ∷ [])) seen stored) in
      IsPermutation-trans _ _ _ (IsPermutation-sym _ _ (IsPermutation-map show (map f stored) (rows_of n layout.name db) ordered))
      (subst (λ xs. IsPermutation xs (map seen rows)) (sym shown_rows) (IsPermutation-map seen (map (λ r. eval_all parts (params ∷ r ∷ [])) stored) rows same))

  one : AreApartAll (by_key_total keys) both → (rows : List Row) (p : Parts was.tree also.tree (lit Null ∷ first) (lit Null ∷ second) db.trees params
      (λ tables. IsAnswerAs Null body (overlay db.trees tables) params rows)) → rows ≡ in_order (by_key keys) both
  one apart rows p =
      let trees = overlay db.trees (p.left ∷ p.right ∷ (p.left ++ p.right) ∷ []) in
      let it = union_rows union_tree keys places project trees params keyed_by rows p.whole in
      let sides : IsPermutation both (map seen (p.left ++ p.right)) = subst (IsPermutation both) (sym (map-append seen p.left p.right))
      (IsPermutation-append (map left (rows_of k1 a.name db)) (map seen p.left) (map right (rows_of k2 b.name db)) (map seen p.right)
      (side k1 a was (lit Null ∷ first) left p.left shows_left p.left_is) (side k2 b also (lit Null ∷ second) right p.right shows_right p.right_is)) in
      ordered_is (by_key_total keys) both rows (IsPermutation-trans _ _ _ sides it.0) it.1 apart

  -- where no two rows have one key: the rows of both, in the order of what it shows
  pub union_answer : AreApartAll (by_key_total keys) both → HasOneAnswer db text params (in_order (by_key keys) both)
  union_answer apart = record {
    program = record { lets = union_tables was.tree also.tree first second collations; body = body };
    names = names;
    means = means;
    whole = λ rows answer.
        let p = computed (λ tables. IsSureAnswer body (overlay db.trees tables) params rows) answer in
        one apart rows (record { left = p.left; right = p.right; left_is = p.left_is; right_is = p.right_is; whole = p.whole Null });
    begins = λ rows start.
        let p = computed (λ tables. (tail : List Row) × IsSureAnswer body (overlay db.trees tables) params (rows ++ tail)) start in
        (p.whole.0, one apart (rows ++ p.whole.0) (record { left = p.left; right = p.right; left_is = p.left_is; right_is = p.right_is; whole = p.whole.1 Null }));
  }

  -- what is shown of a table's rows rises, where it is in the order of their keys
  shown_rises : (n : ℕ) (layout : Layout) (it : Stands db n layout) (show : Row → Row)
      → ((r s : Row) → by_key keys (show (columns_of (table_of layout it.tree) r)) (show (columns_of (table_of layout it.tree) s))
      ≡ by_key n (columns_of (table_of layout it.tree) r) (columns_of (table_of layout it.tree) s))
      → Rises (by_key_total keys) (map show (rows_of n layout.name db))
  shown_rises n layout it show keeps =
      let f = columns_of (table_of layout it.tree) in
      let stored = db.trees it.tree in
      let by = λ (x y : Row). by_key n (f x) (f y) in
      let ordered : in_order (by_key keys) (map (λ r. show (f r)) stored) ≡ map show (rows_of n layout.name db) =
      order_map by (by_key keys) (λ r. show (f r)) keeps stored ∙ sym (map_map f show (in_order by stored))
      ∙ ap (map show) (sym (order_map by (by_key n) f (λ x y. refl) stored) ∙ sym (rows_of_is db n layout it)) in
      subst (Rises (by_key_total keys)) ordered (rises (by_key_total keys) (map (λ r. show (f r)) stored))

  -- where it shows each table in the order of its keys, and what comes first tells the tables apart: the rows of the one, and then those of the other
  pub ranked_answer : ((r s : Row) → by_key keys (left (columns_of (table_of a was.tree) r)) (left (columns_of (table_of a was.tree) s))
      ≡ by_key k1 (columns_of (table_of a was.tree) r) (columns_of (table_of a was.tree) s))
      → ((r s : Row) → by_key keys (right (columns_of (table_of b also.tree) r)) (right (columns_of (table_of b also.tree) s))
      ≡ by_key k2 (columns_of (table_of b also.tree) r) (columns_of (table_of b also.tree) s))
      → ((r s : Row) → by_key keys (left r) (right s) ≡ Less) → HasOneAnswer db text params both
  ranked_answer keeps_left keeps_right ranks =
      let one_side = map left (rows_of k1 a.name db) in
      let other_side = map right (rows_of k2 b.name db) in
      let up : Rises (by_key_total keys) both = rises_append (by_key_total keys) one_side other_side (shown_rises k1 a was left keeps_left) (shown_rises k2 b also right keeps_right)
      (λ x y p q.
      let r = map_has left (rows_of k1 a.name db) x p in
      let s = map_has right (rows_of k2 b.name db) y q in
      rw (r.2, s.2) (ranks r.0 s.0)) in
      subst (HasOneAnswer db text params) (rising_is (by_key_total keys) both up) (union_answer (rising_apart (by_key_total keys) both up))
