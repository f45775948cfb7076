-- SELECT .. UNION ALL SELECT .. UNION ALL SELECT .. ORDER BY what they show answers the lines of three tables, mixed in that order.
use Rattle.std.proofs.Common.{◌≡◌, inl, inr, ℕ, ◌^◌, List, [], ◌∷◌, ◌++◌, map, take, length, false, nat_le, Equal, refl, sym, ap, subst, ◌∙◌}
use Rattle.std.specs.List.Sorted.{IsPermutation}
use Rattle.std.proofs.lemmas.List.{map-append}
use Rattle.std.proofs.lemmas.List.Sorted.{IsPermutation-trans, IsPermutation-append}
use Rattle.sqlite_value.specs.declared.value.Value.TheVariants.{Null}
use Rattle.sqlite_value.specs.declared.keys.Collation.{Collation}
use Rattle.sqlite_value.specs.declared.keys.Collation.TheVariants.{Binary}
use Rattle.sqlite_value.specs.Order.{Row, column}
use Rattle.sqlite_trees.specs.Tree.{Trees}
use Rattle.sqlite_sql.specs.Term.{Term, lit, eval_all}
use Rattle.sqlite_sql.specs.Query.{Query, IsAnswerAs, IsSureAnswer}
use Rattle.sqlite_sql.specs.Program.{overlay, selected, combined, Computes}
use Rattle.sqlite_sql.specs.declared.query.SetOp.TheVariants.{UnionAll}
use Rattle.sqlite_schema.specs.declared.command.Command.TheVariants.{Select}
use Rattle.sqlite_schema.specs.Program.{let_in}
use Rattle.sqlite.specs.Effect.{Database}
use Rattle.bike_sql.specs.Laws.{Reads}
use Rattle.bike_sql.specs.Layout.{Layout, table_of}
use Rattle.bike_sql.specs.Stands.{rows_of, Stands}
use Rattle.bike_sql.specs.Answer.{HasOneAnswer}
use Rattle.bike_sql.specs.Keyed.{in_order}
use Rattle.bike_sql.specs.View.{columns_of, by_key}
use Rattle.bike_sql.specs.Queries.{three_tree, three_tables, three_query}
use Rattle.bike_sql.proofs.RowListLemmas.{map_has}
use Rattle.bike_sql.proofs.TreeLemmas.{by_key_total}
use Rattle.bike_sql.proofs.SortLemmas.{AreApartAll, ordered_is}
use Rattle.bike_sql.proofs.UnionLaw.{part, part_rows, union_rows}
use Rattle.bike_sql.proofs.LineLemmas.{apart_append, has_append, side, lines_apart}

-- ---- the three parts

module _ (t u v : ℕ) (first second third : List Term) (db : Trees) (params : Row) where
  -- the rows of each part; `P` holds of all five computed tables
  pub record Parts (P : List (List Row) → Type 0) : Type 0 where
    pub left : List Row
    pub middle : List Row
    pub right : List Row
    pub left_is : IsPermutation (map (λ r. eval_all first (params ∷ r ∷ [])) (db t)) left
    pub middle_is : IsPermutation (map (λ r. eval_all second (params ∷ r ∷ [])) (db u)) middle
    pub right_is : IsPermutation (map (λ r. eval_all third (params ∷ r ∷ [])) (db v)) right
    pub whole : P (left ∷ middle ∷ (left ++ middle) ∷ right ∷ ((left ++ middle) ++ right) ∷ [])

  module _ (collations by : List Collation) (width : ℕ) (stored_t : nat_le (2 ^ 31) t ≡ false) (stored_u : nat_le (2 ^ 31) u ≡ false) (stored_v : nat_le (2 ^ 31) v ≡ false) where
    under : (tables : List (List Row)) (tree : ℕ) → nat_le (2 ^ 31) tree ≡ false → overlay db tables tree ≡ db tree
    under tables tree low = rw low refl

    pub parted : (P : List (List Row) → Type 0)
        → Computes db params [] (selected (part t first collations db params) ∷ selected (part u second collations db params) ∷ combined UnionAll 0 1 width by
        ∷ selected (part v third collations db params) ∷ combined UnionAll 2 3 width by ∷ []) P → Parts P
    parted P (inr (going, none, more)) = elim none [ ]
    parted P (inl (left, a, inr (going, none, more))) = elim none [ ]
    parted P (inl (left, a, inl (middle, b, inr (going, none, more)))) = elim none [ ]
    parted P (inl (left, a, inl (middle, b, inl (both, is, inr (going, none, more))))) = elim none [ ]
    parted P (inl (left, a, inl (middle, b, inl (both, is, inl (right, c, inr (going, none, more)))))) = elim none [ ]
    parted P (inl (left, a, inl (middle, b, inl (both, is, inl (right, c, inl (all, are, whole)))))) = record {
      left = left;
      middle = middle;
      right = right;
      left_is = subst (λ rows. IsPermutation (map (λ r. eval_all first (params ∷ r ∷ [])) rows) left) (under [] t stored_t) (part_rows t first collations (overlay db []) params left (a Null));
      middle_is =
          subst (λ rows. IsPermutation (map (λ r. eval_all second (params ∷ r ∷ [])) rows) middle) (under (left ∷ []) u stored_u)
          (part_rows u second collations (overlay db (left ∷ [])) params middle (b Null));
      right_is =
          subst (λ rows. IsPermutation (map (λ r. eval_all third (params ∷ r ∷ [])) rows) right) (under (left ∷ middle ∷ both ∷ []) v stored_v)
          (part_rows v third collations (overlay db (left ∷ middle ∷ both ∷ [])) params right (c Null));
      whole = subst (λ l. P (left ∷ middle ∷ l ∷ right ∷ (l ++ right) ∷ [])) is (subst (λ l. P (left ∷ middle ∷ both ∷ right ∷ l ∷ [])) are whole);
    }

-- ---- the union

module _ (keys : ℕ) (k1 k2 k3 : ℕ) (a b c : Layout) (db : Database) (w1 : Stands db k1 a) (w2 : Stands db k2 b) (w3 : Stands db k3 c) (text : List ℕ) (params : Row)
    (first second third project : List Term) (collations : List Collation) (places : List ℕ) (names : List (List ℕ)) (left middle right : Row → Row)
    (means : Reads db.schema text (Select (record { lets = three_tables w1.tree w2.tree w3.tree first second third collations; body = three_query places project }) names))
    (keyed_by : (r : Row) → take keys (eval_all project (params ∷ r ∷ [])) ≡ map (column r) places)
    (shows1 : (r : Row) → eval_all project (params ∷ eval_all (lit Null ∷ first) (params ∷ r ∷ []) ∷ []) ≡ left (columns_of (table_of a w1.tree) r))
    (shows2 : (r : Row) → eval_all project (params ∷ eval_all (lit Null ∷ second) (params ∷ r ∷ []) ∷ []) ≡ middle (columns_of (table_of b w2.tree) r))
    (shows3 : (r : Row) → eval_all project (params ∷ eval_all (lit Null ∷ third) (params ∷ r ∷ []) ∷ []) ≡ right (columns_of (table_of c w3.tree) r)) where
  abbrev all : List Row
  all = (map left (rows_of k1 a.name db) ++ map middle (rows_of k2 b.name db)) ++ map right (rows_of k3 c.name db)

  abbrev body : Query
  body = three_query places project

  abbrev shown : Row → Row
  shown r = eval_all project (params ∷ r ∷ [])

  abbrev AllParts : (List (List Row) → Type 0) → Type 0
  AllParts = Parts w1.tree w2.tree w3.tree (lit Null ∷ first) (lit Null ∷ second) (lit Null ∷ third) db.trees params

  computed : (P : List (List Row) → Type 0) → Computes db.trees params [] (map let_in (three_tables w1.tree w2.tree w3.tree first second third collations)) P → AllParts P
  computed =
      parted w1.tree w2.tree w3.tree (lit Null ∷ first) (lit Null ∷ second) (lit Null ∷ third) db.trees params (Binary ∷ []) collations (length collations) w1.has.stored w2.has.stored w3.has.stored

  one : AreApartAll (by_key_total keys) all → (rows : List Row) (p : AllParts (λ tables. IsAnswerAs Null body (overlay db.trees tables) params rows)) → rows ≡ in_order (by_key keys) all
  one apart rows p =
      let trees = overlay db.trees (p.left ∷ p.middle ∷ (p.left ++ p.middle) ∷ p.right ∷ ((p.left ++ p.middle) ++ p.right) ∷ []) in
      let it = union_rows three_tree keys places project trees params keyed_by rows p.whole in
      let two : IsPermutation (map left (rows_of k1 a.name db) ++ map middle (rows_of k2 b.name db)) (map shown p.left ++ map shown p.middle) =
      IsPermutation-append (map left (rows_of k1 a.name db)) (map shown p.left) (map middle (rows_of k2 b.name db)) (map shown p.middle)
      (side keys db params project k1 a w1 left (lit Null ∷ first) p.left shows1 p.left_is) (side keys db params project k2 b w2 middle (lit Null ∷ second) p.middle shows2 p.middle_is) in
      let three : IsPermutation all ((map shown p.left ++ map shown p.middle) ++ map shown p.right) =
      IsPermutation-append (map left (rows_of k1 a.name db) ++ map middle (rows_of k2 b.name db)) (map shown p.left ++ map shown p.middle) (map right (rows_of k3 c.name db)) (map shown p.right) two
      (side keys db params project k3 c w3 right (lit Null ∷ third) p.right shows3 p.right_is) in
      let seen_all : map shown ((p.left ++ p.middle) ++ p.right) ≡ (map shown p.left ++ map shown p.middle) ++ map shown p.right = map-append shown (p.left ++ p.middle) p.right ∙ ap (λ l. l ++ map shown p.right) (map-append shown p.left p.middle) in
      ordered_is (by_key_total keys) all rows (IsPermutation-trans _ _ _ (subst (IsPermutation all) (sym seen_all) three) it.0) it.1 apart

  -- the lines of all three in order, where no two tie
  pub three_answer : AreApartAll (by_key_total keys) all → HasOneAnswer db text params (in_order (by_key keys) all)
  three_answer apart = record {
    program = record { lets = three_tables w1.tree w2.tree w3.tree first second third collations; body = body };
    names = names;
    means = means;
    whole = λ rows answer.
        let p = computed (λ tables. IsSureAnswer body (overlay db.trees tables) params rows) answer in
        one apart rows (record { left = p.left; middle = p.middle; right = p.right; left_is = p.left_is; middle_is = p.middle_is; right_is = p.right_is; whole = p.whole Null });
    begins = λ rows start.
        let p = computed (λ tables. (tail : List Row) × IsSureAnswer body (overlay db.trees tables) params (rows ++ tail)) start in (
          p.whole.0,
          one apart (rows ++ p.whole.0) (record {
            left = p.left;
            middle = p.middle;
            right = p.right;
            left_is = p.left_is;
            middle_is = p.middle_is;
            right_is = p.right_is;
            whole = p.whole.1 Null;
          }),
        );
  }

  -- which they do not if two lines of one table tie only where their rows have one key, and no lines of two tables tie
  pub merged_answer : ((r s : Row) → by_key keys (left (columns_of (table_of a w1.tree) r)) (left (columns_of (table_of a w1.tree) s)) ≡ Equal
      → by_key k1 (columns_of (table_of a w1.tree) r) (columns_of (table_of a w1.tree) s) ≡ Equal)
      → ((r s : Row) → by_key keys (middle (columns_of (table_of b w2.tree) r)) (middle (columns_of (table_of b w2.tree) s)) ≡ Equal
      → by_key k2 (columns_of (table_of b w2.tree) r) (columns_of (table_of b w2.tree) s) ≡ Equal)
      → ((r s : Row) → by_key keys (right (columns_of (table_of c w3.tree) r)) (right (columns_of (table_of c w3.tree) s)) ≡ Equal
      → by_key k3 (columns_of (table_of c w3.tree) r) (columns_of (table_of c w3.tree) s) ≡ Equal)
      → ((r s : Row) → by_key keys (left r) (middle s) ≡ Equal → ⊥) → ((r s : Row) → by_key keys (left r) (right s) ≡ Equal → ⊥) → ((r s : Row) → by_key keys (middle r) (right s) ≡ Equal → ⊥)
      → HasOneAnswer db text params (in_order (by_key keys) all)
  merged_answer ties1 ties2 ties3 far12 far13 far23 =
      let o = by_key_total keys in
      let xs = map left (rows_of k1 a.name db) in
      let ys = map middle (rows_of k2 b.name db) in
      let zs = map right (rows_of k3 c.name db) in
      let two : AreApartAll o (xs ++ ys) = apart_append o xs ys (lines_apart keys db params project k1 a w1 left ties1) (lines_apart keys db params project k2 b w2 middle ties2)
      (λ x y h k. let r = map_has left (rows_of k1 a.name db) x h in let s = map_has middle (rows_of k2 b.name db) y k in λ tie. far12 r.0 s.0 (rw (r.2, s.2) at tie)) in
      three_answer (apart_append o (xs ++ ys) zs two (lines_apart keys db params project k3 c w3 right ties3)
      (λ x y h k tie.
      let s = map_has right (rows_of k3 c.name db) y k in
      elim (has_append xs ys x h) [
        | inl here ↦ (let r = map_has left (rows_of k1 a.name db) x here in far13 r.0 s.0 (rw (r.2, s.2) at tie))
        | inr there ↦ (let r = map_has middle (rows_of k2 b.name db) x there in far23 r.0 s.0 (rw (r.2, s.2) at tie))
      ]))
