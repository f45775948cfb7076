-- SELECT .. FROM a table LEFT JOIN a second LEFT JOIN a third, each ON its key, answers each row with its partner in either, in the order of the first table's keys.
use Rattle.std.proofs.Common.{◌≡◌, ◌⊎◌, inl, inr, ℕ, List, [], ◌∷◌, ◌++◌, map, filter, flat_map, take, length, Bool, true, false, ◌&&◌, Option, Some, None, if◌then◌else◌, Equal, refl, sym, ap, ap₂}
use Rattle.std.proofs.Common.{subst, ◌∙◌}
use Rattle.std.specs.List.{list_any, list_all}
use Rattle.std.specs.Ordering.{is_eq}
use Rattle.std.specs.List.Sorted.{IsPermutation}
use Rattle.std.proofs.lemmas.Bool.{cases_Bool}
use Rattle.sqlite_value.specs.declared.value.Value.TheVariants.{Null}
use Rattle.sqlite_value.specs.Order.{Row, column, value_cmp, row_cmp}
use Rattle.sqlite_value.proofs.OrderLemmas.{row_cmp_total}
use Rattle.sqlite_trees.specs.Tree.{rowid}
use Rattle.sqlite_sql.specs.Ops.{is_null}
use Rattle.sqlite_sql.specs.Term.{Term, eval_all, holds}
use Rattle.sqlite_sql.specs.Query.{Query, left, end, or_nulls, matches_as, IsAnswerAs, output, output_cmp, Output}
use Rattle.sqlite_sql.specs.Program.{overlay}
use Rattle.sqlite_sql.proofs.QueryLemmas.{output_cmp_total}
use Rattle.sqlite_rules.specs.Lists.{Has}
use Rattle.sqlite.specs.Effect.{Database}
use Rattle.bike_sql.specs.Keyed.{in_order}
use Rattle.bike_sql.specs.Layout.{Layout, table_of}
use Rattle.bike_sql.specs.View.{columns_of, by_key, row_with, partner, twice_joined}
use Rattle.bike_sql.specs.Stands.{rows_of, Stands}
use Rattle.bike_sql.specs.Queries.{by_columns, join_tests, third_tests, two_left_query}
use Rattle.bike_sql.specs.Answer.{MeansQuery, HasOneAnswer}
use Rattle.bike_sql.proofs.OrderLemmas.{order_has, has_order}
use Rattle.bike_sql.proofs.RowListLemmas.{has_map, map_has, map_map, map_same, filter_has, filter_none, filter_same, find_only, find_none}
use Rattle.bike_sql.proofs.TreeLemmas.{by_key_total, one_row, shown_apart}
use Rattle.bike_sql.proofs.TestLemmas.{tie_of}
use Rattle.bike_sql.proofs.SortLemmas.{sorted_is, order_map, apart_map}
use Rattle.bike_sql.proofs.AnswerLemmas.{no_overlay}
use Rattle.bike_sql.proofs.KeyOrderLemmas.{compares, keyed_apart}
use Rattle.bike_sql.proofs.ChangeLemmas.{one_passes}
use Rattle.bike_sql.proofs.FrameLemmas.{rows_of_is}
use Rattle.bike_sql.proofs.JoinLaw.{on_null, on_solid, first_of, each_one}
use Rattle.bike_sql.proofs.WalkLaw.{one_answer}

-- ---- one joined table: its key at `places` equals what a row has at `joined` and shows at `columns`

module _ (more : ℕ) (other : Layout) (db : Database) (with_ : Stands db more other) (params : Row) (places joined columns : List ℕ) (f : Row → Row)
    (second : (r : Row) → take more (columns_of (table_of other with_.tree) r) ≡ map (column r) places) (as_many : length places ≡ length joined)
    (same : (r : Row) → map (column (f r)) columns ≡ map (column r) joined) where
  abbrev h : Row → Row
  h = columns_of (table_of other with_.tree)

  abbrev others : List Row
  others = db.trees with_.tree

  abbrev on : Row → Row → Bool
  on r s = list_all (holds (params ∷ r ∷ s ∷ [])) (join_tests places joined)

  abbrev partner_of : Row → Option Row
  partner_of r = partner more (map (column (f r)) columns) (rows_of more other.name db)

  key_is : (r s : Row) → list_any is_null (map (column r) joined) ≡ false → on r s ≡ is_eq (row_cmp (take more (h s)) (map (column (f r)) columns))
  key_is r s solid = on_solid places joined params r s as_many solid ∙ ap₂ (λ a b. is_eq (row_cmp a b)) (sym (second s)) (sym (same r))

  one_id : (r x y : Row) → list_any is_null (map (column r) joined) ≡ false → Has others x → Has others y → on r x ≡ true → on r y ≡ true → value_cmp (rowid x) (rowid y) ≡ Equal
  one_id r x y solid p q s t =
      let key = map (column (f r)) columns in
      let a : row_cmp (take more (h x)) key ≡ Equal = tie_of _ (sym (key_is r x solid) ∙ s) in
      let b : row_cmp (take more (h y)) key ≡ Equal = tie_of _ (sym (key_is r y solid) ∙ t) in
      with_.keyed.apart x y p q (row_cmp_total.congr (take more (h x)) key (take more (h y)) a ∙ (rw b at (row_cmp_total.antisymm key (take more (h y)))))

  -- ON joins no row and there is no partner, or it joins the one row that is the partner
  abbrev pub JoinsPartner : Row → Type 0
  JoinsPartner r = ((filter (on r) others ≡ []) × (partner_of r ≡ None)) ⊎ ((s : Row) × (filter (on r) others ≡ s ∷ []) × (partner_of r ≡ Some (h s)))

  pub joins_partner : (r : Row) → JoinsPartner r
  joins_partner r = elim (cases_Bool (list_any is_null (map (column r) joined))) [
    | inl null ↦ (
        let none : filter (on r) others ≡ [] = filter_none (on r) others (λ s has. on_null places joined params r s as_many null) in
        let no_key : list_any is_null (map (column (f r)) columns) ≡ true = ap (list_any is_null) (same r) ∙ null in
        inl (none, ap (λ b. if b then None else row_with more (map (column (f r)) columns) (rows_of more other.name db)) no_key)
        )
    | inr solid ↦ (
        let key = map (column (f r)) columns in
        let all = in_order (by_key more) (map h others) in
        let is_solid : list_any is_null key ≡ false = ap (list_any is_null) (same r) ∙ solid in
        let found : (p : Option Row) → row_with more key all ≡ p → partner_of r ≡ p = λ p e. ap (λ b. if b then None else row_with more key (rows_of more other.name db)) is_solid ∙ ap (row_with more key) (rows_of_is db more other with_) ∙ e in
        elim (one_passes (on r) others with_.keyed.spread (λ x y p q s t. one_id r x y solid p q s t)) [
          | inl none ↦ inl (
            none,
            found None (find_none (λ y. is_eq (row_cmp (take more y) key)) all (λ y has.
                let s = map_has h others y (order_has (by_key_total more) (map h others) y has) in
                rw s.2 (sym (key_is r s.0 solid) ∙ fails r s.0 (on r s.0) refl none s.1))),
          )
          | inr one ↦ (
              let s = one.0 in
              let apart = shown_apart more (table_of other with_.tree) others with_.keyed in
              inr (
                s,
                one.3,
                found (Some (h s)) (find_only (λ y. is_eq (row_cmp (take more y) key)) all (h s) (has_order (by_key_total more) (map h others) apart (h s) (has_map h others s one.1))
                    (sym (key_is r s solid) ∙ one.2)
                    (λ y has t.
                    let x = map_has h others y (order_has (by_key_total more) (map h others) y has) in
                    let passed : on r x.0 ≡ true = key_is r x.0 solid ∙ subst (λ z. is_eq (row_cmp (take more z) key) ≡ true) x.2 t in
                    x.2 ∙ ap h (one_row others with_.keyed.spread x.0 s x.1 one.1 (one_id r x.0 s solid x.1 one.1 passed one.2)))),
              )
              )
        ]
        )
  ]
    where
      fails : (q s : Row) (b : Bool) → on q s ≡ b → filter (on q) others ≡ [] → Has others s → on q s ≡ false
      fails q s true e none has = absurd (subst (λ xs. Has xs s) none (filter_has (on q) others s has e))
      fails q s false e none has = e

-- ON of the third table asks what it would ask of a second
as_second : (places columns : List ℕ) (params r s t : Row) → list_all (holds (params ∷ r ∷ s ∷ t ∷ [])) (third_tests places columns)
    ≡ list_all (holds (params ∷ r ∷ t ∷ [])) (join_tests places columns)
as_second [] cs params r s t = refl
as_second (p ∷ ps) [] params r s t = refl
as_second (p ∷ ps) (c ∷ cs) params r s t = ap₂ ◌&&◌ refl (as_second ps cs params r s t)

-- ---- both

module _ (keys : ℕ) (layout : Layout) (k1 : ℕ) (l1 : Layout) (k2 : ℕ) (l2 : Layout) (db : Database) (was : Stands db keys layout) (w1 : Stands db k1 l1) (w2 : Stands db k2 l2) (text : List ℕ)
    (params : Row) (places p1 j1 c1 p2 j2 c2 : List ℕ) (project : List Term) (names : List (List ℕ))
    (means : MeansQuery db.schema text (two_left_query was.tree w1.tree (join_tests p1 j1) w2.tree (third_tests p2 j2) (by_columns places) project) names)
    (first : (r : Row) → take keys (columns_of (table_of layout was.tree) r) ≡ map (column r) places) (first1 : (r : Row) → take k1 (columns_of (table_of l1 w1.tree) r) ≡ map (column r) p1)
    (first2 : (r : Row) → take k2 (columns_of (table_of l2 w2.tree) r) ≡ map (column r) p2)
    (many1 : length p1 ≡ length j1) (many2 : length p2 ≡ length j2) (same1 : (r : Row) → map (column (columns_of (table_of layout was.tree) r)) c1 ≡ map (column r) j1)
    (same2 : (r : Row) → map (column (columns_of (table_of layout was.tree) r)) c2 ≡ map (column r) j2)
    (show : Row → Option Row → Option Row → Row)
    (shows_none : (r : Row) → eval_all project (params ∷ r ∷ [] ∷ [] ∷ []) ≡ show (columns_of (table_of layout was.tree) r) None None)
    (shows_first : (r s : Row) → eval_all project (params ∷ r ∷ s ∷ [] ∷ []) ≡ show (columns_of (table_of layout was.tree) r) (Some (columns_of (table_of l1 w1.tree) s)) None)
    (shows_second : (r t : Row) → eval_all project (params ∷ r ∷ [] ∷ t ∷ []) ≡ show (columns_of (table_of layout was.tree) r) None (Some (columns_of (table_of l2 w2.tree) t)))
    (shows_both : (r s t : Row) → eval_all project (params ∷ r ∷ s ∷ t ∷ [])
    ≡ show (columns_of (table_of layout was.tree) r) (Some (columns_of (table_of l1 w1.tree) s)) (Some (columns_of (table_of l2 w2.tree) t))) where
  abbrev f : Row → Row
  f = columns_of (table_of layout was.tree)

  abbrev stored : List Row
  stored = db.trees was.tree

  abbrev matching : Row → List Row
  matching r = filter (λ s. list_all (holds (params ∷ r ∷ s ∷ [])) (join_tests p1 j1)) (db.trees w1.tree)

  abbrev third : Row → List Row
  third r = filter (λ s. list_all (holds (params ∷ r ∷ s ∷ [])) (join_tests p2 j2)) (db.trees w2.tree)

  abbrev query : Query
  query = two_left_query was.tree w1.tree (join_tests p1 j1) w2.tree (third_tests p2 j2) (by_columns places) project

  abbrev joined_rows : Row → List Row
  joined_rows r = params ∷ r ∷ first_of (matching r) ∷ first_of (third r) ∷ []

  abbrev o : Row → Output
  o r = output query (joined_rows r)

  abbrev g : Row → Row
  g row = show row (partner k1 (map (column row) c1) (rows_of k1 l1.name db)) (partner k2 (map (column row) c2) (rows_of k2 l2.name db))

  one : (r : Row) → JoinsPartner k1 l1 db w1 params p1 j1 c1 f first1 many1 same1 r
  one = joins_partner k1 l1 db w1 params p1 j1 c1 f first1 many1 same1

  two : (r : Row) → JoinsPartner k2 l2 db w2 params p2 j2 c2 f first2 many2 same2 r
  two = joins_partner k2 l2 db w2 params p2 j2 c2 f first2 many2 same2

  inner_is : (r s : Row) → flat_map (λ t. (params ∷ r ∷ s ∷ t ∷ []) ∷ []) (or_nulls (filter (λ t. list_all (holds (params ∷ r ∷ s ∷ t ∷ [])) (third_tests p2 j2)) (db.trees w2.tree)))
      ≡ (params ∷ r ∷ s ∷ first_of (third r) ∷ []) ∷ []
  inner_is r s =
      ap (λ ts. flat_map (λ t. (params ∷ r ∷ s ∷ t ∷ []) ∷ []) (or_nulls ts))
      (filter_same (λ t. list_all (holds (params ∷ r ∷ s ∷ t ∷ [])) (third_tests p2 j2)) (λ t. list_all (holds (params ∷ r ∷ t ∷ [])) (join_tests p2 j2)) (λ t. as_second p2 j2 params r s t)
      (db.trees w2.tree))
      ∙ elim (two r) [ inl none ↦ (let e = none.0 in rw e refl) | inr it ↦ (let e = it.1 in rw e refl) ]

  joins : (r : Row) → matches_as Null db.trees [] (left w1.tree (join_tests p1 j1) (left w2.tree (third_tests p2 j2) end)) (params ∷ r ∷ []) ≡ joined_rows r ∷ []
  joins r =
      let each = λ (s : Row). flat_map (λ t. (params ∷ r ∷ s ∷ t ∷ []) ∷ []) (or_nulls (filter (λ t. list_all (holds (params ∷ r ∷ s ∷ t ∷ [])) (third_tests p2 j2)) (db.trees w2.tree))) in
      elim (one r) [
        | inl none ↦ ap (λ ss. flat_map each (or_nulls ss)) none.0 ∙ ap (λ l. l ++ []) (inner_is r []) ∙ ap (λ ss. (params ∷ r ∷ first_of ss ∷ first_of (third r) ∷ []) ∷ []) (sym none.0)
        | inr it ↦ ap (λ ss. flat_map each (or_nulls ss)) it.1 ∙ ap (λ l. l ++ []) (inner_is r it.0) ∙ ap (λ ss. (params ∷ r ∷ first_of ss ∷ first_of (third r) ∷ []) ∷ []) (sym it.1)
      ]

  shows_joined : (r : Row) → eval_all project (joined_rows r) ≡ g (f r)
  shows_joined r = elim (one r) [
    | inl none ↦ ap (λ ss. eval_all project (params ∷ r ∷ first_of ss ∷ first_of (third r) ∷ [])) none.0 ∙ elim (two r) [
      | inl nor ↦ ap (λ ts. eval_all project (params ∷ r ∷ [] ∷ first_of ts ∷ [])) nor.0 ∙ shows_none r ∙ ap₂ (show (f r)) (sym none.1) (sym nor.1)
      | inr also ↦ ap (λ ts. eval_all project (params ∷ r ∷ [] ∷ first_of ts ∷ [])) also.1 ∙ shows_second r also.0 ∙ ap₂ (show (f r)) (sym none.1) (sym also.2)
    ]
    | inr it ↦ ap (λ ss. eval_all project (params ∷ r ∷ first_of ss ∷ first_of (third r) ∷ [])) it.1 ∙ elim (two r) [
      | inl nor ↦ ap (λ ts. eval_all project (params ∷ r ∷ it.0 ∷ first_of ts ∷ [])) nor.0 ∙ shows_first r it.0 ∙ ap₂ (show (f r)) (sym it.2) (sym nor.1)
      | inr also ↦ ap (λ ts. eval_all project (params ∷ r ∷ it.0 ∷ first_of ts ∷ [])) also.1 ∙ shows_both r it.0 also.0 ∙ ap₂ (show (f r)) (sym it.2) (sym also.2)
    ]
  ]

  unlaid : overlay db.trees [] ≡ db.trees
  unlaid = λ i tree. no_overlay db.trees tree i

  pub two_joins_answer : HasOneAnswer db text params (twice_joined show c1 k1 (rows_of k1 l1.name db) c2 k2 (rows_of k2 l2.name db) (rows_of keys layout.name db))
  two_joins_answer = one_answer db text params query names (twice_joined show c1 k1 (rows_of k1 l1.name db) c2 k2 (rows_of k2 l2.name db) (rows_of keys layout.name db)) means (λ rows answer.
      let a : IsAnswerAs Null query db.trees params rows = subst (λ trees. IsAnswerAs Null query trees params rows) unlaid answer in
      let matched : matches_as Null db.trees [] query.from (params ∷ []) ≡ map joined_rows stored =
      each_one (λ r. matches_as Null db.trees [] (left w1.tree (join_tests p1 j1) (left w2.tree (third_tests p2 j2) end)) (params ∷ r ∷ [])) joined_rows joins stored in
      let same_rows = subst (λ k. IsPermutation k a.ordered) (a.distinct ∙ ap (map (output query)) (a.grouped ∙ matched) ∙ map_map joined_rows (output query) stored) a.same in
      let by = λ (x y : Row). by_key keys (f x) (f y) in
      let same_order = λ (x y : Row). compares places params x y (first_of (matching x) ∷ first_of (third x) ∷ []) (first_of (matching y) ∷ first_of (third y) ∷ []) ∙ sym (ap₂ row_cmp (first x) (first y)) in
      let apart = apart_map (by_key keys) (output_cmp query) f o same_order stored (keyed_apart keys (table_of layout was.tree) stored was.keyed) in
      let outs : a.ordered ≡ in_order (output_cmp query) (map o stored) = sorted_is (output_cmp_total query) (map o stored) a.ordered same_rows a.sorted apart in
      a.shown ∙ ap (map (λ (x : Output). x.1)) (outs ∙ order_map by (output_cmp query) o same_order stored)
      ∙ map_map o (λ (x : Output). x.1) (in_order by stored)
      ∙ map_same (λ r. eval_all project (joined_rows r)) (λ r. g (f r)) shows_joined (in_order by stored)
      ∙ sym (map_map f g (in_order by stored))
      ∙ ap (map g) (sym (order_map by (by_key keys) f (λ x y. refl) stored) ∙ sym (rows_of_is db keys layout was)))
