-- UPDATE .. SET some columns WHERE the key = .. changes these columns of the row with that key, and nothing else.
use Rattle.std.proofs.Common.{◌≡◌, inl, inr, ℕ, suc, ◌+◌, ◌==◌, ◌&&◌, ◌||◌, ℤ, List, [], ◌∷◌, map, filter, find, length, drop, take, not, Bool, true, false, Option, Some, None, option_map, unwrap_or}
use Rattle.std.proofs.Common.{slice_get, if◌then◌else◌, Ordering, Less, Equal, Greater, Ok, refl, sym, ap, subst, ◌∙◌, arith}
use Rattle.std.specs.List.{AllByRecursion, list_any}
use Rattle.std.specs.Ordering.{is_eq}
use Rattle.std.specs.List.Sorted.{IsPermutation}
use Rattle.std.proofs.lemmas.Bool.{and_parts, and_from, not-true, true≢false}
use Rattle.std.proofs.lemmas.Cmp.{tied_itself}
use Rattle.std.proofs.lemmas.List.Sorted.{length_permutation}
use Rattle.sqlite_value.specs.declared.value.Value.{Value}
use Rattle.sqlite_value.specs.declared.value.Value.TheVariants.{Null, Int, Real, Text, Blob}
use Rattle.sqlite_value.specs.declared.keys.Key.{Key}
use Rattle.sqlite_value.specs.Order.{Row, column, value_cmp, row_cmp}
use Rattle.sqlite_value.proofs.OrderLemmas.{row_cmp_total}
use Rattle.sqlite_trees.specs.Tree.{Trees, rowid, has_rowid, put_row, without_rowid}
use Rattle.sqlite_sql.specs.Ops.{is_null}
use Rattle.sqlite_sql.specs.Term.{Term, lit, col, eval, eval_all}
use Rattle.sqlite_sql.specs.Query.{Output}
use Rattle.sqlite_schema.specs.declared.schema.Schema.{Schema}
use Rattle.sqlite_schema.specs.declared.schema.Table.{Table}
use Rattle.sqlite_schema.specs.declared.schema.Column.{Column}
use Rattle.sqlite_schema.specs.declared.schema.Constraint.TheVariants.{Datatype}
use Rattle.sqlite_schema.specs.declared.schema.Keys.TheVariants.{Enforced}
use Rattle.sqlite_schema.specs.declared.schema.Kind.{Kind}
use Rattle.sqlite_schema.specs.declared.schema.Kind.TheVariants.{Integer, Text as Words}
use Rattle.sqlite_schema.specs.declared.command.Command.TheVariants.{Update}
use Rattle.sqlite_schema.specs.Names.{is_key}
use Rattle.sqlite_schema.specs.Rules as rules
use Rattle.sqlite_rules.specs.declared.error.Rowids.TheVariants.{Given}
use Rattle.sqlite_rules.specs.Lists.{Has}
use Rattle.sqlite_rules.specs.Calls.{ids_of}
use Rattle.sqlite_rules.specs.Cast.{cast, cast_all}
use Rattle.sqlite_rules.specs.Edit.{edit_of, Applies, is_taken, id_in}
use Rattle.sqlite_rules.proofs.TableLemmas.{int_is}
use Rattle.sqlite.specs.Effect.{Database, IsDatabase}
use Rattle.sqlite.specs.State.{State, Executes}
use Rattle.sqlite.proofs.Callers.{one_permutation, runs_as}
use Rattle.bike_sql.specs.Laws.{Means}
use Rattle.bike_sql.specs.Keyed.{in_order}
use Rattle.bike_sql.specs.Layout.{Layout, table_of}
use Rattle.bike_sql.specs.View.{columns_of, by_key, rows_in, row_with, put_row_by, rows_after_update, AreSpread, AreNumbered, IsKeyed}
use Rattle.bike_sql.specs.Stands.{rows_of, Stands, Sets}
use Rattle.bike_sql.specs.Queries.{table_query, key_tests, key_in}
use Rattle.bike_sql.proofs.OrderLemmas.{all_has, order_has, has_order}
use Rattle.bike_sql.proofs.RowListLemmas.{has_map, map_has, has_filter, filter_has, find_only, find_none, no_list, all_at}
use Rattle.bike_sql.proofs.TreeLemmas.{by_key_total, one_row, spread_put, spread_without, numbered_put, numbered_without, shown_apart, shows_put}
use Rattle.bike_sql.proofs.KeyLemmas.{IsKeyOf}
use Rattle.bike_sql.proofs.CastLemmas.{suits, suit_all, cast_same, cast_all_same}
use Rattle.bike_sql.proofs.ChangeLemmas.{one_passes}
use Rattle.bike_sql.proofs.EffectLemmas.{updates}
use Rattle.bike_sql.proofs.FrameLemmas.{rows_of_is, sets}
use Rattle.bike_sql.proofs.TestLemmas.{tests_key, tie_of}
use Rattle.bike_sql.proofs.AnswerLemmas.{passes, out, Answered, answered}

-- ---- the values that stay: a sound database stores in a column what suits it

-- the kinds whose STRICT columns store each value as it is
abbrev pub is_exact : Kind → Bool
is_exact Integer = true
is_exact Words = true
is_exact _ = false

-- all columns are STRICT, and of such a kind
abbrev pub are_exact : List Column → Bool
are_exact [] = true
are_exact (c ∷ cs) = (c.is_strict && is_exact c.kind) && are_exact cs

suits_of : (k : Kind) (v : Value) → is_exact k ≡ true → rules.is_of k v ≡ true → suits k v ≡ true
suits_of Integer Null s h = refl
suits_of Integer (Int n) s h = refl
suits_of Integer (Real x) s h = absurd (true≢false (sym h))
suits_of Integer (Text t) s h = absurd (true≢false (sym h))
suits_of Integer (Blob b) s h = absurd (true≢false (sym h))
suits_of Words Null s h = refl
suits_of Words (Int n) s h = absurd (true≢false (sym h))
suits_of Words (Real x) s h = absurd (true≢false (sym h))
suits_of Words (Text t) s h = refl
suits_of Words (Blob b) s h = absurd (true≢false (sym h))
suits_of k v s h = absurd (let e = s in cc)

null_suits : (k : Kind) → is_exact k ≡ true → suits k Null ≡ true
null_suits Integer s = refl
null_suits Words s = refl
null_suits k s = absurd (let e = s in cc)

-- each value is of its column's kind, from one column on; the key's column is held by the rowid
abbrev are_kept : Option ℕ → ℕ → List Column → Row → Bool
are_kept key at [] r = true
are_kept key at (c ∷ cs) r = (is_key key at || rules.is_of c.kind (column r (at + 1))) && are_kept key (at + 1) cs r

kept_of : (key : Option ℕ) (at : ℕ) (cs : List Column) (r vs : Row) → ((k n : ℕ) → n ≡ at + 1 + k → column r n ≡ column vs k) → are_exact cs ≡ true → rules.are_typed key at cs vs ≡ true
    → are_kept key at cs r ≡ true
kept_of key at [] r vs same exact typed = refl
kept_of key at (c ∷ cs) r [] same exact typed =
    let s = and_parts (c.is_strict && is_exact c.kind) (are_exact cs) exact in
    let t = and_parts (is_null c.default) (rules.are_typed key (at + 1) cs []) typed in
    let v : column r (at + 1) ≡ Null = same 0 (at + 1) (omega arith) in
    and_from _ _ (by (is_key key at) (column r (at + 1)) v) (kept_of key (at + 1) cs r [] (λ k n e. same (suc k) n (omega (arith, e))) s.1 t.1)
  where
    by : (b : Bool) (v : Value) → v ≡ Null → (b || rules.is_of c.kind v) ≡ true
    by true v e = refl
    by false v e = rw e refl
kept_of key at (c ∷ cs) r (v ∷ vs) same exact typed =
    let s = and_parts (c.is_strict && is_exact c.kind) (are_exact cs) exact in
    let strict = (and_parts c.is_strict (is_exact c.kind) s.0).0 in
    let t = and_parts (if is_key key at then is_null v else rules.suits c v) (rules.are_typed key (at + 1) cs vs) typed in
    let is : column r (at + 1) ≡ v = same 0 (at + 1) (omega arith) in
    and_from _ _ (by (is_key key at) (column r (at + 1)) is (rw strict at t.0)) (kept_of key (at + 1) cs r vs (λ k n e. same (suc k) n (omega (arith, e))) s.1 t.1)
  where
    by : (b : Bool) (w : Value) → w ≡ v → (if b then is_null v else rules.is_of c.kind v) ≡ true → (b || rules.is_of c.kind w) ≡ true
    by true w e h = refl
    by false w e h = rw e h

-- ---- the values that SET gives

-- the parameter beside the column, or what the column has
abbrev pub set_term : Option ℕ → List (ℕ × ℕ) → ℕ → Term
set_term key sets at = if is_key key at then lit Null else unwrap_or (option_map (λ (s : ℕ × ℕ). col 0 s.1) (find (λ (s : ℕ × ℕ). s.0 == at) sets)) (col 1 (at + 1))

abbrev pub set_terms_from : Option ℕ → List (ℕ × ℕ) → ℕ → List Column → List Term
set_terms_from key sets at [] = []
set_terms_from key sets at (c ∷ cs) = set_term key sets at ∷ set_terms_from key sets (at + 1) cs

-- SET these columns, each to the parameter beside it, both counted from 0
abbrev pub some_terms : Layout → List (ℕ × ℕ) → List Term
some_terms layout sets = set_terms_from layout.key sets 0 layout.columns

-- each column that is set stores its parameter as it is
abbrev pub sets_suit : List (ℕ × ℕ) → Row → ℕ → List Column → Bool
sets_suit sets params at [] = true
sets_suit sets params at (c ∷ cs) = unwrap_or (option_map (λ (s : ℕ × ℕ). suits c.kind (column params s.1)) (find (λ (s : ℕ × ℕ). s.0 == at) sets)) true && sets_suit sets params (at + 1) cs

all_suit : (key : Option ℕ) (sets : List (ℕ × ℕ)) (params r : Row) (at : ℕ) (cs : List Column) → are_exact cs ≡ true → sets_suit sets params at cs ≡ true → are_kept key at cs r ≡ true
    → suit_all cs (eval_all (set_terms_from key sets at cs) (params ∷ r ∷ [])) ≡ true
all_suit key sets params r at [] exact suit kept = refl
all_suit key sets params r at (c ∷ cs) exact suit kept =
    let s = and_parts (c.is_strict && is_exact c.kind) (are_exact cs) exact in
    let kind = (and_parts c.is_strict (is_exact c.kind) s.0).1 in
    let p = and_parts (unwrap_or (option_map (λ (s : ℕ × ℕ). suits c.kind (column params s.1)) (find (λ (s : ℕ × ℕ). s.0 == at) sets)) true) (sets_suit sets params (at + 1) cs) suit in
    let k = and_parts (is_key key at || rules.is_of c.kind (column r (at + 1))) (are_kept key (at + 1) cs r) kept in
    and_from _ _ (by kind (is_key key at) (find (λ (s : ℕ × ℕ). s.0 == at) sets) p.0 k.0) (all_suit key sets params r (at + 1) cs s.1 p.1 k.1)
  where
    by : is_exact c.kind ≡ true → (b : Bool) (found : Option (ℕ × ℕ)) → unwrap_or (option_map (λ (s : ℕ × ℕ). suits c.kind (column params s.1)) found) true ≡ true
        → (b || rules.is_of c.kind (column r (at + 1))) ≡ true
        → suits c.kind (eval (if b then lit Null else unwrap_or (option_map (λ (s : ℕ × ℕ). col 0 s.1) found) (col 1 (at + 1))) (params ∷ r ∷ [])) ≡ true
    by kind true found p k = null_suits c.kind kind
    by kind false None p k = suits_of c.kind (column r (at + 1)) kind k
    by kind false (Some s) p k = p

-- so the new row suits the columns
pub stored_suits : (db : Database) (at : ℕ) (layout : Layout) (tree : ℕ) → IsDatabase db → slice_get db.schema.tables at ≡ Some (table_of layout tree) → are_exact layout.columns ≡ true
    → (sets : List (ℕ × ℕ)) (params : Row) → sets_suit sets params 0 layout.columns ≡ true
    → (r : Row) → Has (db.trees tree) r → suit_all layout.columns (eval_all (some_terms layout sets) (params ∷ r ∷ [])) ≡ true
stored_suits db at layout tree sound there exact sets params suit r has =
    let all = all_at (λ t. AllByRecursion (λ row. rules.passes Datatype db.schema db.trees t row ≡ true) (db.trees t.tree)) db.schema.tables at (table_of layout tree) (sound.obeys.rules Datatype) there in
    let one = all_has (λ row. rules.passes Datatype db.schema db.trees (table_of layout tree) row ≡ true) (db.trees tree) r all has in
    let typed = (and_parts (rules.are_typed layout.key 0 layout.columns (drop 1 r)) (rules.has_computed (table_of layout tree) r) one).0 in
    all_suit layout.key sets params r 0 layout.columns exact suit (kept_of layout.key 0 layout.columns r (drop 1 r) (dropped r) exact typed)
  where
    dropped : (r : Row) (k n : ℕ) → n ≡ 0 + 1 + k → column r n ≡ column (drop 1 r) k
    dropped [] k n e = refl
    dropped (v ∷ vs) k n e = let m : n ≡ suc k = omega (arith, e) in rw m refl

-- ---- the rows after it

module _ (keys : ℕ) (layout : Layout) (tree : ℕ) (schema : Schema) (db next : Trees) (tests : List Term) (order : List (Term × Key)) (project : List Term) (params key : Row)
    (values change : Row → Row) where
  abbrev table : Table
  table = table_of layout tree

  abbrev f : Row → Row
  f = columns_of table

  abbrev test : Row → Bool
  test = passes tree tests order project db params

  abbrev Updated : Type 0
  Updated = IsKeyed keys table (next tree) × (rows_in keys table next ≡ rows_after_update keys key change (rows_in keys table db))

  -- WHERE finds the row with the key, and what takes its place has its rowid and its key.
  pub updates_row : (rows : List Row) → Answered tree tests order project db params rows → Applies schema Enforced db (edit_of db table (ids_of rows) Given 1 rows) next
      → ((r : Row) → Has (db tree) r → suit_all layout.columns (values r) ≡ true)
      → ((r : Row) → eval_all project (params ∷ r ∷ []) ≡ rowid r ∷ rowid r ∷ values r) → ((r : Row) → test r ≡ is_eq (row_cmp (take keys (f r)) key))
      → ((r : Row) → f (rowid r ∷ values r) ≡ change (f r)) → ((r : Row) → take keys (change (f r)) ≡ take keys (f r))
      → IsKeyed keys table (db tree) → (AreSpread (next tree) → AreNumbered (next tree) → IsKeyed keys table (next tree)) → Updated
  updates_row rows a it suit projects tested shows keeps was follows = elim (one_passes test (db tree) was.spread same_id) [ inl none ↦ nothing none | inr one ↦ something one.0 one.1 one.2 one.3 ]
    where
      tie : (r : Row) → test r ≡ true → row_cmp (take keys (f r)) key ≡ Equal
      tie r pass = tie_of _ (sym (tested r) ∙ pass)

      same_id : (x y : Row) → Has (db tree) x → Has (db tree) y → test x ≡ true → test y ≡ true → value_cmp (rowid x) (rowid y) ≡ Equal
      same_id x y p q s t = was.apart x y p q (row_cmp_total.congr (take keys (f x)) key (take keys (f y)) (tie x s) ∙ (rw (tie y t) at (row_cmp_total.antisymm key (take keys (f y)))))

      nothing : filter test (db tree) ≡ [] → Updated
      nothing none =
          let outs : a.outs ≡ [] = no_list a.outs (length_permutation (map (out tree tests order project db params) (filter test (db tree))) a.outs a.same ∙ ap (λ xs. length (map (out tree tests order project db params) xs)) none) in
          let empty : rows ≡ [] = a.shown ∙ ap (map (λ (o : Output). o.1)) outs in
          let all : next tree ≡ db tree = rw empty at it.rows in
          let miss : row_with keys key (rows_in keys table db) ≡ None = find_none (λ x. is_eq (row_cmp (take keys x) key)) (rows_in keys table db) (λ y h.
          let r = map_has f (db tree) y (order_has (by_key_total keys) (map f (db tree)) y h) in rw r.2 (sym (tested r.0) ∙ fails r.0 r.1 (test r.0) refl)) in
          (rw all was, rw miss (ap (λ rs. in_order (by_key keys) (map f rs)) all))
        where
          fails : (r : Row) → Has (db tree) r → (b : Bool) → test r ≡ b → test r ≡ false
          fails r has true e = absurd (subst (λ xs. Has xs r) none (filter_has test (db tree) r has e))
          fails r has false e = e

      something : (r : Row) → Has (db tree) r → test r ≡ true → filter test (db tree) ≡ r ∷ [] → Updated
      something r has pass only =
          let n = id_in (rowid r) in
          let o = out tree tests order project db params in
          let new = Int n ∷ values r in
          let left = without_rowid n (db tree) in
          let outs : a.outs ≡ o r ∷ [] = one_permutation (o r) a.outs (subst (λ xs. IsPermutation (map o xs) a.outs) only a.same) in
          let id : rowid r ≡ Int n = int_is (rowid r) (was.numbered r has) in
          let given : rows ≡ (Int n ∷ Int n ∷ values r) ∷ [] = a.shown ∙ ap (map (λ (x : Output). x.1)) outs ∙ ap (λ x. x ∷ []) (projects r ∙ ap (λ v. v ∷ v ∷ values r) id) in
          let one : cast Integer (Int n) ≡ Int n = cast_same Integer (Int n) refl in
          let others : cast_all layout.columns (values r) ≡ values r = cast_all_same layout.columns (values r) (suit r has) in
          let all : next tree ≡ put_row new left = rw (given, one, others) at it.rows in
          let free : is_taken left new ≡ false = not-true _ (and_parts _ _ (rw (given, one) at it.fresh)).0 in
          let now : IsKeyed keys table (next tree) = follows (rw all (spread_put new left free (spread_without n (db tree) was.spread))) (rw all (numbered_put new left refl (numbered_without n (db tree) was.numbered))) in
          let shown : f new ≡ change (f r) = subst (λ v. f (v ∷ values r) ≡ change (f r)) id (shows r) in
          let found : row_with keys key (rows_in keys table db) ≡ Some (f r) = find_only (λ x. is_eq (row_cmp (take keys x) key)) (rows_in keys table db) (f r)
          (has_order (by_key_total keys) (map f (db tree)) (shown_apart keys table (db tree) was) (f r) (has_map f (db tree) r has)) (sym (tested r) ∙ pass)
          (λ y h t. let s = map_has f (db tree) y (order_has (by_key_total keys) (map f (db tree)) y h) in
          let q : test s.0 ≡ true = tested s.0 ∙ subst (λ z. is_eq (row_cmp (take keys z) key) ≡ true) s.2 t in
          s.2 ∙ ap f (one_row (db tree) was.spread s.0 r s.1 has (same_id s.0 r s.1 has q pass))) in
          let put = shows_put keys table (db tree) left new was (subst (IsKeyed keys table) all now) free (λ x h. (has_filter (λ y. not (has_rowid n y)) (db tree) x h).0)
          (λ x h apart. filter_has (λ y. not (has_rowid n y)) (db tree) x h (stays x h n id (λ e. apart (rw shown e)))) in
          (now, rw found (ap (λ rs. in_order (by_key keys) (map f rs)) all ∙ put ∙ ap (λ v. put_row_by keys v (rows_in keys table db)) shown))
        where
          own : by_key keys (f r) (change (f r)) ≡ Equal
          own = let k = keeps r in rw k (tied_itself row_cmp_total (take keys (f r)))

          stays : (x : Row) → Has (db tree) x → (n : ℤ) → rowid r ≡ Int n → (by_key keys (f x) (change (f r)) ≡ Equal → ⊥) → not (has_rowid n x) ≡ true
          stays x h n id apart = by (value_cmp (rowid x) (Int n)) refl
            where
              by : (o : Ordering) → value_cmp (rowid x) (Int n) ≡ o → not (is_eq o) ≡ true
              by Less e = refl
              by Equal e = absurd (let t : value_cmp (rowid x) (rowid r) ≡ Equal = rw id e in let same : x ≡ r = one_row (db tree) was.spread x r h has t in apart (rw same own))
              by Greater e = refl

-- ---- the statement

pub update_some : (keys : ℕ) (layout : Layout) → IsKeyOf keys layout → (old new : State) (was : Stands old.now keys layout) (text : List ℕ) (params : Row) (at : ℕ) (places : List ℕ)
    (sets_of : List (ℕ × ℕ)) (change : Row → Row)
    → Means old.now.schema text (Update was.at (record { lets = []; body = table_query was.tree (key_tests at places) [] (col 1 0 ∷ col 1 0 ∷ some_terms layout sets_of) }))
    → ((r : Row) → take keys (columns_of (table_of layout was.tree) r) ≡ map (column r) places) → list_any is_null (key_in at places params) ≡ false → are_exact layout.columns ≡ true
    → sets_suit sets_of params 0 layout.columns ≡ true
    → ((r : Row) → columns_of (table_of layout was.tree) (rowid r ∷ eval_all (some_terms layout sets_of) (params ∷ r ∷ [])) ≡ change (columns_of (table_of layout was.tree) r))
    → ((r : Row) → take keys (change (columns_of (table_of layout was.tree) r)) ≡ take keys (columns_of (table_of layout was.tree) r)) → IsDatabase old.now → (count : ℕ)
    → Executes text params old new (Ok count)
    → Sets old.now new.now keys layout (rows_after_update keys (key_in at places params) change (rows_of keys layout.name old.now))
update_some keys layout key old new was text params at places sets_of change means first solid exact suit shows keeps sound count ran =
    let tests = key_tests at places in
    let project = col 1 0 ∷ col 1 0 ∷ some_terms layout sets_of in
    let values = λ (r : Row). eval_all (some_terms layout sets_of) (params ∷ r ∷ []) in
    let w = runs_as text params old new old.now.schema refl (Update was.at (record { lets = []; body = table_query was.tree tests [] project })) means.0 means.1 count ran in
    let done = updates layout was.tree old new was.at was.has.there _ params count (table_query was.tree tests [] project) was.unreferred w in
    let answer = answered was.tree tests [] project old.now.trees params Null done.0 done.1 in
    let tested = λ (r : Row). tests_key at places params r solid ∙ ap is_eq (ap (λ k. row_cmp k (key_in at places params)) (sym (first r))) in
    let put = updates_row keys layout was.tree old.now.schema old.now.trees new.now.trees tests [] project params (key_in at places params) values change done.0 answer done.3
    (stored_suits old.now was.at layout was.tree sound was.has.there exact sets_of params suit) (λ r. refl) tested shows keeps was.keyed
    (λ spread numbered. key.holds new.now was.at was.tree (rw done.2 was.has.there) w.sound spread numbered) in
    sets old.now new.now keys layout was (rows_after_update keys (key_in at places params) change (rows_of keys layout.name old.now)) done.2 w.sound done.3.tables put.0
    (put.1 ∙ ap (rows_after_update keys (key_in at places params) change) (sym (rows_of_is old.now keys layout was)))

-- what it comes to where the row is there
pub updated_there : (keys : ℕ) (key : Row) (change : Row → Row) (rows : List Row) (row : Row) → row_with keys key rows ≡ Some row
    → rows_after_update keys key change rows ≡ put_row_by keys (change row) rows
updated_there keys key change rows row is = ap (λ (o : Option Row). unwrap_or (option_map (λ r. put_row_by keys (change r) rows) o) rows) is
