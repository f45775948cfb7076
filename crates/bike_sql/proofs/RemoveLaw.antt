-- DELETE WHERE the key = .. takes out the row with that key, and nothing else.
use Rattle.std.proofs.Common.{◌≡◌, inl, inr, ℕ, ℤ, List, [], ◌∷◌, map, filter, length, take, not, Bool, true, false, Ordering, Less, Equal, Greater, Ok, refl, sym, ap, subst, ◌∙◌}
use Rattle.std.specs.List.{list_any}
use Rattle.std.specs.Ordering.{is_eq}
use Rattle.std.specs.List.Sorted.{IsPermutation}
use Rattle.std.proofs.lemmas.Bool.{not-true, true≢false}
use Rattle.std.proofs.lemmas.List.Sorted.{length_permutation}
use Rattle.sqlite_value.specs.declared.value.Value.TheVariants.{Null, Int}
use Rattle.sqlite_value.specs.declared.keys.Key.{Key}
use Rattle.sqlite_value.specs.Order.{Row, column, value_cmp, row_cmp}
use Rattle.sqlite_value.proofs.OrderLemmas.{row_cmp_total}
use Rattle.sqlite_trees.specs.Tree.{Trees, rowid, has_rowid, without_rowid}
use Rattle.sqlite_sql.specs.Ops.{is_null}
use Rattle.sqlite_sql.specs.Term.{Term, col, eval_all}
use Rattle.sqlite_sql.specs.Query.{Output}
use Rattle.sqlite_schema.specs.declared.schema.Schema.{Schema}
use Rattle.sqlite_schema.specs.declared.schema.Table.{Table}
use Rattle.sqlite_schema.specs.declared.schema.Keys.TheVariants.{Enforced}
use Rattle.sqlite_schema.specs.declared.command.Command.TheVariants.{Delete}
use Rattle.sqlite_rules.specs.declared.error.Rowids.TheVariants.{Given}
use Rattle.sqlite_rules.specs.Lists.{Has}
use Rattle.sqlite_rules.specs.Calls.{ids_of}
use Rattle.sqlite_rules.specs.Edit.{edit_of, Applies, id_in}
use Rattle.sqlite_rules.proofs.TableLemmas.{int_is}
use Rattle.sqlite.specs.State.{State, Executes}
use Rattle.sqlite.proofs.Callers.{one_permutation, runs_as}
use Rattle.bike_sql.specs.Laws.{Means}
use Rattle.bike_sql.specs.Layout.{Layout, table_of}
use Rattle.bike_sql.specs.View.{columns_of, rows_in, rows_after_removal, IsKeyed}
use Rattle.bike_sql.specs.Stands.{rows_of, Stands, Sets}
use Rattle.bike_sql.specs.Queries.{table_query, key_tests, key_in}
use Rattle.bike_sql.proofs.RowListLemmas.{has_filter, filter_has, no_list}
use Rattle.bike_sql.proofs.TreeLemmas.{one_row, keyed_without, shows_left}
use Rattle.bike_sql.proofs.ChangeLemmas.{one_passes}
use Rattle.bike_sql.proofs.EffectLemmas.{deletes}
use Rattle.bike_sql.proofs.FrameLemmas.{rows_of_is, sets}
use Rattle.bike_sql.proofs.TestLemmas.{tests_key, tie_of}
use Rattle.bike_sql.proofs.AnswerLemmas.{passes, out, Answered, answered}

-- ---- the rows after it

module _ (keys : ℕ) (layout : Layout) (tree : ℕ) (schema : Schema) (db next : Trees) (tests : List Term) (order : List (Term × Key)) (project : List Term) (params key : Row) where
  abbrev table : Table
  table = table_of layout tree

  abbrev f : Row → Row
  f = columns_of table

  abbrev test : Row → Bool
  test = passes tree tests order project db params

  abbrev Removed : Type 0
  Removed = IsKeyed keys table (next tree) × (rows_in keys table next ≡ rows_after_removal keys key (rows_in keys table db))

  -- WHERE finds the row with the key, and the rows that it misses are left.
  pub removes_row : (rows : List Row) → Answered tree tests order project db params rows → Applies schema Enforced db (edit_of db table (ids_of rows) Given 0 []) next
      → ((r : Row) → eval_all project (params ∷ r ∷ []) ≡ rowid r ∷ []) → ((r : Row) → test r ≡ is_eq (row_cmp (take keys (f r)) key)) → IsKeyed keys table (db tree) → Removed
  removes_row rows a it projects tested was = elim (one_passes test (db tree) was.spread same_id) [ inl none ↦ nothing none | inr one ↦ something one.0 one.1 one.2 one.3 ]
    where
      tie : (r : Row) → test r ≡ true → row_cmp (take keys (f r)) key ≡ Equal
      tie r pass = tie_of _ (sym (tested r) ∙ pass)

      same_id : (x y : Row) → Has (db tree) x → Has (db tree) y → test x ≡ true → test y ≡ true → value_cmp (rowid x) (rowid y) ≡ Equal
      same_id x y p q s t = was.apart x y p q (row_cmp_total.congr (take keys (f x)) key (take keys (f y)) (tie x s) ∙ (rw (tie y t) at (row_cmp_total.antisymm key (take keys (f y)))))

      left : IsKeyed keys table (next tree) → ((x : Row) → Has (next tree) x → Has (db tree) x × (test x ≡ false)) → ((x : Row) → Has (db tree) x → test x ≡ false → Has (next tree) x) → Removed
      left now kept stays = (
        now,
        shows_left keys table (db tree) (next tree) (λ row. not (is_eq (row_cmp (take keys row) key))) was now (λ x h. let stayed = kept x h in (stayed.0, ap not (sym (tested x) ∙ stayed.1)))
            (λ x h other. stays x h (tested x ∙ not-true _ other)),
      )

      nothing : filter test (db tree) ≡ [] → Removed
      nothing none =
          let outs : a.outs ≡ [] = no_list a.outs (length_permutation (map (out tree tests order project db params) (filter test (db tree))) a.outs a.same ∙ ap (λ xs. length (map (out tree tests order project db params) xs)) none) in
          let empty : rows ≡ [] = a.shown ∙ ap (map (λ (o : Output). o.1)) outs in
          let all : next tree ≡ db tree = rw empty at it.rows in
          left (rw all was) (λ x h. let has = subst (λ xs. Has xs x) all h in (has, fails x has (test x) refl)) (λ x h missed. subst (λ xs. Has xs x) (sym all) h)
        where
          fails : (r : Row) → Has (db tree) r → (b : Bool) → test r ≡ b → test r ≡ false
          fails r has true e = absurd (subst (λ xs. Has xs r) none (filter_has test (db tree) r has e))
          fails r has false e = e

      something : (r : Row) → Has (db tree) r → test r ≡ true → filter test (db tree) ≡ r ∷ [] → Removed
      something r has pass only =
          let n = id_in (rowid r) in
          let o = out tree tests order project db params in
          let other = λ (x : Row). not (has_rowid n x) in
          let outs : a.outs ≡ o r ∷ [] = one_permutation (o r) a.outs (subst (λ xs. IsPermutation (map o xs) a.outs) only a.same) in
          let id : rowid r ≡ Int n = int_is (rowid r) (was.numbered r has) in
          let given : rows ≡ (Int n ∷ []) ∷ [] = a.shown ∙ ap (map (λ (x : Output). x.1)) outs ∙ ap (λ x. x ∷ []) (projects r ∙ ap (λ v. v ∷ []) id) in
          let all : next tree ≡ without_rowid n (db tree) = rw given at it.rows in
          left (rw all (keyed_without keys table n (db tree) was)) (λ x h. let stayed = has_filter other (db tree) x (subst (λ xs. Has xs x) all h) in
          (stayed.0, misses x stayed.0 n id (not-true _ stayed.1) (test x) refl))
          (λ x h missed. subst (λ xs. Has xs x) (sym all) (filter_has other (db tree) x h (stays x h n id missed (value_cmp (rowid x) (Int n)) refl)))
        where
          misses : (x : Row) → Has (db tree) x → (n : ℤ) → rowid r ≡ Int n → has_rowid n x ≡ false → (b : Bool) → test x ≡ b → test x ≡ false
          misses x h n id other true e = absurd (let t : value_cmp (rowid x) (Int n) ≡ Equal = subst (λ v. value_cmp (rowid x) v ≡ Equal) id (same_id x r h has e pass) in true≢false (rw t at other))
          misses x h n id other false e = e

          stays : (x : Row) → Has (db tree) x → (n : ℤ) → rowid r ≡ Int n → test x ≡ false → (o : Ordering) → value_cmp (rowid x) (Int n) ≡ o → not (has_rowid n x) ≡ true
          stays x h n id missed Less e = rw e refl
          stays x h n id missed Equal e =
              absurd (let t : value_cmp (rowid x) (rowid r) ≡ Equal = rw id e in let same : x ≡ r = one_row (db tree) was.spread x r h has t in true≢false (sym pass ∙ ap test (sym same) ∙ missed))
          stays x h n id missed Greater e = rw e refl

-- ---- the statement

pub remove_row : (keys : ℕ) (layout : Layout) (old new : State) (was : Stands old.now keys layout) (text : List ℕ) (params : Row) (at : ℕ) (places : List ℕ)
    → Means old.now.schema text (Delete was.at (record { lets = []; body = table_query was.tree (key_tests at places) [] (col 1 0 ∷ []) }))
    → ((r : Row) → take keys (columns_of (table_of layout was.tree) r) ≡ map (column r) places) → list_any is_null (key_in at places params) ≡ false → (count : ℕ)
    → Executes text params old new (Ok count)
    → Sets old.now new.now keys layout (rows_after_removal keys (key_in at places params) (rows_of keys layout.name old.now))
remove_row keys layout old new was text params at places means first solid count ran =
    let tests = key_tests at places in
    let project = col 1 0 ∷ [] in
    let key = key_in at places params in
    let w = runs_as text params old new old.now.schema refl (Delete was.at (record { lets = []; body = table_query was.tree tests [] project })) means.0 means.1 count ran in
    let done = deletes layout was.tree old new was.at was.has.there _ params count (table_query was.tree tests [] project) was.unreferred w in
    let answer = answered was.tree tests [] project old.now.trees params Null done.0 done.1 in
    let tested = λ (r : Row). tests_key at places params r solid ∙ ap is_eq (ap (λ k. row_cmp k key) (sym (first r))) in
    let left = removes_row keys layout was.tree old.now.schema old.now.trees new.now.trees tests [] project params key done.0 answer done.3 (λ r. refl) tested was.keyed in
    sets old.now new.now keys layout was (rows_after_removal keys key (rows_of keys layout.name old.now)) done.2 w.sound done.3.tables left.0
    (left.1 ∙ ap (rows_after_removal keys key) (sym (rows_of_is old.now keys layout was)))
