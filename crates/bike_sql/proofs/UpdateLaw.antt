-- UPDATE of all columns of the row with a key replaces that row.
use Rattle.std.proofs.Common.{◌≡◌, ℕ, ℤ, List, [], ◌∷◌, map, take, Bool, true, false, Ok, Equal, refl, sym, ap, ap₂, subst, ◌∙◌}
use Rattle.std.specs.FinMap.{int_cmp-IsAntisymmetric}
use Rattle.std.specs.Ordering.{is_eq}
use Rattle.std.specs.List.{list_any}
use Rattle.sqlite_value.specs.declared.value.Value.{Value}
use Rattle.sqlite_value.specs.declared.value.Value.TheVariants.{Null, Int}
use Rattle.sqlite_value.specs.Order.{Row, column, value_cmp, row_cmp}
use Rattle.sqlite_value.proofs.OrderLemmas.{value_cmp-Int, then-Equal}
use Rattle.sqlite_trees.specs.Tree.{rowid}
use Rattle.sqlite_sql.specs.Ops.{is_null}
use Rattle.sqlite_sql.specs.Term.{Term, eval_all}
use Rattle.sqlite_schema.specs.declared.command.Command.TheVariants.{Update}
use Rattle.sqlite_rules.specs.Lists.{Has}
use Rattle.sqlite_rules.specs.Edit.{id_in}
use Rattle.sqlite_rules.proofs.TableLemmas.{int_is}
use Rattle.sqlite.specs.State.{State, Executes}
use Rattle.sqlite.proofs.Callers.{runs_as}
use Rattle.bike_sql.specs.Laws.{Means}
use Rattle.bike_sql.specs.Layout.{Layout, table_of}
use Rattle.bike_sql.specs.View.{columns_of, rows_after_replacement}
use Rattle.bike_sql.specs.Stands.{rows_of, Stands, Sets}
use Rattle.bike_sql.specs.Queries.{table_query, key_tests, key_in}
use Rattle.bike_sql.proofs.KeyLemmas.{IsKeyOf}
use Rattle.bike_sql.proofs.CastLemmas.{suit_all}
use Rattle.bike_sql.proofs.EffectLemmas.{updates}
use Rattle.bike_sql.proofs.ChangeLemmas.{replaces_row}
use Rattle.bike_sql.proofs.FrameLemmas.{rows_of_is, sets}
use Rattle.bike_sql.proofs.TestLemmas.{tests_key, tie_of}
use Rattle.bike_sql.proofs.AnswerLemmas.{passes, answered}

-- WHERE compares the key's columns, at `places`, with the first parameters; SET gives each column its value in `values`.
module _ (keys : ℕ) (layout : Layout) (key : IsKeyOf keys layout) (old new : State) (was : Stands old.now keys layout) (text : List ℕ) (params : Row) (places : List ℕ) (project : List Term)
    (values row : Row)
    (means : Means old.now.schema text (Update was.at (record { lets = []; body = table_query was.tree (key_tests 0 places) [] project })))
    (first : (r : Row) → take keys (columns_of (table_of layout was.tree) r) ≡ map (column r) places) (solid : list_any is_null (key_in 0 places params) ≡ false)
    (has_key : take keys row ≡ key_in 0 places params)
    (suit : suit_all layout.columns values ≡ true) (projects : (r : Row) → eval_all project (params ∷ r ∷ []) ≡ rowid r ∷ rowid r ∷ values) where
  abbrev test : Row → Bool
  test = passes was.tree (key_tests 0 places) [] project old.now.trees params

  update_sets : ((r : Row) → Has (old.now.trees was.tree) r → test r ≡ true → columns_of (table_of layout was.tree) (rowid r ∷ values) ≡ row) → (count : ℕ) → Executes text params old new (Ok count)
      → Sets old.now new.now keys layout (rows_after_replacement keys row (rows_of keys layout.name old.now))
  update_sets shows count ran =
      let tests = key_tests 0 places in
      let w = runs_as text params old new old.now.schema refl (Update was.at (record { lets = []; body = table_query was.tree tests [] project })) means.0 means.1 count ran in
      let done = updates layout was.tree old new was.at was.has.there _ params count (table_query was.tree tests [] project) was.unreferred w in
      let answer = answered was.tree tests [] project old.now.trees params Null done.0 done.1 in
      let tested = λ (r : Row). tests_key 0 places params r solid ∙ ap is_eq (ap₂ row_cmp (sym (first r)) (sym has_key)) in
      let put = replaces_row keys layout was.tree old.now.schema old.now.trees new.now.trees tests [] project params values row done.0 answer done.3 suit projects tested shows was.keyed
      (λ spread numbered. key.holds new.now was.at was.tree (rw done.2 was.has.there) w.sound spread numbered) in
      sets old.now new.now keys layout was (rows_after_replacement keys row (rows_of keys layout.name old.now)) done.2 w.sound done.3.tables put.0
      (put.1 ∙ ap (rows_after_replacement keys row) (sym (rows_of_is old.now keys layout was)))

  -- the key is of columns, and the rowid does not show
  pub update_columns : ((id : Value) → columns_of (table_of layout was.tree) (id ∷ values) ≡ row) → (count : ℕ) → Executes text params old new (Ok count)
      → Sets old.now new.now keys layout (rows_after_replacement keys row (rows_of keys layout.name old.now))
  update_columns shows = update_sets (λ r has passed. shows (rowid r))

-- the key is an INTEGER PRIMARY KEY, the first parameter
pub update_number : (layout : Layout) → IsKeyOf 1 layout → (old new : State) (was : Stands old.now 1 layout) (text : List ℕ) (n : ℤ) (others : Row) (project : List Term) (values row : Row)
    → Means old.now.schema text (Update was.at (record { lets = []; body = table_query was.tree (key_tests 0 (0 ∷ [])) [] project }))
    → ((r : Row) → take 1 (columns_of (table_of layout was.tree) r) ≡ rowid r ∷ []) → take 1 row ≡ Int n ∷ [] → suit_all layout.columns values ≡ true
    → ((r : Row) → eval_all project ((Int n ∷ others) ∷ r ∷ []) ≡ rowid r ∷ rowid r ∷ values)
    → columns_of (table_of layout was.tree) (Int n ∷ values) ≡ row → (count : ℕ) → Executes text (Int n ∷ others) old new (Ok count)
    → Sets old.now new.now 1 layout (rows_after_replacement 1 row (rows_of 1 layout.name old.now))
update_number layout key old new was text n others project values row means first has_key suit projects shows =
    update_sets 1 layout key old new was text (Int n ∷ others) (0 ∷ []) project values row means first refl has_key suit projects
    (λ r has passed. subst (λ v. columns_of (table_of layout was.tree) (v ∷ values) ≡ row) (sym (rowid_is r has passed)) shows)
  where
    rowid_is : (r : Row) → Has (old.now.trees was.tree) r → passes was.tree (key_tests 0 (0 ∷ [])) [] project old.now.trees (Int n ∷ others) r ≡ true → rowid r ≡ Int n
    rowid_is r has passed =
        let is : rowid r ≡ Int (id_in (rowid r)) = int_is (rowid r) (was.keyed.numbered r has) in
        let hit : is_eq (row_cmp (rowid r ∷ []) (Int n ∷ [])) ≡ true = sym (tests_key 0 (0 ∷ []) (Int n ∷ others) r refl) ∙ passed in
        let tie : value_cmp (rowid r) (Int n) ≡ Equal = sym (then-Equal (value_cmp (rowid r) (Int n))) ∙ tie_of _ hit in
        let same : value_cmp (Int (id_in (rowid r))) (Int n) ≡ Equal = subst (λ v. value_cmp v (Int n) ≡ Equal) is tie in
        is ∙ ap Int (int_cmp-IsAntisymmetric (id_in (rowid r)) n (sym (value_cmp-Int (id_in (rowid r)) n) ∙ same))
