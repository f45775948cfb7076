-- What a plain INSERT, UPDATE or DELETE does to the trees.
use Rattle.std.proofs.Common.{◌≡◌, ◌⊎◌, inl, inr, ℕ, ◌/◌, ◌==◌, List, [], ◌∷◌, ◌++◌, length, append-nil, slice_get, find, false, Option, Some, None, option_map, unwrap_or, Ok, Err, Result, refl, sym}
use Rattle.std.proofs.Common.{ap, ap₂, subst, subst₂, ◌∙◌}
use Rattle.std.specs.Prelude.{option_and_then}
use Rattle.std.specs.List.{AllByRecursion, list_any, flat_map, filter_map}
use Rattle.std.proofs.lemmas.Bool.{or_parts, or_from}
use Rattle.sqlite_value.specs.declared.value.Value.TheVariants.{Null}
use Rattle.sqlite_value.specs.Order.{Row}
use Rattle.sqlite_sql.specs.Term.{Term}
use Rattle.sqlite_sql.specs.Query.{Query, IsAnswerAs}
use Rattle.sqlite_sql.specs.Program.{overlay}
use Rattle.sqlite_trees.specs.Tree.{Trees}
use Rattle.sqlite_schema.specs.declared.schema.Schema.{Schema}
use Rattle.sqlite_schema.specs.declared.schema.Table.{Table}
use Rattle.sqlite_schema.specs.declared.schema.Reference.{Reference}
use Rattle.sqlite_schema.specs.declared.schema.Keys.{Keys}
use Rattle.sqlite_schema.specs.declared.schema.Keys.TheVariants.{Enforced}
use Rattle.sqlite_schema.specs.declared.command.Source.TheVariants.{Values}
use Rattle.sqlite_schema.specs.declared.command.Command.TheVariants.{Insert, Update, Delete}
use Rattle.sqlite_schema.specs.Names.{same_name}
use Rattle.sqlite_schema.specs.Rules.{ParentKey, key_in, key_places, declared_order}
use Rattle.sqlite_value.specs.declared.keys.Order.{Order}
use Rattle.sqlite_rules.specs.declared.action.Deed.{Deed}
use Rattle.sqlite_rules.specs.declared.error.Rowids.TheVariants.{Chosen, Given}
use Rattle.sqlite_rules.specs.Action.{pairs, works, work_by, work_for, deed_for}
use Rattle.sqlite_rules.specs.Calls.{ids_of}
use Rattle.sqlite_rules.specs.Edit.{edit_of, taken_by, Applies}
use Rattle.sqlite_rules.proofs.ActionLemmas.{no_works}
use Rattle.sqlite.specs.Effect.{Database, value_rows}
use Rattle.sqlite.specs.Rows.{Written, Task}
use Rattle.sqlite.specs.Does.{Tally, AtPlace, OnRows}
use Rattle.sqlite.specs.State.{State, mode_of, Writes}
use Rattle.sqlite.proofs.Callers.{one_step}
use Rattle.bike_sql.specs.Layout.{Layout, table_of}
use Rattle.bike_sql.specs.Stands.{refers_to, is_referred_to}

-- a part that gave a value did not stop on the way
went : {B E R : Type 0} {b : B} {Stops : E → Type 0} → ((stop : E) × Stops stop × (Ok b ≡ Err stop)) ⊎ R → R
went (inl stopped) = absurd (let e = stopped.2 in cc)
went (inr on) = on

same_value : {B E : Type 0} {a b : B} → ◌≡◌ {A = Result B E} (Ok a) (Ok b) → a ≡ b
same_value e = cc

-- ---- where no foreign key refers to a table, none acts on its rows

key_tree : (parent : Table) (places : Option (List ℕ)) (tree : ℕ) → (parent.tree == tree) ≡ false → (key : ParentKey) → option_and_then (key_in parent) places ≡ Some key → (key.0 == tree) ≡ false
key_tree parent None tree other key is = absurd (cc)
key_tree parent (Some places) tree other key is = by (declared_order parent places) is
  where
    by : (order : Option Order) → option_map (λ o. (parent.tree, places, o)) order ≡ Some key → (key.0 == tree) ≡ false
    by None e = absurd (cc)
    by (Some o) e = let same : parent.tree ≡ key.0 = ap (λ k. unwrap_or (option_map (λ (p : ParentKey). p.0) k) parent.tree) e in subst (λ t. (t == tree) ≡ false) same other

no_work : (schema : Schema) (keys : Keys) (depth tree : ℕ) (olds news : List Row) (child : Table) (ref : Reference) → refers_to schema.tables tree ref ≡ false
    → work_for schema keys depth tree olds news child ref ≡ None
no_work schema keys depth tree olds news child ref other = by (deed_for keys (length news == 0) ref) (find (λ t. same_name t.name ref.parent) schema.tables) other
  where
    act : (deed : Deed) (key : Option ParentKey) → ((k : ParentKey) → key ≡ Some k → (k.0 == tree) ≡ false) → work_by depth tree (pairs olds news) child ref (Some deed) key ≡ None
    act deed None far = refl
    act deed (Some key) far = let e = far key refl in rw e refl

    by : (deed : Option Deed) (parent : Option Table) → unwrap_or (option_map (λ (p : Table). p.tree == tree) parent) false ≡ false
        → work_by depth tree (pairs olds news) child ref deed (option_and_then (λ t. option_and_then (key_in t) (key_places t ref.parent_columns)) parent) ≡ None
    by None parent e = refl
    by (Some deed) None e = refl
    by (Some deed) (Some parent) e = act deed (option_and_then (key_in parent) (key_places parent ref.parent_columns)) (key_tree parent (key_places parent ref.parent_columns) tree e)

pub no_actions : (schema : Schema) (keys : Keys) (depth tree : ℕ) (olds news : List Row) → is_referred_to schema tree ≡ false → works schema keys depth tree olds news ≡ []
no_actions schema keys depth tree olds news unreferred = tables schema.tables unreferred
  where
    references : (child : Table) (refs : List Reference) → list_any (refers_to schema.tables tree) refs ≡ false → filter_map (work_for schema keys depth tree olds news child) refs ≡ []
    references child [] h = refl
    references child (ref ∷ refs) h =
        let both = or_parts (refers_to schema.tables tree ref) (list_any (refers_to schema.tables tree) refs) h in
        let none = no_work schema keys depth tree olds news child ref both.0 in
        rw none (references child refs both.1)

    tables : (ts : List Table) → list_any (λ t. list_any (refers_to schema.tables tree) t.references) ts ≡ false
        → flat_map (λ child. filter_map (work_for schema keys depth tree olds news child) child.references) ts ≡ []
    tables [] h = refl
    tables (t ∷ ts) h =
        let both = or_parts (list_any (refers_to schema.tables tree) t.references) (list_any (λ u. list_any (refers_to schema.tables tree) u.references) ts) h in ap₂ ◌++◌ (references t t.references both.0) (tables ts both.1)

-- where no table of the schema has a foreign key, none refers to this one
pub none_refer : (schema : Schema) (tree : ℕ) → AllByRecursion (λ t. t.references ≡ []) schema.tables → is_referred_to schema tree ≡ false
none_refer schema tree none = tables schema.tables none
  where
    tables : (ts : List Table) → AllByRecursion (λ t. t.references ≡ []) ts → list_any (λ t. list_any (refers_to schema.tables tree) t.references) ts ≡ false
    tables [] h = refl
    tables (t ∷ ts) h = or_from _ _ (ap (list_any (refers_to schema.tables tree)) h.0) (tables ts h.1)

-- ---- the edit of a statement

module _ (layout : Layout) (tree : ℕ) (old new : State) (at : ℕ) (there : slice_get old.now.schema.tables at ≡ Some (table_of layout tree)) (text : List ℕ) (params : Row) (count : ℕ) where
  abbrev table : Table
  table = table_of layout tree

  abbrev db : Trees
  db = old.now.trees

  abbrev task : Table → Task
  task t = record { limit = old.step_limit; keys = (mode_of old).keys; schema = old.now.schema; table = t; params = params }

  pub inserts : (width : ℕ) (terms : List Term) → Writes old new None (Insert at (Values terms width)) text params count
      → (new.now.schema ≡ old.now.schema) × Applies old.now.schema Enforced db (edit_of db table [] Chosen 0 (value_rows params width (length terms / width) terms)) new.now.trees
  inserts width terms w =
      let command = Insert at (Values terms width) in
      let run : OnRows (task table) (mode_of old) None command db (Ok (w.tally, new.now)) = subst (λ o. AtPlace (λ t. OnRows (task t) (mode_of old) None command db) o (Ok (w.tally, new.now))) there w.changed in
      let done = went run in
      let now = ap (λ (p : Tally × Database). p.1) (same_value (went (went done.2).2).2) in
      let given = went done.1 in
      let chosen = went given.2 in
      let written = went chosen.2 in
      let counted = went written.2 in
      let trees : done.0.trees ≡ written.0 = ap (λ (it : Written). it.trees) (same_value counted.2) ∙ same_value counted.1 in
      let rows : given.0 ≡ value_rows params width (length terms / width) terms = given.1.1 ∙ ap (λ p. value_rows p width (length terms / width) terms) (append-nil params) in
      let edit = edit_of db table [] Chosen 0 given.0 in
      let step = one_step old.now.schema Enforced db written.0 edit (no_works old.now.schema Enforced 0 tree edit.news) written.1 in
      let same : new.now.trees ≡ written.0 = ap (λ (d : Database). d.trees) now ∙ trees in
      (ap (λ (d : Database). d.schema) now, subst₂ (λ r n. Applies old.now.schema Enforced db (edit_of db table [] Chosen 0 r) n) rows (sym same) step)

  pub updates : (query : Query) → is_referred_to old.now.schema tree ≡ false → Writes old new None (Update at (record { lets = []; body = query })) text params count
      → (rows : List Row) × IsAnswerAs Null query (overlay db []) params rows × (new.now.schema ≡ old.now.schema)
      × Applies old.now.schema Enforced db (edit_of db table (ids_of rows) Given 1 rows) new.now.trees
  updates query unreferred w =
      let command = Update at (record { lets = []; body = query }) in
      let run : OnRows (task table) (mode_of old) None command db (Ok (w.tally, new.now)) = subst (λ o. AtPlace (λ t. OnRows (task t) (mode_of old) None command db) o (Ok (w.tally, new.now))) there w.changed in
      let done = went run in
      let now = ap (λ (p : Tally × Database). p.1) (same_value (went (went done.2).2).2) in
      let given = went done.1 in
      let written = went given.2 in
      let trees : done.0.trees ≡ written.0 = ap (λ (it : Written). it.trees) (same_value written.2) in
      let edit = edit_of db table (ids_of given.0) Given 1 given.0 in
      let step = one_step old.now.schema Enforced db written.0 edit (no_actions old.now.schema Enforced 0 tree (taken_by db edit) edit.news unreferred) written.1 in
      let same : new.now.trees ≡ written.0 = ap (λ (d : Database). d.trees) now ∙ trees in
      (given.0, given.1.answer Null, ap (λ (d : Database). d.schema) now, subst (Applies old.now.schema Enforced db edit) (sym same) step)

  pub deletes : (query : Query) → is_referred_to old.now.schema tree ≡ false → Writes old new None (Delete at (record { lets = []; body = query })) text params count
      → (rows : List Row) × IsAnswerAs Null query (overlay db []) params rows × (new.now.schema ≡ old.now.schema)
      × Applies old.now.schema Enforced db (edit_of db table (ids_of rows) Given 0 []) new.now.trees
  deletes query unreferred w =
      let command = Delete at (record { lets = []; body = query }) in
      let run : OnRows (task table) (mode_of old) None command db (Ok (w.tally, new.now)) = subst (λ o. AtPlace (λ t. OnRows (task t) (mode_of old) None command db) o (Ok (w.tally, new.now))) there w.changed in
      let done = went run in
      let now = ap (λ (p : Tally × Database). p.1) (same_value (went (went done.2).2).2) in
      let given = went done.1 in
      let written = went given.2 in
      let trees : done.0.trees ≡ written.0 = ap (λ (it : Written). it.trees) (same_value written.2) in
      let edit = edit_of db table (ids_of given.0) Given 0 [] in
      let step = one_step old.now.schema Enforced db written.0 edit (no_actions old.now.schema Enforced 0 tree (taken_by db edit) edit.news unreferred) written.1 in
      let same : new.now.trees ≡ written.0 = ap (λ (d : Database). d.trees) now ∙ trees in
      (given.0, given.1.answer Null, ap (λ (d : Database). d.schema) now, subst (Applies old.now.schema Enforced db edit) (sym same) step)
