-- What the engine does where it drops a table on which no foreign key acts.
use Rattle.std.proofs.Common.{◌≡◌, ◌==◌, ◌+◌, ◌⊎◌, find, ◌&&◌, inl, inr, ℕ, Bool, true, false, List, [], is_some, None, Some, Ok, Err, Result, refl, sym, ap, subst, ◌∙◌, arith}
use Rattle.std.specs.List.{list_any}
use Rattle.std.proofs.lemmas.Bool.{cases_Bool, eq-eqb, MatchBool-at_false}
use Rattle.sqlite_schema.specs.declared.schema.Schema.{Schema}
use Rattle.sqlite_schema.specs.declared.schema.Table.{Table}
use Rattle.sqlite_schema.specs.declared.schema.Reference.{Reference}
use Rattle.sqlite_schema.specs.declared.schema.Keys.{Keys}
use Rattle.sqlite_schema.specs.declared.schema.Keys.TheVariants.{Enforced}
use Rattle.sqlite_schema.specs.declared.command.Command.TheVariants.{DropTable}
use Rattle.sqlite_schema.specs.Names.{same_name, table_named}
use Rattle.sqlite_rules.specs.Action.{deed_for}
use Rattle.sqlite_catalog.specs.Change.{without_table, KeepsRows}
use Rattle.sqlite.specs.Effect.{Database}
use Rattle.sqlite.specs.Rows.{Task}
use Rattle.sqlite.specs.Does.{Tally, AtPlace, Drops, is_acted_on}
use Rattle.sqlite.specs.State.{State, mode_of, Writes}
use Rattle.bike_sql.specs.Has.{HasTable}
use Rattle.bike_sql.proofs.PlaceLemmas.{named_alike}
use Rattle.bike_sql.specs.Layout.{Layout, table_of}
use Rattle.bike_sql.specs.Stands.{refers_to, is_referred_to}
use Rattle.bike_sql.proofs.DropListLemmas.{found_there, none_pass}

-- ---- no foreign key acts

module _ (schema : Schema) (at : ℕ) (table : Table) (has : HasTable schema at table) where
  -- a foreign key that names the table refers to it
  named_refers : (ref : Reference) → refers_to schema.tables table.tree ref ≡ false → same_name table.name ref.parent ≡ false
  named_refers ref unreferred = elim (cases_Bool (same_name table.name ref.parent)) [
    | inr other ↦ other
    | inl same ↦
        let placed : table_named schema ref.parent ≡ Some (0 + at) = named_alike schema table.name ref.parent same ∙ has.found ∙ ap Some (omega arith) in
        let found : find (λ (t : Table). same_name t.name ref.parent) schema.tables ≡ Some table = found_there (λ (t : Table). same_name t.name ref.parent) 0 schema.tables at table placed has.there same in
        let other : (table.tree == table.tree) ≡ false = rw found at unreferred in
        absurd (let both = sym (eq-eqb table.tree table.tree refl) ∙ other in cc)
  ]

  pub acts_not : (keys : Keys) → is_referred_to schema table.tree ≡ false → is_acted_on schema keys table ≡ false
  acts_not keys none =
      let refers = refers_to schema.tables table.tree in
      let acts : Reference → Bool = λ ref. same_name table.name ref.parent && is_some (deed_for keys true ref) in
      let in_table = λ (test : Reference → Bool) (t : Table). list_any test t.references in
      none_pass (in_table refers) (in_table refers) (in_table acts)
      (λ t unreferred _. none_pass refers refers acts (λ ref other _. let unnamed = named_refers ref other in rw unnamed) t.references unreferred unreferred)
      schema.tables none none

-- ---- the statement

went : {B E R : Type 0} {b : B} {Stops : E → Type 0} → ((stop : E) × Stops stop × (Ok b ≡ Err stop)) ⊎ R → R
went (inl stopped) = absurd (let e = stopped.2 in cc)
went (inr on) = on

same_value : {B E : Type 0} {a b : B} → ◌≡◌ {A = Result B E} (Ok a) (Ok b) → a ≡ b
same_value e = cc

-- The schema is without the table, and each other table has its rows.
pub record Leaves (tree : ℕ) (old new : Database) : Type 0 where
  pub schema : new.schema ≡ without_table old.schema tree
  pub rows : KeepsRows (without_table old.schema tree).tables old.trees new.trees

module _ (layout : Layout) (tree at : ℕ) (old new : State) (text : List ℕ) (count : ℕ) (has : HasTable old.now.schema at (table_of layout tree))
    (unreferred : is_referred_to old.now.schema tree ≡ false)
    (w : Writes old new None (DropTable at) text [] count) where
  abbrev table : Table
  table = table_of layout tree

  abbrev task : Table → Task
  task t = record { limit = old.step_limit; keys = (mode_of old).keys; schema = old.now.schema; table = t; params = [] }

  pub leaves : Leaves tree old.now new.now
  leaves =
      let run : Drops (task table) (mode_of old) old.now.trees (Ok (w.tally, new.now)) = subst (λ o. AtPlace (λ t. Drops (task t) (mode_of old) old.now.trees) o (Ok (w.tally, new.now))) has.there w.changed in
      let quiet = acts_not old.now.schema at table has Enforced unreferred in
      let emptied = went run in
      let none_removed : emptied.0 ≡ old.now.trees = same_value (MatchBool-at_false _ _ quiet emptied.1) in
      let uncounted = went emptied.2 in
      let none_counted : uncounted.0 ≡ emptied.0 = same_value uncounted.1 in
      let tested = went uncounted.2 in
      let left = went tested.2 in
      let now : new.now ≡ left.0 = ap (λ (p : Tally × Database). p.1) (same_value left.2) in
      subst (Leaves tree old.now) (sym now) (record {
        schema = left.1.0;
        rows = subst (λ trees. KeepsRows (without_table old.now.schema tree).tables trees left.0.trees) (none_counted ∙ none_removed) left.1.1;
      })
