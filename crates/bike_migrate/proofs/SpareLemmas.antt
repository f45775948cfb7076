-- What each statement leaves as it was.
use Rattle.std.proofs.Common.{◌≡◌, ◌≢◌, ◌==◌, ◌⊎◌, inl, inr, not, ℕ, Bool, true, false, List, [], ◌∷◌, ◌++◌, filter, find, slice_get, Some, None, option_map, unwrap_or, Ok}
use Rattle.std.proofs.Common.{Err, Result, refl, sym, ap, subst, ◌∙◌, arith}
use Rattle.std.specs.List.{AllByRecursion, position_from}
use Rattle.std.proofs.lemmas.Bool.{cases_Bool, or_parts, or_from, ne_eqb}
use Rattle.std.proofs.lemmas.List.Folds.{list_any-append}
use Rattle.sqlite_value.specs.Order.{Row}
use Rattle.sqlite_sql.specs.Term.{Term}
use Rattle.sqlite_sql.specs.Query.{Query}
use Rattle.sqlite_schema.specs.declared.schema.Table.{Table}
use Rattle.sqlite_schema.specs.declared.schema.Index.{Index}
use Rattle.sqlite_schema.specs.declared.schema.Schema.{Schema}
use Rattle.sqlite_schema.specs.declared.command.Source.TheVariants.{Values}
use Rattle.sqlite_schema.specs.declared.command.Command.TheVariants.{CreateTable, Insert, Update}
use Rattle.sqlite_schema.specs.Names.{same_name}
use Rattle.sqlite_rules.specs.Lists.{Has}
use Rattle.sqlite_catalog.specs.Calls.{CreatesTable}
use Rattle.sqlite_catalog.proofs.StepLemmas.{same_itself}
use Rattle.sqlite.specs.Effect.{Database}
use Rattle.sqlite.specs.Does.{Tally, lacks_sequence, sequence_text}
use Rattle.sqlite.specs.State.{State, Writes, Executes}
use Rattle.sqlite.proofs.Callers.{runs_as}
use Rattle.bike_sql.specs.Has.{HasTable}
use Rattle.bike_sql.specs.Laws.{Means}
use Rattle.bike_sql.proofs.GrowLemmas.{created_keeps, indexed_keeps}
use Rattle.bike_sql.specs.Drops.{Drops}
use Rattle.bike_sql.specs.Layout.{Layout, table_of}
use Rattle.bike_sql.specs.Stands.{is_same_text, Stands}
use Rattle.bike_sql.proofs.DropListLemmas.{first_kept, find_kept}
use Rattle.bike_sql.proofs.EffectLemmas.{inserts, updates}
use Rattle.bike_sql.proofs.FrameLemmas.{trees_apart}
use Rattle.bike_sql.proofs.RowListLemmas.{all_at, filter_has}
use Rattle.bike_schema.specs.Layouts.{name_of}
use Rattle.bike_schema.specs.Indexes.{TableIndex, HasIndex}
use Rattle.bike_schema.proofs.IndexLemmas.{AddsIndex}
use Rattle.bike_migrate.specs.Spared.{IsSpared, is_among, Spares}

-- ---- one change after another

pub spares_same : (names : List (List ℕ)) (db : Database) → Spares names db db
spares_same names db = record { tables = λ at t has other. record { at = at; has = has; rows = refl; indexes = λ i listed on. listed }; views = refl }

pub spares_then : (names : List (List ℕ)) (a b c : Database) → Spares names a b → Spares names b c → Spares names a c
spares_then names a b c first second = record {
  tables = λ at t has other.
      let one = first.tables at t has other in
      let two = second.tables one.at t one.has other in
      record { at = two.at; has = two.has; rows = two.rows ∙ one.rows; indexes = λ i listed on. two.indexes i (one.indexes i listed on) on };
  views = second.views ∙ first.views;
}

-- what spares more spares less
pub spares_less : (more fewer : List (List ℕ)) (a b : Database) → ((name : List ℕ) → is_among more name ≡ false → is_among fewer name ≡ false) → Spares fewer a b → Spares more a b
spares_less more fewer a b so it = record { tables = λ at t has other. it.tables at t has (so t.name other); views = it.views }

pub spares_all : (names : List (List ℕ)) (a b : Database) → Spares [] a b → Spares names a b
spares_all names a b it = spares_less names [] a b (λ name other. refl) it

pub among_first : (first : List ℕ) (rest : List (List ℕ)) (name : List ℕ) → is_among (first ∷ rest) name ≡ false → is_among (first ∷ []) name ≡ false
among_first first rest name h = or_from (is_same_text name first) false (or_parts (is_same_text name first) (is_among rest name) h).0 refl

pub among_rest : (first : List ℕ) (rest : List (List ℕ)) (name : List ℕ) → is_among (first ∷ rest) name ≡ false → is_among rest name ≡ false
among_rest first rest name h = (or_parts (is_same_text name first) (is_among rest name) h).1

pub among_both : (xs ys : List (List ℕ)) (name : List ℕ) → is_among (xs ++ ys) name ≡ false → (is_among xs name ≡ false) × (is_among ys name ≡ false)
among_both xs ys name other = or_parts (is_among xs name) (is_among ys name) (sym (list_any-append (is_same_text name) xs ys) ∙ other)

-- ---- CREATE TABLE

has_front : {X : Type 0} (xs ys : List X) (x : X) → Has xs x → Has (xs ++ ys) x
has_front [] ys x has = absurd has
has_front (z ∷ xs) ys x (inl is) = inl is
has_front (z ∷ xs) ys x (inr later) = inr (has_front xs ys x later)

spares_created : (text : List ℕ) (a b : Database) → CreatesTable a.schema text a.trees b.schema b.trees → Spares [] a b
spares_created text a b it = record {
  tables = λ at t has other. record {
    at = at;
    has = subst (λ s. HasTable s at t) (sym it.is) (created_keeps a.schema it.table at t has);
    rows = all_at (λ (u : Table). b.trees u.tree ≡ a.trees u.tree) a.schema.tables at t it.others has.there;
    indexes = λ i listed on. subst (λ (s : Schema). Has s.indexes i) (sym it.is) (has_front a.schema.indexes _ i listed);
  };
  views = ap (λ (s : Schema). s.views) it.is;
}

went : {B E R : Type 0} {b : B} {Stops : E → Type 0} → ((stop : E) × Stops stop × (Ok b ≡ Err stop)) ⊎ R → R
went (inl stopped) = absurd (let e = stopped.2 in cc)
went (inr on) = on

same_value : {B E : Type 0} {a b : B} → ◌≡◌ {A = Result B E} (Ok a) (Ok b) → a ≡ b
same_value e = cc

pub spares_making : (text : List ℕ) (old new : State) (count : ℕ) → Writes old new None CreateTable text [] count → Spares [] old.now new.now
spares_making text old new count w =
    let all = went w.changed in
    let first = went all.1 in
    let now : all.0 ≡ new.now = sym (ap (λ (p : Tally × Database). p.1) (same_value all.2)) in
    subst (Spares [] old.now) now (spares_then [] old.now first.0 all.0 (spares_created text old.now first.0 first.1) (elim (cases_Bool (lacks_sequence first.0.schema)) [
      | inl lacks ↦ spares_created sequence_text first.0 all.0 (rw lacks at first.2)
      | inr has ↦ subst (Spares [] first.0) (sym (same_value (rw has at first.2))) (spares_same [] first.0)
    ]))

-- ---- CREATE INDEX

pub spares_indexing : (name text : List ℕ) (a b : Database) → AddsIndex name text a b → Spares [] a b
spares_indexing name text a b it = record {
  tables = λ at t has other. record {
    at = at;
    has = subst (λ s. HasTable s at t) (sym it.schema) (indexed_keeps a.schema it.table it.index at t has);
    rows = all_at (λ (u : Table). b.trees u.tree ≡ a.trees u.tree) a.schema.tables at t it.rows has.there;
    indexes = λ i listed on. subst (λ (s : Schema). Has s.indexes i) (sym it.schema) (has_front a.schema.indexes _ i listed);
  };
  views = ap (λ (s : Schema). s.views) it.schema;
}

-- an index stays where its table is spared
pub index_spared : (names : List (List ℕ)) (a b : Database) (i : TableIndex) → Spares names a b → is_among names (name_of i.table) ≡ false → HasIndex a.schema i → HasIndex b.schema i
index_spared names a b i it other was =
    let spared = it.tables was.at was.table was.has (ap (is_among names) was.called ∙ other) in
    record {
      at = spared.at;
      table = was.table;
      has = spared.has;
      called = was.called;
      index = was.index;
      listed = spared.indexes was.index was.listed was.on;
      named = was.named;
      on = was.on;
      columns = was.columns;
      order = was.order;
      repeats = was.repeats;
    }

-- ---- INSERT and UPDATE

module _ (layout : Layout) (keys : ℕ) (old new : State) (was : Stands old.now keys layout) (text : List ℕ) (params : Row) (count : ℕ) where
  spares_written : new.now.schema ≡ old.now.schema → AllByRecursion (λ t. t.tree ≢ was.tree → new.now.trees t.tree ≡ old.now.trees t.tree) old.now.schema.tables
      → Spares (layout.name ∷ []) old.now new.now
  spares_written same rows = record {
    tables = λ at t has other. record {
      at = at;
      has = subst (λ s. HasTable s at t) (sym same) has;
      rows = all_at (λ (u : Table). u.tree ≢ was.tree → new.now.trees u.tree ≡ old.now.trees u.tree) old.now.schema.tables at t rows has.there
          (trees_apart old.now.schema was.at at (table_of layout was.tree) t was.has has (or_parts (is_same_text t.name layout.name) false other).0);
      indexes = λ i listed on. subst (λ (s : Schema). Has s.indexes i) (sym same) listed;
    };
    views = ap (λ (s : Schema). s.views) same;
  }

  pub spares_inserting : (width : ℕ) (terms : List Term) → Means old.now.schema text (Insert was.at (Values terms width)) → Executes text params old new (Ok count)
      → Spares (layout.name ∷ []) old.now new.now
  spares_inserting width terms means ran =
      let w = runs_as text params old new old.now.schema refl (Insert was.at (Values terms width)) means.0 means.1 count ran in
      let done = inserts layout was.tree old new was.at was.has.there _ params count width terms w in
      spares_written done.0 done.1.tables

  pub spares_updating : (query : Query) → Means old.now.schema text (Update was.at (record { lets = []; body = query })) → Executes text params old new (Ok count)
      → Spares (layout.name ∷ []) old.now new.now
  spares_updating query means ran =
      let w = runs_as text params old new old.now.schema refl (Update was.at (record { lets = []; body = query })) means.0 means.1 count ran in
      let done = updates layout was.tree old new was.at was.has.there _ params count query was.unreferred w in
      spares_written done.2 done.3.tables

-- ---- DROP TABLE

module _ (layout : Layout) (old new : Database) (here tree : ℕ) (there : HasTable old.schema here (table_of layout tree)) (it : Drops layout.name tree old new) where
  abbrev stay : Table → Bool
  stay t = not (t.tree == tree)

  abbrev fewer : List Table
  fewer = filter stay old.schema.tables

  tables_are : new.schema.tables ≡ fewer
  tables_are = ap (λ (s : Schema). s.tables) it.schema

  spared : (at : ℕ) (t : Table) → HasTable old.schema at t → is_among (layout.name ∷ []) t.name ≡ false → IsSpared old new t
  spared at t has other =
      let called = λ (u : Table). same_name u.name t.name in
      let in_tree = λ (u : Table). u.tree == t.tree in
      let kept : stay t ≡ true = ap not (ne_eqb t.tree tree (trees_apart old.schema here at (table_of layout tree) t there has (or_parts (is_same_text t.name layout.name) false other).0)) in
      let place = first_kept called stay 0 0 old.schema.tables at t (has.found ∙ ap Some (omega arith)) has.there (same_itself t.name) kept in
      let found : unwrap_or (option_map stay (find in_tree old.schema.tables)) true ≡ true = ap (λ o. unwrap_or (option_map stay o) true) has.by_tree ∙ kept in
      record {
        at = place.0;
        has = record {
          found = ap (position_from called 0) tables_are ∙ place.1 ∙ ap Some (omega arith);
          there = ap (λ l. slice_get l place.0) tables_are ∙ place.2;
          by_tree = ap (find in_tree) tables_are ∙ find_kept in_tree stay old.schema.tables found ∙ has.by_tree;
          stored = has.stored;
        };
        rows =
            all_at (λ (u : Table). new.trees u.tree ≡ old.trees u.tree) fewer place.0 t
            (subst (λ ts. AllByRecursion (λ (u : Table). new.trees u.tree ≡ old.trees u.tree) ts) tables_are it.rows) place.2;
        indexes = λ i listed on. subst (λ (s : Schema). Has s.indexes i) (sym it.schema)
            (filter_has (λ (j : Index). not (j.table == tree)) old.schema.indexes i listed (ap (λ n. not (n == tree)) on ∙ kept));
      }

  pub spares_dropping : Spares (layout.name ∷ []) old new
  spares_dropping = record { tables = spared; views = ap (λ (s : Schema). s.views) it.schema }
