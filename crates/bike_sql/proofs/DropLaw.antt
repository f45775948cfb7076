-- A DROP TABLE that is done in a sound database, in which its table stands, takes that table and its indexes, and leaves each other table.
use Rattle.std.proofs.Common.{◌≡◌, ◌≢◌, ◌==◌, not, inl, inr, ℕ, Bool, true, false, List, [], ◌∷◌, map, filter, find, slice_get, Option, Some, None, option_map, unwrap_or, Ok}
use Rattle.std.proofs.Common.{refl, sym, ap, subst, ◌∙◌, arith}
use Rattle.std.specs.List.{position_from, list_any}
use Rattle.std.proofs.lemmas.Bool.{cases_Bool, and_from, eq-eqb, ne_eqb}
use Rattle.sqlite_trees.specs.Objects.{catalog_tree}
use Rattle.sqlite_schema.specs.declared.schema.Schema.{Schema}
use Rattle.sqlite_schema.specs.declared.schema.Table.{Table}
use Rattle.sqlite_schema.specs.declared.schema.Index.{Index}
use Rattle.sqlite_schema.specs.declared.schema.Reference.{Reference}
use Rattle.sqlite_schema.specs.declared.command.Command.TheVariants.{DropTable}
use Rattle.sqlite_schema.specs.Names.{same_name, table_named, view_named, index_named}
use Rattle.sqlite_rules.specs.Lists.{Has}
use Rattle.sqlite_rules.proofs.ListLemmas.{has_filtered, has_got}
use Rattle.sqlite_resolve.specs.Scope.{Name}
use Rattle.sqlite_resolve.specs.Compile.{first}
use Rattle.sqlite_catalog.specs.Change.{KeepsRows}
use Rattle.sqlite_catalog.proofs.StepLemmas.{same_itself, named_once}
use Rattle.sqlite.specs.Effect.{Database, IsDatabase}
use Rattle.sqlite.specs.Listing.{understood}
use Rattle.sqlite.specs.State.{State, Executes, ExecutesIn}
use Rattle.sqlite.proofs.Callers.{statement_of, runs_as}
use Rattle.bike_sql.specs.Makes.{IsFree}
use Rattle.bike_sql.proofs.GrowLemmas.{trees_apart}
use Rattle.bike_sql.specs.Keyed.{in_order}
use Rattle.bike_sql.specs.Layout.{Layout, table_of}
use Rattle.bike_sql.specs.View.{IsKeyed, by_key, columns_of}
use Rattle.bike_sql.specs.Stands.{is_same_text, refers_to, is_referred_to, Stands}
use Rattle.bike_sql.proofs.FrameLemmas.{rows_of_is}
use Rattle.bike_sql.proofs.RowListLemmas.{all_at}
use Rattle.bike_sql.specs.Drops.{IsDrop, OthersStay, Drops}
use Rattle.bike_sql.proofs.DropListLemmas.{absent, first_kept, find_kept, none_kept, any_kept, none_pass}
use Rattle.bike_sql.proofs.DropNameLemmas.{index_apart}
use Rattle.bike_sql.proofs.DropTextLemmas.{drop_means}
use Rattle.bike_sql.proofs.DropEffectLemmas.{Leaves, leaves}

same_text : (a : List ℕ) → is_same_text a a ≡ true
same_text [] = refl
same_text (x ∷ xs) = and_from (x == x) (is_same_text xs xs) (eq-eqb x x refl) (same_text xs)

-- a table that is in another tree than this
abbrev stays : ℕ → Table → Bool
stays tree t = not (t.tree == tree)

other_stays : (tree : ℕ) (o : Option Table) → unwrap_or (option_map (λ (t : Table). t.tree == tree) o) false ≡ false → unwrap_or (option_map (stays tree) o) true ≡ true
other_stays tree None other = refl
other_stays tree (Some t) other = ap not other

module _ (old new : Database) (keys : ℕ) (layout : Layout) (was : Stands old keys layout) (left : Leaves was.tree old new) where
  abbrev ours : Table
  ours = table_of layout was.tree

  abbrev stay : Table → Bool
  stay = stays was.tree

  abbrev fewer : List Table
  fewer = filter stay old.schema.tables

  tables_are : new.schema.tables ≡ fewer
  tables_are = ap (λ (s : Schema). s.tables) left.schema

  -- a foreign key that did not refer to our table refers to what it did
  refers_still : (tree : ℕ) (ref : Reference) → refers_to old.schema.tables was.tree ref ≡ false → refers_to fewer tree ref ≡ refers_to old.schema.tables tree ref
  refers_still tree ref other =
      let called = λ (t : Table). same_name t.name ref.parent in
      ap (λ found. unwrap_or (option_map (λ (t : Table). t.tree == tree) found) false) (find_kept called stay old.schema.tables (other_stays was.tree (find called old.schema.tables) other))

  unreferred_still : (tree : ℕ) → is_referred_to old.schema tree ≡ false → is_referred_to new.schema tree ≡ false
  unreferred_still tree none =
      let before = refers_to old.schema.tables tree in
      let to_ours = refers_to old.schema.tables was.tree in
      let after = refers_to fewer tree in
      let in_table = λ (test : Reference → Bool) (t : Table). list_any test t.references in
      ap (λ ts. list_any (λ t. list_any (refers_to ts tree) t.references) ts) tables_are
      ∙ any_kept (in_table after) stay old.schema.tables
      (none_pass (in_table before) (in_table to_ours) (in_table after) (λ t. none_pass before to_ours after
      (λ ref no other. refers_still tree ref other ∙ no) t.references) old.schema.tables none was.unreferred)

  -- ---- each other table

  others : OthersStay layout.name old new
  others more other apart stood =
      let table = table_of other stood.tree in
      let called = λ (t : Table). same_name t.name other.name in
      let in_tree = λ (t : Table). t.tree == stood.tree in
      let differ : table ≢ ours = λ e. let name : is_same_text other.name layout.name ≡ true = ap (λ (t : Table). is_same_text other.name t.name) (sym e) ∙ same_text other.name in cc in
      let kept : stay table ≡ true = ap not (ne_eqb stood.tree was.tree (trees_apart old.schema stood.at was.at table ours stood.has was.has differ)) in
      let place = first_kept called stay 0 0 old.schema.tables stood.at table (stood.has.found ∙ ap Some (omega arith)) stood.has.there (same_itself other.name) kept in
      let found : unwrap_or (option_map stay (find in_tree old.schema.tables)) true ≡ true = ap (λ o. unwrap_or (option_map stay o) true) stood.has.by_tree ∙ kept in
      let rows : new.trees stood.tree ≡ old.trees stood.tree = all_at (λ (t : Table). new.trees t.tree ≡ old.trees t.tree) fewer place.0 table left.rows place.2 in
      let stands : Stands new more other = record {
        at = place.0;
        tree = stood.tree;
        has = record {
          found = ap (position_from called 0) tables_are ∙ place.1 ∙ ap Some (omega arith);
          there = ap (λ l. slice_get l place.0) tables_are ∙ place.2;
          by_tree = ap (find in_tree) tables_are ∙ find_kept in_tree stay old.schema.tables found ∙ stood.has.by_tree;
          stored = stood.has.stored;
        };
        keyed = subst (IsKeyed more table) (sym rows) stood.keyed;
        unreferred = unreferred_still stood.tree stood.unreferred;
      } in
      record { stands = stands; rows = rows_of_is new more other stands ∙ ap (λ rows. in_order (by_key more) (map (columns_of table) rows)) rows ∙ sym (rows_of_is old more other stood) }

  -- ---- the name

  module _ (sound : IsDatabase old) where
    listed : Has old.schema.tables ours
    listed = has_got old.schema.tables was.at ours was.has.there

    no_other : (t : Table) → Has fewer t → same_name t.name layout.name ≡ false
    no_other t h = elim (cases_Bool (same_name t.name layout.name)) [
      | inr other ↦ other
      | inl same ↦
          let it = has_filtered stay old.schema.tables t h in
          let one : t ≡ ours = named_once old.schema.tables t ours sound.lists.listed.named it.0 listed same in
          absurd (let itself : stay ours ≡ false = ap not (eq-eqb was.tree was.tree refl) in let both = sym (ap stay one ∙ itself) ∙ it.1 in cc)
    ]

    freed : view_named old.schema layout.name ≡ None → IsFree new.schema layout.name
    freed no_view = (
      ap (position_from (λ (t : Table). same_name t.name layout.name) 0) tables_are ∙ absent (λ (t : Table). same_name t.name layout.name) 0 fewer no_other,
      ap (λ s. view_named s layout.name) left.schema ∙ no_view,
      ap (λ s. index_named s layout.name) left.schema
          ∙ absent (λ (i : Index). same_name i.name layout.name) 0 (filter (λ (i : Index). not (i.table == was.tree)) old.schema.indexes)
          (λ i h. index_apart old.schema (old.trees catalog_tree) sound.lists.listed ours listed i (has_filtered (λ (i : Index). not (i.table == was.tree)) old.schema.indexes i h).0),
    )

    dropped : IsDatabase new → view_named old.schema layout.name ≡ None → Drops layout.name was.tree old new
    dropped sound_now no_view = record {
      schema = left.schema;
      rows = subst (λ ts. KeepsRows ts old.trees new.trees) (sym tables_are) left.rows;
      sound = sound_now;
      free = freed no_view;
      others = others;
    }

-- ---- the text

-- DROP TABLE of the table's name: the table is gone, and each other table stands as it did, with its rows
pub table_dropped : (text : List ℕ) (keys : ℕ) (layout : Layout) → IsDrop (first text) layout.name → (old new : State) → IsDatabase old.now → (was : Stands old.now keys layout) → (count : ℕ)
    → Executes text [] old new (Ok count) → Drops layout.name was.tree old.now new.now
unfolding ExecutesIn
table_dropped text keys layout is old new sound was count h = elim (drop_means old.now.schema was.at layout.name was.has.found text is) [
  | inr refused ↦ absurd (let both = sym refused ∙ h.1.is in cc)
  | inl means ↦
      let schema = old.now.schema in
      let w = runs_as text [] old new schema refl (DropTable was.at) means.0.0 means.0.1 count h in
      let left = leaves layout was.tree was.at old new (statement_of text (understood schema text)) count was.has was.unreferred w in
      dropped old.now new.now keys layout was left sound w.sound means.1
]

-- ---- what else stays

module _ (name : Name) (tree : ℕ) (old new : Database) (it : Drops name tree old new) where
  -- a name that was free is free
  pub still_free : (other : Name) → IsFree old.schema other → IsFree new.schema other
  still_free other free = (
    ap (λ s. table_named s other) it.schema ∙ none_kept (λ (t : Table). same_name t.name other) (stays tree) 0 0 old.schema.tables free.0,
    ap (λ s. view_named s other) it.schema ∙ free.1,
    ap (λ s. index_named s other) it.schema ∙ none_kept (λ (i : Index). same_name i.name other) (λ i. not (i.table == tree)) 0 0 old.schema.indexes free.2,
  )

  -- what no table passed, as that a foreign key of it names a name, none passes
  pub still_none : (test : Table → Bool) → list_any test old.schema.tables ≡ false → list_any test new.schema.tables ≡ false
  still_none test none = ap (λ (s : Schema). list_any test s.tables) it.schema ∙ any_kept test (stays tree) old.schema.tables none
