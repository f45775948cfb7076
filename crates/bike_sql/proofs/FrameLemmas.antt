-- What a change of one table is to the tables of other names.
use Rattle.std.proofs.Common.{◌≡◌, ◌≢◌, ◌==◌, ℕ, List, [], ◌∷◌, true, false, find, refl, sym, ap, subst, ◌∙◌}
use Rattle.std.specs.List.{AllByRecursion}
use Rattle.std.proofs.lemmas.Bool.{and_from, eq-eqb, true≢false}
use Rattle.sqlite_value.specs.Order.{Row}
use Rattle.sqlite_schema.specs.declared.schema.Table.{Table}
use Rattle.sqlite_schema.specs.declared.schema.Schema.{Schema}
use Rattle.sqlite.specs.Effect.{Database, IsDatabase}
use Rattle.bike_sql.specs.Has.{HasTable}
use Rattle.bike_sql.specs.Layout.{Layout, table_of}
use Rattle.bike_sql.specs.View.{rows_in, IsKeyed}
use Rattle.bike_sql.specs.Stands.{rows_of, is_referred_to, is_same_text, Stands, Stays, Sets}
use Rattle.bike_sql.proofs.RowListLemmas.{all_at, same_some}

same_text : (a : List ℕ) → is_same_text a a ≡ true
same_text [] = refl
same_text (x ∷ xs) = and_from (x == x) (is_same_text xs xs) (eq-eqb x x refl) (same_text xs)

-- two tables of the schema have two trees
pub trees_apart : (schema : Schema) (at there : ℕ) (t u : Table) → HasTable schema at t → HasTable schema there u → is_same_text u.name t.name ≡ false → u.tree ≢ t.tree
trees_apart schema at there t u h k other same =
    let one : t ≡ u = same_some (sym h.by_tree ∙ ap (λ tree. find (λ (x : Table). x.tree == tree) schema.tables) (sym same) ∙ k.by_tree) in
    true≢false (sym (same_text t.name) ∙ subst (λ (x : Table). is_same_text x.name t.name ≡ false) (sym one) other)

-- the name finds the table, at whatever place it stands and in whatever tree
pub rows_of_is : (db : Database) (keys : ℕ) (layout : Layout) (it : Stands db keys layout) → rows_of keys layout.name db ≡ rows_in keys (table_of layout it.tree) db.trees
rows_of_is db keys layout it = let f = it.has.found in let e = it.has.there in rw (f, e)

module _ (old new : Database) (same : new.schema ≡ old.schema) (keys : ℕ) (layout : Layout) (was : Stands old keys layout) where
  -- the table whose rows are known
  pub changed : (rows : List Row) → IsKeyed keys (table_of layout was.tree) (new.trees was.tree) → rows_in keys (table_of layout was.tree) new.trees ≡ rows
      → (it : Stands new keys layout) × (rows_of keys layout.name new ≡ rows)
  changed rows keyed is =
      let it : Stands new keys layout = record {
        at = was.at;
        tree = was.tree;
        has = subst (λ s. HasTable s was.at (table_of layout was.tree)) (sym same) was.has;
        keyed = keyed;
        unreferred = subst (λ s. is_referred_to s was.tree ≡ false) (sym same) was.unreferred;
      } in
      (it, rows_of_is new keys layout it ∙ is)

  -- a table whose tree is as it was
  pub kept : new.trees was.tree ≡ old.trees was.tree → Stays old new keys layout
  kept e =
      let it = changed (rows_in keys (table_of layout was.tree) old.trees) (subst (IsKeyed keys (table_of layout was.tree)) (sym e) was.keyed) (rw e) in record
      { stands = it.0; rows = it.1 ∙ sym (rows_of_is old keys layout was) }

-- one table was written, and the tree of each other table is as it was
pub sets : (old new : Database) (keys : ℕ) (layout : Layout) (was : Stands old keys layout) (rows : List Row) → new.schema ≡ old.schema → IsDatabase new
    → AllByRecursion (λ t. t.tree ≢ was.tree → new.trees t.tree ≡ old.trees t.tree) old.schema.tables
    → IsKeyed keys (table_of layout was.tree) (new.trees was.tree) → rows_in keys (table_of layout was.tree) new.trees ≡ rows → Sets old new keys layout rows
sets old new keys layout was rows same sound others keyed is =
    let it = changed old new same keys layout was rows keyed is in record {
      schema = same;
      sound = sound;
      stands = it.0;
      rows_are = it.1;
      others = λ more other apart stood. kept old new same more other stood
          (all_at (λ t. t.tree ≢ was.tree → new.trees t.tree ≡ old.trees t.tree) old.schema.tables stood.at (table_of other stood.tree) others stood.has.there
          (trees_apart old.schema was.at stood.at (table_of layout was.tree) (table_of other stood.tree) was.has stood.has apart));
    }
