-- What making a table or an index leaves of HasTable and of free names, and what it gives.
use Rattle.std.proofs.Common.{◌≡◌, ◌<◌, ◌^◌, ℕ, ◌==◌, nat_le, ◌≢◌, false, List, [], ◌∷◌, ◌++◌, slice_get, length, find, Some, None, unwrap_or, inl, inr, refl, sym, ap, ◌∙◌, arith, eq-eqb}
use Rattle.std.proofs.lemmas.Bool.{ne_eqb, lt-leb}
use Rattle.std.specs.List.{position_from}
use Rattle.sqlite_rules.specs.Lists.{Has}
use Rattle.sqlite_schema.specs.declared.schema.Schema.{Schema}
use Rattle.sqlite_schema.specs.declared.schema.Table.{Table}
use Rattle.sqlite_schema.specs.declared.schema.Index.{Index}
use Rattle.sqlite_schema.specs.Names.{table_named, same_name}
use Rattle.sqlite_catalog.specs.Change.{next_tree, created, indexed}
use Rattle.sqlite_catalog.proofs.StepLemmas.{same_itself, table_below}
use Rattle.bike_sql.specs.Has.{HasTable, HaveTables}
use Rattle.bike_sql.specs.Makes.{IsFree}
use Rattle.bike_sql.proofs.ListLemmas.{position_first, position_none, position_last, find_first, find_last, get_first, get_last}

-- ---- in general: the list of tables grew at its end

-- a table stands where it stood
pub still_has : (s s' : Schema) (more : List Table) (at : ℕ) (table : Table) → s'.tables ≡ s.tables ++ more → HasTable s at table → HasTable s' at table
still_has s s' more at table grown h = record {
  found = ap (position_from (λ (t : Table). same_name t.name table.name) 0) grown ∙ position_first (λ (t : Table). same_name t.name table.name) 0 s.tables more at h.found;
  there = ap (λ l. slice_get l at) grown ∙ get_first s.tables more at table h.there;
  by_tree = ap (find (λ (t : Table). t.tree == table.tree)) grown ∙ find_first (λ (t : Table). t.tree == table.tree) s.tables more table h.by_tree;
  stored = h.stored;
}

pub still_have : (s s' : Schema) (more : List Table) (ats : List ℕ) (ts : List Table) → s'.tables ≡ s.tables ++ more → HaveTables s ats ts → HaveTables s' ats ts
still_have s s' more [] [] grown h = tt
still_have s s' more (at ∷ ats) (t ∷ ts) grown h = (still_has s s' more at t grown h.0, still_have s s' more ats ts grown h.1)
still_have s s' more [] (t ∷ ts) grown h = elim h [ ]
still_have s s' more (at ∷ ats) [] grown h = elim h [ ]

-- the table that was added stands last, where its name and its tree's number were free
pub now_has : (s s' : Schema) (table : Table) → s'.tables ≡ s.tables ++ table ∷ [] → table_named s table.name ≡ None → find (λ t. t.tree == table.tree) s.tables ≡ None
    → nat_le (2 ^ 31) table.tree ≡ false
    → HasTable s' (length s.tables) table
now_has s s' table grown free fresh stored = record {
  found =
      ap (position_from (λ (t : Table). same_name t.name table.name) 0) grown ∙ position_last (λ (t : Table). same_name t.name table.name) 0 s.tables table free (same_itself table.name)
      ∙ ap Some (omega arith);
  there = ap (λ l. slice_get l (length s.tables)) grown ∙ get_last s.tables table;
  by_tree = ap (find (λ (t : Table). t.tree == table.tree)) grown ∙ find_last (λ (t : Table). t.tree == table.tree) s.tables table fresh (eq-eqb table.tree table.tree refl);
  stored = stored;
}

-- a name stays free that nothing new has
pub still_free : (s s' : Schema) (tables : List Table) (indexes : List Index) (name : List ℕ) → s'.tables ≡ s.tables ++ tables → s'.indexes ≡ s.indexes ++ indexes → s'.views ≡ s.views
    → ((from : ℕ) → position_from (λ t. same_name t.name name) from tables ≡ None) → ((from : ℕ) → position_from (λ i. same_name i.name name) from indexes ≡ None) → IsFree s name → IsFree s' name
still_free s s' tables indexes name grown longer same no_table no_index free = (
  ap (position_from (λ (t : Table). same_name t.name name) 0) grown ∙ position_none (λ (t : Table). same_name t.name name) 0 s.tables tables free.0 no_table,
  ap (position_from (λ v. same_name v.name name) 0) same ∙ free.1,
  ap (position_from (λ (i : Index). same_name i.name name) 0) longer ∙ position_none (λ (i : Index). same_name i.name name) 0 s.indexes indexes free.2 no_index,
)

-- ---- CREATE TABLE

absent : (ts : List Table) (tree : ℕ) → ((t : Table) → Has ts t → t.tree < tree) → find (λ t. t.tree == tree) ts ≡ None
absent [] tree below = refl
absent (t ∷ ts) tree below = let other : (t.tree == tree) ≡ false = ne_eqb t.tree tree (λ e. omega (arith, below t (inl refl), e)) in rw other (absent ts tree (λ u h. below u (inr h)))

-- no table has the tree that the next one gets
pub fresh_tree : (s : Schema) → find (λ t. t.tree == next_tree s) s.tables ≡ None
fresh_tree s = absent s.tables (next_tree s) (table_below s)

-- a table that is made stands last, with the next tree
pub created_has : (s : Schema) (table : Table) → table_named s table.name ≡ None → next_tree s < 2 ^ 31 → HasTable (created s table) (length s.tables) (record table { tree = next_tree s })
created_has s table free low = now_has s (created s table) (record table { tree = next_tree s }) refl free (fresh_tree s) (lt-leb (2 ^ 31) (next_tree s) low)

-- and the others stand where they stood
pub created_keeps : (s : Schema) (table : Table) (at : ℕ) (other : Table) → HasTable s at other → HasTable (created s table) at other
created_keeps s table at other h = still_has s (created s table) (record table { tree = next_tree s } ∷ []) at other refl h

-- ---- CREATE INDEX

-- where the tables are the same, each stands where it stood
pub same_has : (s s' : Schema) (at : ℕ) (table : Table) → s'.tables ≡ s.tables → HasTable s at table → HasTable s' at table
same_has s s' at table same h = record {
  found = ap (position_from (λ (t : Table). same_name t.name table.name) 0) same ∙ h.found;
  there = ap (λ l. slice_get l at) same ∙ h.there;
  by_tree = ap (find (λ (t : Table). t.tree == table.tree)) same ∙ h.by_tree;
  stored = h.stored;
}

-- so it is after an index is made
pub indexed_keeps : (s : Schema) (on : Table) (index : Index) (at : ℕ) (table : Table) → HasTable s at table → HasTable (indexed s on index) at table
indexed_keeps s on index at table h = same_has s (indexed s on index) at table refl h

-- ---- two tables of one schema

-- two tables that differ have different trees
pub trees_apart : (s : Schema) (at bt : ℕ) (t u : Table) → HasTable s at t → HasTable s bt u → t ≢ u → t.tree ≢ u.tree
trees_apart s at bt t u h k differ same = differ (some_is (sym h.by_tree ∙ ap (λ n. find (λ (x : Table). x.tree == n) s.tables) same ∙ k.by_tree))
  where
    some_is : {a b : Table} → Some a ≡ Some b → a ≡ b
    some_is {a} {b} e = ap (λ o. unwrap_or o a) e
