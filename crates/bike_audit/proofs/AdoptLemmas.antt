-- From an empty database to a desk.
use Rattle.std.proofs.Common.{◌≡◌, inl, inr, ℕ, ◌+◌, pos, true, false, IsTrue, List, [], ◌∷◌, Ok, Some, None, Result, codes, refl, sym, ap, ◌∙◌, subst, arith, Bool}
use Rattle.std.specs.List.{AllZip}
use Rattle.std.specs.declared.cmp.Ordering.{Ordering}
use Rattle.std.specs.FinMap as map
use Rattle.std.specs.FinSet as set
use Rattle.sqlite_value.specs.declared.value.Value.{Value}
use Rattle.sqlite_value.specs.declared.value.Value.TheVariants.{Int, Text}
use Rattle.sqlite_trees.specs.Tree.{Trees, rowid}
use Rattle.sqlite_trees.specs.declared.store.Store.{Ghosts}
use Rattle.sqlite_schema.specs.declared.schema.Table.{Table}
use Rattle.sqlite_schema.specs.declared.schema.Schema.{Schema}
use Rattle.sqlite_schema.specs.Names.{table_named}
use Rattle.sqlite_resolve.specs.Compile.{table_defined_by}
use Rattle.sqlite_catalog.specs.Listing.{IsTableRow, IsSound as IsSchemaOf}
use Rattle.sqlite.specs.Order.{Row, column}
use Rattle.sqlite.specs.Effect.{Database, IsDatabase}
use Rattle.sqlite.specs.State.{HasCleanDisk, Survives, Shows, IsLive}
use Rattle.sqlite.specs.Held.{Held, state}
use Rattle.sqlite.proofs.StateLemmas.{survives_then}
use Rattle.sqlite.proofs.Callers.{survives_begin}
use Rattle.bike_operator.specs.Operator.{Operator, DockKey, no_operator, texts_cmp}
use Rattle.bike_laws.proofs.NoOperatorLemmas.{none_sound}
use Rattle.bike_book.specs.Tables.{Meta}
use Rattle.bike_book.specs.Stored.{none_listed, IsListing}
use Rattle.bike_schema.specs.Tables.{HasNone}
use Rattle.bike_schema.specs.Stands.{IsOf, StandsFor, TreesStandFor, AllLeft}
use Rattle.bike_schema.specs.Creates.{IsFresh, Creates}
use Rattle.bike_schema.specs.declared.fault.StatementFault.{StatementFault}
use Rattle.bike_schema.specs.declared.fault.StatementFault.TheVariants.{NoMemory, StoreFailed}
use Rattle.bike_audit.specs.Adoption.{AreFresh, failure, IsWantFor, LeavesFor, LeavesOrStands}
use Rattle.bike_desk.specs.Desk.{DeskValue, desk_over, IsAt}
use Rattle.bike_desk.proofs.KeepLemmas.{Settles, no_meta, nothing_told, stands_in, settled_keeps}

-- ---- trees list one set of tables

same_tree : (a b : ℕ) (v : Value) → v ≡ Int (pos (a + 1)) → v ≡ Int (pos (b + 1)) → a ≡ b
same_tree a b v p q = let e : a + 1 ≡ b + 1 = cc in omega (arith, e)

same_text : (a b : List ℕ) (v : Value) → v ≡ Text a → v ≡ Text b → a ≡ b
same_text a b v p q = cc

same_ok : {A E : Type 0} (x y : A) (r : Result A E) → r ≡ Ok x → r ≡ Ok y → x ≡ y
same_ok x y r p q = cc

same_table : (row : Row) (a b : Table) → IsTableRow row a → IsTableRow row b → a ≡ b
same_table row a b p q =
    let tree = same_tree a.tree b.tree (rowid row) p.described.id q.described.id in
    let sql = same_text p.sql q.sql (column row 4) p.sql_is q.sql_is in
    let made = same_ok p.defined.0 q.defined.0 (table_defined_by p.sql) p.defined.1 (ap table_defined_by sql ∙ q.defined.1) in
    p.defined.2 ∙ ap (λ (m : Table). record m { tree = a.tree }) made ∙ ap (λ n. let t : Table = record q.defined.0 { tree = n } in t) tree ∙ sym q.defined.2

same_listed : (rows : List Row) (ts us : List Table) → AllZip IsTableRow rows ts → AllZip IsTableRow rows us → ts ≡ us
same_listed [] [] [] p q = refl
same_listed [] [] (b ∷ us) p q = absurd q
same_listed [] (a ∷ ts) us p q = absurd p
same_listed (r ∷ rows) (a ∷ ts) [] p q = absurd q
same_listed (r ∷ rows) [] us p q = absurd p
same_listed (r ∷ rows) (a ∷ ts) (b ∷ us) p q = ap (λ x. x ∷ ts) (same_table r a b p.0 q.0) ∙ ap (λ xs. b ∷ xs) (same_listed rows ts us p.1 q.1)

pub same_tables : (a b : Schema) (trees : Trees) → IsSchemaOf a trees → IsSchemaOf b trees → a.tables ≡ b.tables
same_tables a b trees p q = same_listed _ a.tables b.tables p.lists.listed.tables q.lists.listed.tables

pub same_place : (a b : Schema) (name : List ℕ) (at : ℕ) → a.tables ≡ b.tables → table_named a name ≡ Some at → table_named b name ≡ None → ⊥
same_place a b name at same there none =
    let here : table_named b name ≡ Some at = subst (λ ts. table_named (record { tables = ts; indexes = []; views = [] }) name ≡ Some at) same there in absurd (cc)

nobody_in : (schema : Schema) (db : Database) (s : Operator) → schema.tables ≡ db.schema.tables → HasNone db.schema → IsOf (record { schema = schema; trees = db.trees }) s → s ≡ no_operator
nobody_in schema db s same none (inl h) = h.1
nobody_in schema db s same none (inr h) = let meta = h.has Meta in absurd (same_place schema db.schema (codes "meta") meta.at same meta.has.found (no_meta db.schema none))

-- where there are none of the tables, the trees stand for the empty operator alone
pub nobody_else : (db : Database) (s : Operator) → IsDatabase db → HasNone db.schema → TreesStandFor s db.trees → s ≡ no_operator
nobody_else db s sound none h = nobody_in h.0 db s (same_tables h.0 db.schema db.trees h.1.sound sound) none h.1.is

-- ---- the empty tables

no_dock_row : (key : DockKey) → map.contains_key none_listed.docks key ≡ true → ⊥
no_dock_row key e = let none = map.get-empty {X = Unit {0}} texts_cmp key in absurd cc

no_broken_dock : (key : DockKey) → set.contains no_operator.broken key ≡ true → ⊥
no_broken_dock key e = let none = set.contains-empty texts_cmp key in absurd cc

pub none_listing : IsListing no_operator none_listed
none_listing = record {
  docks = λ key there. absurd (no_dock_row key there);
  marked = λ key broken. absurd (no_broken_dock key broken);
  now_is = refl;
}

pub fresh_stands : (old db : Database) → IsFresh old db → StandsFor db no_operator
fresh_stands old db h = record { sound = h.sound; is = inr (record { has = h.has; sound = none_sound; listed = none_listed; listing = none_listing; tables = h.tables }) }

module _ {S : Type 0} (g : Ghosts S) (old last end : Held S)
    (made : HasCleanDisk (state g last) → Creates (state g (record old { in_transaction = true })) (state g last))
    (calm : Survives (state g (record old { in_transaction = true })) (state g last) (λ _. ⊥)) where
  pub tables_leave : Survives (state g last) (state g end) (λ db. db ≡ (state g last).now.trees) → Survives (state g old) (state g end) (AreFresh (state g old))
  tables_leave commit = survives_then (state g old) (state g last) (state g end) _ _ (AreFresh (state g old)) (λ _ db none. absurd none)
      (λ clean db is. let it = made (omega (arith, commit.clean)) in (it.continues.was_open, (state g last).now, it.fresh, is))
      (survives_begin g old (state g last) _ calm) commit

-- an adopted connection is at the empty operator
pub fresh_at : {S : Type 0} (g : Ghosts S) → Settles g → (old end : Held S) → Shows (state g old) (state g end) (state g end).now (state g end).now false → IsFresh (state g old).now (state g end).now
    → IsAt g (desk_over end) no_operator
fresh_at g settles old end shown fresh = record {
  goes_on = shown.mode;
  keeps = settled_keeps g settles end no_operator shown.is_open shown.mode shown.committed_is (fresh_stands (state g old).now (state g end).now fresh) fresh.has;
  remembers = nothing_told no_operator;
}

module _ {S : Type 0} (g : Ghosts S) (settles : Settles g) (old : Held S) (settled : IsTrue (state g old).is_open → (state g old).now ≡ (state g old).committed) where
  -- an open connection on which nothing is pending can leave nothing but what it shows
  pub in_left : (s : Operator) → TreesStandFor s (state g old).now.trees → IsTrue (state g old).is_open → AllLeft (state g old) (TreesStandFor s)
  in_left s stands live db h = subst (TreesStandFor s) (sym (settles old.store db live h ∙ sym (ap (λ (d : Database). d.trees) (settled live)))) stands

  -- nor, after a fault, what it shows or what a crash might leave
  pub left_of : (end : Held S) (s : Operator) → TreesStandFor s (state g old).now.trees → IsTrue (state g old).is_open → LeavesOrStands g old s end → LeavesFor g s end
  left_of end s stands live crash clean db h = elim (crash clean db h) [
    | inl before ↦ in_left s stands live db before
    | inr after ↦ after
  ]

module _ {S : Type 0} (g : Ghosts S) (old : Held S) where
  -- the tables were made, or what might be left before is left
  pub crash_after : (end : Held S) → IsLive (state g old) → HasNone (state g old).now.schema → Survives (state g old) (state g end) (AreFresh (state g old))
      → (s : Operator) → TreesStandFor s (state g old).now.trees → LeavesOrStands g old s end
  crash_after end sound none crash s stands clean db h = elim (crash.crash clean db h) [
    | inl before ↦ inl before
    | inr made ↦
        inr (subst (λ o. TreesStandFor o db) (sym (nobody_else (state g old).now s (sound made.0).0 none stands))
        (stands_in made.1 db no_operator (fresh_stands (state g old).now made.1 made.2) made.3))
  ]

-- a desk at the empty operator is at whomever the trees stood for that had none of the tables
pub nobody_at : {S : Type 0} (g : Ghosts S) (old : Held S) (d : DeskValue S) (s : Operator) → IsLive (state g old) → IsTrue (state g old).is_open → HasNone (state g old).now.schema
    → TreesStandFor s (state g old).now.trees → IsAt g d no_operator → IsAt g d s
nobody_at g old d s sound live none stands at = subst (IsAt g d) (sym (nobody_else (state g old).now s (sound live).0 none stands)) at

-- a statement that failed tells nothing of the database
pub want_of : (fault : StatementFault) → IsWantFor (failure fault)
want_of NoMemory = tt
want_of StoreFailed = tt
