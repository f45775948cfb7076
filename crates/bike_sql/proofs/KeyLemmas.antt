-- Why no two rows of a table have one key.
use Rattle.std.proofs.Common.{◌≡◌, inl, inr, ℕ, ◌+◌, List, [], ◌∷◌, map, take, slice_get, Bool, true, false, not, ◌&&◌, ◌||◌, ◌==◌, Some, Option, Ordering, Less, Equal, Greater, refl, sym, subst, ◌∙◌}
use Rattle.std.specs.Prelude.{slice_index_or}
use Rattle.std.specs.List.{AllByRecursion, list_all}
use Rattle.std.proofs.lemmas.Bool.{and_parts, or_cases, true≢false, not-true, eqb-true, eq-eqb}
use Rattle.sqlite_value.specs.declared.value.Value.{Value}
use Rattle.sqlite_value.specs.declared.value.Value.TheVariants.{Null, Int, Real, Text, Blob}
use Rattle.sqlite_value.specs.declared.keys.Collation.TheVariants.{Binary}
use Rattle.sqlite_value.specs.Order.{Row, column, value_cmp, row_cmp}
use Rattle.sqlite_value.specs.Keys.{plain, first_key}
use Rattle.sqlite_value.proofs.KeyLemmas.{then_tied, first_key-plain}
use Rattle.sqlite_value.proofs.OrderLemmas.{then-Equal}
use Rattle.sqlite_trees.specs.View.{is_int}
use Rattle.sqlite_trees.specs.Tree.{rowid}
use Rattle.sqlite_sql.specs.Ops.{binary, is_true, is_null, from_truth, test}
use Rattle.sqlite_sql.specs.declared.ops.CompareOp.TheVariants.{Ne}
use Rattle.sqlite_schema.specs.declared.schema.Column.{Column}
use Rattle.sqlite_schema.specs.declared.schema.Table.{Table}
use Rattle.sqlite_schema.specs.declared.schema.Constraint.TheVariants.{Unique, NotNull}
use Rattle.sqlite_schema.specs.Names.{is_key}
use Rattle.sqlite_schema.specs.Rules.{agree, equal, differ, clashes, guards, passes, are_present}
use Rattle.sqlite_rules.specs.Lists.{Has}
use Rattle.sqlite_catalog.specs.Listing.{IsGuarded, automatic}
use Rattle.sqlite.specs.Effect.{Database, IsDatabase}
use Rattle.bike_sql.specs.Layout.{Layout, table_of}
use Rattle.bike_sql.specs.View.{columns_of, AreSpread, AreNumbered, IsKeyed}
use Rattle.bike_sql.proofs.OrderLemmas.{all_has}
use Rattle.bike_sql.proofs.RowListLemmas.{list_all_has, list_any_has, all_at}

-- In each database that has a table of this layout, the first columns are a key as soon as its rowids are numbers and apart.
pub record IsKeyOf (keys : ℕ) (layout : Layout) : Type 0 where
  pub holds : (db : Database) (at tree : ℕ) → slice_get db.schema.tables at ≡ Some (table_of layout tree) → IsDatabase db → AreSpread (db.trees tree) → AreNumbered (db.trees tree)
      → IsKeyed keys (table_of layout tree) (db.trees tree)

-- ---- the key is an INTEGER PRIMARY KEY

pub keyed_by_rowid : (table : Table) (rows : List Row) → ((row : Row) → take 1 (columns_of table row) ≡ rowid row ∷ []) → AreSpread rows → AreNumbered rows → IsKeyed 1 table rows
keyed_by_rowid table rows first spread numbered = record {
  spread = spread;
  numbered = numbered;
  apart = λ a b p q tie. let t : row_cmp (rowid a ∷ []) (rowid b ∷ []) ≡ Equal = rw (first a, first b) at tie in sym (then-Equal _) ∙ t;
}

pub number_key : (layout : Layout) → ((tree : ℕ) (row : Row) → take 1 (columns_of (table_of layout tree) row) ≡ rowid row ∷ []) → IsKeyOf 1 layout
number_key layout first = record { holds = λ db at tree there sound. keyed_by_rowid (table_of layout tree) (db.trees tree) (first tree) }

-- ---- the key is a UNIQUE of columns that are NOT NULL

pub int_whole : (v : Value) → is_int v ≡ true → is_null v ≡ false
int_whole Null h = absurd (true≢false (sym h))
int_whole (Int n) h = refl
int_whole (Real x) h = refl
int_whole (Text t) h = refl
int_whole (Blob b) h = refl

equal_tied : (x y : Value) → is_null x ≡ false → is_null y ≡ false → value_cmp x y ≡ Equal → equal Binary x y ≡ true
unfolding binary
equal_tied x y p q tie = rw (p, q, tie)

tied_same : (x y : Value) → is_null x ≡ false → is_null y ≡ false → differ x y ≡ false → value_cmp x y ≡ Equal
unfolding binary
tied_same x y p q same = by (value_cmp x y) refl (rw (p, q) at same)
  where
    by : (o : Ordering) → value_cmp x y ≡ o → is_true (from_truth (Some (test Ne (value_cmp x y)))) ≡ false → value_cmp x y ≡ Equal
    by Less e s = absurd (let t = rw e at s in true≢false t)
    by Equal e s = e
    by Greater e s = absurd (let t = rw e at s in true≢false t)

-- no column at these places is NULL
abbrev pub AreSolid : List ℕ → Row → Type 0
AreSolid places row = AllByRecursion (λ place. is_null (column row place) ≡ false) places

agree_tied : (places : List ℕ) (a b : Row) → AreSolid places a → AreSolid places b → row_cmp (map (column a) places) (map (column b) places) ≡ Equal → agree plain places a places b ≡ true
agree_tied [] a b p q tie = refl
agree_tied (at ∷ places) a b p q tie =
    let both = then_tied (value_cmp (column a at) (column b at)) _ tie in
    let first : equal (first_key plain).collation (column a at) (column b at) ≡ true = rw first_key-plain (equal_tied (column a at) (column b at) p.0 q.0 both.0) in
    let rest : agree plain places a places b ≡ true = agree_tied places a b p.1 q.1 both.1 in
    rw (first, rest)

pub keyed_by_unique : (keys : ℕ) (table : Table) (rows : List Row) (places : List ℕ) → ((row : Row) → take keys (columns_of table row) ≡ map (column row) places) → AreSpread rows → AreNumbered rows
    → ((r : Row) → Has rows r → AreSolid places r)
    → ((r : Row) → Has rows r → clashes plain places rows r ≡ false) → IsKeyed keys table rows
keyed_by_unique keys table rows places first spread numbered solid unique = record {
  spread = spread;
  numbered = numbered;
  apart = λ a b p q tie.
      let t : row_cmp (map (column a) places) (map (column b) places) ≡ Equal = rw (first a, first b) at tie in
      let same : agree plain places a places b ≡ true = agree_tied places a b (solid a p) (solid b q) t in
      let one : (agree plain places a places b && differ (rowid a) (rowid b)) ≡ false = list_any_has (λ other. agree plain places other places b && differ (rowid other) (rowid b)) rows a (unique b q) p in
      tied_same (rowid a) (rowid b) (int_whole _ (numbered a p)) (int_whole _ (numbered b q)) (rw same at one);
}

-- the column at this place of a stored row is NOT NULL
abbrev pub is_required : Option ℕ → ℕ → List Column → ℕ → Bool
is_required key at [] place = false
is_required key at (c ∷ cs) place = ((place == at + 1) && (c.not_null && not (is_key key at))) || is_required key (at + 1) cs place

solid_at : (key : Option ℕ) (at : ℕ) (columns : List Column) (row : Row) (place : ℕ) → are_present key at columns row ≡ true → is_required key at columns place ≡ true
    → is_null (column row place) ≡ false
solid_at key at [] row place present required = absurd (true≢false (sym required))
solid_at key at (c ∷ cs) row place present required =
    let now = and_parts (is_key key at || not c.not_null || not (is_null (column row (at + 1)))) (are_present key (at + 1) cs row) present in
    elim (or_cases ((place == at + 1) && (c.not_null && not (is_key key at))) (is_required key (at + 1) cs place) required) [
      | inl here ↦ (
          let it = and_parts (place == at + 1) (c.not_null && not (is_key key at)) here in
          let rules = and_parts c.not_null (not (is_key key at)) it.1 in
          subst (λ p. is_null (column row p) ≡ false) (sym (eqb-true place (at + 1) it.0))
          (filled (is_key key at) c.not_null (is_null (column row (at + 1))) (not-true (is_key key at) rules.1) rules.0 now.0)
          )
      | inr later ↦ solid_at key (at + 1) cs row place now.1 later
    ]
  where
    filled : (is_key_column not_null null : Bool) → is_key_column ≡ false → not_null ≡ true → (is_key_column || not not_null || not null) ≡ true → null ≡ false
    filled is_key_column not_null null p q h = not-true null (rw (p, q) at h)

solid_all : (key : Option ℕ) (columns : List Column) (places : List ℕ) (row : Row) → list_all (is_required key 0 columns) places ≡ true → are_present key 0 columns row ≡ true → AreSolid places row
solid_all key columns [] row required present = tt
solid_all key columns (place ∷ places) row required present =
    let both = and_parts (is_required key 0 columns place) (list_all (is_required key 0 columns) places) required in
    (solid_at key 0 columns row place present both.0, solid_all key columns places row both.1 present)

pub columns_key : (keys : ℕ) (layout : Layout) (which : ℕ) (places : List ℕ) → slice_get layout.uniques which ≡ Some places → slice_index_or layout.orders which plain ≡ plain
    → list_all (is_required layout.key 0 layout.columns) places ≡ true
    → ((tree : ℕ) (row : Row) → take keys (columns_of (table_of layout tree) row) ≡ map (column row) places) → IsKeyOf keys layout
columns_key keys layout which places is_unique in_plain_order required first = record {
  holds = λ db at tree there sound spread numbered.
      let table = table_of layout tree in
      let rows = db.trees tree in
      let tables = db.schema.tables in
      let guard = all_at (IsGuarded db.schema.indexes) tables at table sound.lists.guarded there which places is_unique in
      let unique = all_at (λ t. AllByRecursion (λ row. passes Unique db.schema db.trees t row ≡ true) (db.trees t.tree)) tables at table (sound.obeys.rules Unique) there in
      let present = all_at (λ t. AllByRecursion (λ row. passes NotNull db.schema db.trees t row ≡ true) (db.trees t.tree)) tables at table (sound.obeys.rules NotNull) there in
      keyed_by_unique keys table rows places (first tree) spread numbered (λ r h. solid_all layout.key layout.columns places r required
      (all_has (λ row. passes NotNull db.schema db.trees table row ≡ true) rows r present h))
      (λ r h.
      let one = list_all_has (λ i. not (guards i table && clashes i.order i.columns rows r)) db.schema.indexes (automatic table which places guard.0) (all_has (λ row. passes Unique db.schema db.trees table row ≡ true) rows r unique h) guard.1 in
      let free : not (guards (automatic table which places guard.0) table && clashes plain places rows r) ≡ true = subst (λ o. not (guards (automatic table which places guard.0) table && clashes o places rows r) ≡ true) in_plain_order one in
      not-true (clashes plain places rows r) (rw (eq-eqb tree tree refl) at free));
}

-- ---- where the key's columns stand in a stored row

pub record IsKeyAt (keys : ℕ) (layout : Layout) (places : List ℕ) : Type 0 where
  pub first : (row : Row) → take keys (columns_of (table_of layout 0) row) ≡ map (column row) places

-- the same of a key that the table's own rules keep
pub record IsUniqueAt (keys : ℕ) (layout : Layout) (places : List ℕ) : Type 0 where
  pub at : IsKeyAt keys layout places
  pub key : IsKeyOf keys layout

pub number_unique_at : (layout : Layout) → ((row : Row) → take 1 (columns_of (table_of layout 0) row) ≡ rowid row ∷ []) → IsUniqueAt 1 layout (0 ∷ [])
number_unique_at layout first = record { at = record { first = first }; key = number_key layout (λ tree. first) }

pub columns_unique_at : (keys : ℕ) (layout : Layout) (which : ℕ) (places : List ℕ) → slice_get layout.uniques which ≡ Some places → slice_index_or layout.orders which plain ≡ plain
    → list_all (is_required layout.key 0 layout.columns) places ≡ true
    → ((row : Row) → take keys (columns_of (table_of layout 0) row) ≡ map (column row) places) → IsUniqueAt keys layout places
columns_unique_at keys layout which places is_unique in_plain_order required first =
    record { at = record { first = first }; key = columns_key keys layout which places is_unique in_plain_order required (λ tree. first) }
