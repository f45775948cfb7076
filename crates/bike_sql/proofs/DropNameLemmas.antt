-- In a database that obeys its schema no two objects have one name, whatever their kinds.
use Rattle.std.proofs.Common.{◌≡◌, ℕ, true, false, List, [], ◌∷◌, ◌++◌, map, filter, refl, sym, ap, subst, ◌∙◌, inl, inr}
use Rattle.std.proofs.lemmas.Bool.{cases_Bool, and_parts, or_parts, not-true}
use Rattle.sqlite_value.specs.Order.{Row, column, bytes}
use Rattle.sqlite_trees.specs.Sound as sound
use Rattle.sqlite_trees.specs.Sound.{Head, head_at, may_follow, are_in_order}
use Rattle.sqlite_schema.specs.declared.schema.Table.{Table}
use Rattle.sqlite_schema.specs.declared.schema.Index.{Index}
use Rattle.sqlite_schema.specs.declared.schema.Schema.{Schema}
use Rattle.sqlite_schema.specs.Names.{same_name}
use Rattle.sqlite_rules.specs.Lists.{Has}
use Rattle.sqlite_rules.proofs.ListLemmas.{has_left, has_right, has_filtered}
use Rattle.sqlite_catalog.specs.Listing.{AreListed, IsTableRow, IsIndexRow, is_table_row, is_view_row, is_index_row}
use Rattle.sqlite_catalog.proofs.SoundLemmas.{names_agree, lowered, list_parts}
use Rattle.sqlite_catalog.proofs.LayoutLemmas.{zipped_left}
use Rattle.bike_sql.proofs.RowListLemmas.{list_any_has}

same_back : (a b : List ℕ) → same_name a b ≡ true → same_name b a ≡ true
same_back a b same = (lowered b a).1 (sym ((lowered a b).0 same))

abbrev name_in : Row → List ℕ
name_in row = bytes (column row 2)

-- no row has the name of one before it
later_apart : (earlier : List Head) (rows : List Row) → are_in_order earlier (map (head_at 1) rows) ≡ true → (e : Head) → Has earlier e → (r : Row) → Has rows r
    → sound.same_name (bytes e.1) (name_in r) ≡ false
unfolding may_follow
later_apart earlier [] up e before r h = absurd h
later_apart earlier (row ∷ rows) up e before r (inl is) =
    let follows = and_parts _ _ (and_parts _ _ up).0 in
    rw is (list_any_has (λ (x : Head). sound.same_name (bytes x.1) (name_in row)) earlier e (not-true _ follows.0) before)
later_apart earlier (row ∷ rows) up e before r (inr h) = later_apart (earlier ++ head_at 1 row ∷ []) rows (and_parts _ _ up).1 e (has_left earlier (head_at 1 row ∷ []) e before) r h

behind_apart : (earlier : List Head) (row : Row) (rows : List Row) → are_in_order earlier (map (head_at 1) (row ∷ rows)) ≡ true → (r : Row) → Has rows r → same_name (name_in row) (name_in r) ≡ false
behind_apart earlier row rows up r h =
    let head = head_at 1 row in
    names_agree (name_in row) (name_in r) ∙ later_apart (earlier ++ head ∷ []) rows (and_parts _ _ up).1 head (has_right earlier (head ∷ []) head (inl refl)) r h

named_once : (earlier : List Head) (rows : List Row) → are_in_order earlier (map (head_at 1) rows) ≡ true → (r s : Row) → Has rows r → Has rows s → same_name (name_in r) (name_in s) ≡ true → r ≡ s
named_once earlier [] up r s h k same = absurd h
named_once earlier (row ∷ rows) up r s (inl h) (inl k) same = h ∙ sym k
named_once earlier (row ∷ rows) up r s (inl h) (inr k) same =
    absurd (let both = sym (behind_apart earlier row rows up s k) ∙ subst (λ (x : Row). same_name (name_in x) (name_in s) ≡ true) h same in cc)
named_once earlier (row ∷ rows) up r s (inr h) (inl k) same =
    absurd (let both = sym (behind_apart earlier row rows up r h) ∙ subst (λ (x : Row). same_name (name_in x) (name_in r) ≡ true) k (same_back (name_in r) (name_in s) same) in cc)
named_once earlier (row ∷ rows) up r s (inr h) (inr k) same = named_once (earlier ++ head_at 1 row ∷ []) rows (and_parts _ _ up).1 r s h k same

-- an index has another name than a table
pub index_apart : (schema : Schema) (objects : List Row) → AreListed objects schema → (t : Table) → Has schema.tables t → (i : Index) → Has schema.indexes i → same_name i.name t.name ≡ false
index_apart schema objects listed t has_t i has_i = elim (cases_Bool (same_name i.name t.name)) [
  | inr other ↦ other
  | inl same ↦
      let r = zipped_left IsTableRow (filter is_table_row objects) schema.tables t listed.tables has_t in
      let s = zipped_left (IsIndexRow schema.tables) (filter is_index_row objects) schema.indexes i listed.indexes has_i in
      let table = has_filtered is_table_row objects r.0 r.1 in
      let index = has_filtered is_index_row objects s.0 s.1 in
      let names : same_name (name_in s.0) (name_in r.0) ≡ true = rw (s.2.described.name_is, r.2.described.name_is) same in
      let one : s.0 ≡ r.0 = named_once [] objects (list_parts objects listed.loads).1 s.0 r.0 index.0 table.0 names in
      let no_table : is_table_row s.0 ≡ false = (or_parts (is_table_row s.0) (is_view_row s.0) (not-true _ index.1)).0 in
      absurd (let both = sym (ap is_table_row one ∙ table.1) ∙ no_table in cc)
]
