-- What a table that was made is, and what it leaves of those that stood.
use Rattle.std.proofs.Common.{◌≡◌, ◌≢◌, ◌==◌, if◌then◌else◌, append_assoc, map, zero, suc, ℕ, ◌<◌, Bool, true, false, List, [], ◌∷◌, ◌++◌, length, find, slice_get, Option, Some, unwrap_or, refl, sym}
use Rattle.std.proofs.Common.{ap, subst, ◌∙◌, arith}
use Rattle.std.specs.List.{AllByRecursion, AllZip, list_any}
use Rattle.std.specs.Prelude.{option_map}
use Rattle.std.proofs.Math.Path.{fun_ext}
use Rattle.std.proofs.lemmas.Bool.{ne_eqb, or_parts, or_from}
use Rattle.sqlite_value.specs.Order.{Row}
use Rattle.sqlite_schema.specs.declared.schema.Table.{Table}
use Rattle.sqlite_schema.specs.declared.schema.Reference.{Reference}
use Rattle.sqlite_schema.specs.Names.{same_name}
use Rattle.sqlite_catalog.specs.Change.{created, next_tree}
use Rattle.sqlite_catalog.specs.Listing.{IsTableRow}
use Rattle.sqlite_catalog.proofs.StepLemmas.{table_below}
use Rattle.sqlite_rules.proofs.ListLemmas.{all_from}
use Rattle.sqlite.specs.Effect.{Database}
use Rattle.bike_sql.proofs.ListLemmas.{get_first, get_last}
use Rattle.bike_sql.proofs.GrowLemmas.{still_has, created_has, created_keeps}
use Rattle.bike_sql.specs.Layout.{Layout, table_of}
use Rattle.bike_sql.specs.Keyed.{in_order}
use Rattle.bike_sql.specs.View.{IsKeyed, by_key, columns_of}
use Rattle.bike_sql.specs.Stands.{refers_to, is_referred_to, rows_of, Stands, Stays}
use Rattle.bike_sql.proofs.FrameLemmas.{rows_of_is}
use Rattle.bike_sql.proofs.RowListLemmas.{all_at}
use Rattle.bike_schema.specs.Tables.{names_parent, is_parent}
use Rattle.bike_schema.proofs.MakeLemmas.{Adds, Unreferring, all_both, all_weaker, get_has}

-- every table that stands there stays
abbrev pub AllStay : Database → Database → Type 0
AllStay old new = (keys : ℕ) (layout : Layout) → Stands old keys layout → Stays old new keys layout

-- ---- foreign keys

-- the table that was found, if any, is in this tree
abbrev is_in : ℕ → Option Table → Bool
is_in tree found = unwrap_or (option_map (λ (t : Table). t.tree == tree) found) false

-- none that passes the test is in this tree
find_other : (test : Table → Bool) (tree : ℕ) (ts : List Table) → AllByRecursion (λ t. test t ≡ true → t.tree ≢ tree) ts → is_in tree (find test ts) ≡ false
find_other test tree [] none = refl
find_other test tree (t ∷ ts) none = by (test t) refl (find_other test tree ts none.1)
  where
    by : (b : Bool) → test t ≡ b → is_in tree (find test ts) ≡ false → is_in tree (if b then Some t else find test ts) ≡ false
    by true e rest = ne_eqb t.tree tree (none.0 e)
    by false e rest = rest

-- tables in other trees, behind the others, change nothing
find_same : (test : Table → Bool) (tree : ℕ) (ts more : List Table) → AllByRecursion (λ t. t.tree ≢ tree) more → is_in tree (find test (ts ++ more)) ≡ is_in tree (find test ts)
find_same test tree [] more other = find_other test tree more (all_weaker (λ (t : Table). t.tree ≢ tree) (λ t. test t ≡ true → t.tree ≢ tree) (λ t ne _. ne) more other)
find_same test tree (t ∷ ts) more other = by (test t) (find_same test tree ts more other)
  where
    by : (b : Bool) → is_in tree (find test (ts ++ more)) ≡ is_in tree (find test ts) → is_in tree (if b then Some t else find test (ts ++ more)) ≡ is_in tree (if b then Some t else find test ts)
    by true rest = refl
    by false rest = rest

-- a test that no table with a foreign key passes
any_unreferring : (test : Reference → Bool) (ts : List Table) → Unreferring ts → list_any (λ t. list_any test t.references) ts ≡ false
any_unreferring test [] none = refl
any_unreferring test (t ∷ ts) none = or_from (list_any test t.references) _ (ap (list_any test) none.0) (any_unreferring test ts none.1)

any_both : (p : Table → Bool) (ts more : List Table) → list_any p ts ≡ false → list_any p more ≡ false → list_any p (ts ++ more) ≡ false
any_both p [] more a b = b
any_both p (t ∷ ts) more a b = let parts = or_parts (p t) (list_any p ts) a in or_from (p t) (list_any p (ts ++ more)) parts.0 (any_both p ts more parts.1 b)

any_of : (p q : Reference → Bool) → ((r : Reference) → p r ≡ false → q r ≡ false) → (refs : List Reference) → list_any p refs ≡ false → list_any q refs ≡ false
any_of p q f [] h = refl
any_of p q f (r ∷ refs) h = let parts = or_parts (p r) (list_any p refs) h in or_from (q r) (list_any q refs) (f r parts.0) (any_of p q f refs parts.1)

any_in : (p q : Reference → Bool) → ((r : Reference) → p r ≡ false → q r ≡ false) → (ts : List Table) → list_any (λ t. list_any p t.references) ts ≡ false
    → list_any (λ t. list_any q t.references) ts ≡ false
any_in p q f [] h = refl
any_in p q f (t ∷ ts) h =
    let parts = or_parts (list_any p t.references) (list_any (λ u. list_any p u.references) ts) h in or_from (list_any q t.references) _ (any_of p q f t.references parts.0) (any_in p q f ts parts.1)

-- ---- places and trees

low_tree : (objects : List Row) (tables : List Table) → AllZip IsTableRow objects tables → (k : ℕ) (t : Table) → slice_get tables k ≡ Some t → t.tree < 65536
low_tree [] [] listed k t is = absurd (cc)
low_tree [] (x ∷ tables) listed k t is = absurd listed
low_tree (o ∷ objects) [] listed k t is = absurd listed
low_tree (o ∷ objects) (x ∷ tables) listed zero t is = subst (λ (u : Table). u.tree < 65536) (ap (λ (o : Option Table). unwrap_or o x) is) listed.0.described.low
low_tree (o ∷ objects) (x ∷ tables) listed (suc k) t is = low_tree objects tables listed.1 k t is

module _ (layout : Layout) (old new : Database) (it : Adds layout old new) where
  abbrev ours : Table
  ours = table_of layout (next_tree old.schema)

  abbrev grown_by : List Table
  grown_by = ours ∷ it.more

  tables_are : new.schema.tables ≡ old.schema.tables ++ grown_by
  tables_are = it.grown ∙ rw append_assoc

  -- all tables that came have later trees, and no foreign keys
  later : (tree : ℕ) → tree < next_tree old.schema → AllByRecursion (λ t. t.tree ≢ tree) grown_by
  later tree below = ((λ e. omega (arith, below, e)), all_weaker (λ (t : Table). next_tree old.schema < t.tree) (λ t. t.tree ≢ tree) (λ t above e. omega (arith, below, above, e)) it.more it.above)

  came_plain : Unreferring grown_by
  came_plain = (refl, it.plain)

  below : (at : ℕ) (t : Table) → slice_get old.schema.tables at ≡ Some t → t.tree < next_tree old.schema
  below at t there = table_below old.schema t (get_has old.schema.tables at t there)

  -- what no foreign key named, none names
  pub still_unnamed : (name : List ℕ) → is_parent old.schema name ≡ false → is_parent new.schema name ≡ false
  still_unnamed name none =
      ap (list_any (names_parent name)) tables_are
      ∙ any_both (names_parent name) old.schema.tables grown_by none (any_unreferring (λ ref. same_name name ref.parent) grown_by came_plain)

  -- no foreign key refers to the table that was made
  ours_unreferred : is_parent old.schema layout.name ≡ false → is_referred_to new.schema ours.tree ≡ false
  ours_unreferred unnamed =
      let none : (ref : Reference) → same_name layout.name ref.parent ≡ false → refers_to (old.schema.tables ++ grown_by) ours.tree ref ≡ false =
      λ ref other. find_other (λ t. same_name t.name ref.parent) ours.tree (old.schema.tables ++ grown_by)
      (all_both (λ (t : Table). same_name t.name ref.parent ≡ true → t.tree ≢ ours.tree) old.schema.tables grown_by
      (all_from (λ (t : Table). same_name t.name ref.parent ≡ true → t.tree ≢ ours.tree) old.schema.tables (λ t has _ e. omega (arith, table_below old.schema t has, e))) (
        (λ same. absurd (let both = sym other ∙ same in cc)),
        all_weaker (λ (t : Table). next_tree old.schema < t.tree) (λ t. same_name t.name ref.parent ≡ true → t.tree ≢ ours.tree)
            (λ t above _ e. omega (arith, above, e)) it.more it.above,
      )) in
      ap (λ ts. list_any (λ t. list_any (refers_to ts ours.tree) t.references) ts) tables_are
      ∙ any_both (λ t. list_any (refers_to (old.schema.tables ++ grown_by) ours.tree) t.references) old.schema.tables grown_by
      (any_in (λ ref. same_name layout.name ref.parent) (refers_to (old.schema.tables ++ grown_by) ours.tree) none old.schema.tables unnamed)
      (any_unreferring (refers_to (old.schema.tables ++ grown_by) ours.tree) grown_by came_plain)

  -- nor to one to which none referred
  still_unreferred : (tree : ℕ) → tree < next_tree old.schema → is_referred_to old.schema tree ≡ false → is_referred_to new.schema tree ≡ false
  still_unreferred tree low none =
      let same : refers_to (old.schema.tables ++ grown_by) tree ≡ refers_to old.schema.tables tree =
      fun_ext (λ ref. find_same (λ t. same_name t.name ref.parent) tree old.schema.tables grown_by (later tree low)) in
      ap (λ ts. list_any (λ t. list_any (refers_to ts tree) t.references) ts) tables_are
      ∙ any_both (λ t. list_any (refers_to (old.schema.tables ++ grown_by) tree) t.references) old.schema.tables grown_by
      (ap (λ p. list_any (λ t. list_any p t.references) old.schema.tables) same ∙ none)
      (any_unreferring (refers_to (old.schema.tables ++ grown_by) tree) grown_by came_plain)

  -- ---- what stands

  pub made_stands : (keys : ℕ) → is_parent old.schema layout.name ≡ false → Stands new keys layout
  made_stands keys unnamed =
      let there : slice_get new.schema.tables (length old.schema.tables) ≡ Some ours =
      ap (λ ts. slice_get ts (length old.schema.tables)) it.grown ∙ get_first (old.schema.tables ++ ours ∷ []) it.more (length old.schema.tables) ours (get_last old.schema.tables ours) in
      let low : next_tree old.schema < 65536 = low_tree _ new.schema.tables it.sound.lists.listed.tables (length old.schema.tables) ours there in
      record {
        at = length old.schema.tables;
        tree = next_tree old.schema;
        has = still_has (created old.schema (table_of layout 0)) new.schema it.more (length old.schema.tables) ours it.grown (created_has old.schema (table_of layout 0) it.free (omega (arith, low)));
        keyed = subst (IsKeyed keys ours) (sym it.empty) (record { spread = tt; numbered = λ r h. absurd h; apart = λ a b h. absurd h });
        unreferred = ours_unreferred unnamed;
      }

  pub made_empty : (keys : ℕ) (unnamed : is_parent old.schema layout.name ≡ false) → rows_of keys layout.name new ≡ []
  unfolding made_stands
  made_empty keys unnamed = rows_of_is new keys layout (made_stands keys unnamed) ∙ ap (λ rows. in_order (by_key keys) (map (columns_of ours) rows)) it.empty

  pub all_stay : AllStay old new
  all_stay keys other was =
      let table = table_of other was.tree in
      let same : new.trees was.tree ≡ old.trees was.tree = all_at (λ (t : Table). new.trees t.tree ≡ old.trees t.tree) old.schema.tables was.at table it.others was.has.there in
      let stands : Stands new keys other = record {
        at = was.at;
        tree = was.tree;
        has = still_has (created old.schema (table_of layout 0)) new.schema it.more was.at table it.grown (created_keeps old.schema (table_of layout 0) was.at table was.has);
        keyed = subst (IsKeyed keys table) (sym same) was.keyed;
        unreferred = still_unreferred was.tree (below was.at table was.has.there) was.unreferred;
      } in
      record { stands = stands; rows = rows_of_is new keys other stands ∙ ap (λ rows. in_order (by_key keys) (map (columns_of table) rows)) same ∙ sym (rows_of_is old keys other was) }
