-- `kept` stays where other tables are made and filled.
use Rattle.std.proofs.Common.{◌≡◌, ◌≢◌, ◌==◌, if◌then◌else◌, append_assoc, ℕ, ◌<◌, Bool, true, false, List, [], ◌∷◌, ◌++◌, find, slice_get, Option, Some, unwrap_or, refl, sym, ap, subst, ◌∙◌, arith}
use Rattle.std.specs.List.{AllByRecursion, list_any}
use Rattle.std.specs.Prelude.{option_map}
use Rattle.std.proofs.Math.Path.{fun_ext}
use Rattle.std.proofs.lemmas.Bool.{ne_eqb, or_parts, or_from}
use Rattle.sqlite_schema.specs.declared.schema.Table.{Table}
use Rattle.sqlite_schema.specs.declared.schema.Reference.{Reference}
use Rattle.sqlite_schema.specs.Names.{same_name}
use Rattle.sqlite_catalog.specs.Change.{next_tree}
use Rattle.sqlite_catalog.proofs.StepLemmas.{table_below}
use Rattle.sqlite.specs.Effect.{Database}
use Rattle.bike_sql.specs.Has.{HasTable}
use Rattle.bike_sql.specs.Layout.{Layout, table_of}
use Rattle.bike_sql.specs.Stands.{refers_to, is_referred_to, Indexes}
use Rattle.bike_schema.specs.Makes.{Makes}
use Rattle.bike_schema.proofs.MakeLemmas.{Adds, Unreferring, all_weaker, get_has}
use Rattle.bike_book.specs.Writes.{RowWrite}
use Rattle.bike_recognition.specs.Rowids.{AreApart}
use Rattle.bike_recognition.specs.Wanted.{Lies}
use Rattle.bike_recognition.specs.EarlierVersions.Kept.{kept_name, kept_layout}
use Rattle.bike_migrate.specs.Raised.{KeptStays}
use Rattle.bike_migrate.specs.Spared.{is_among, Spares}

-- ---- a table that is spared lies still

-- no foreign key refers to a table to which none referred
abbrev pub StayUnreferred : Database → Database → Type 0
StayUnreferred a b = (at : ℕ) (t : Table) → HasTable a.schema at t → is_referred_to a.schema t.tree ≡ false → is_referred_to b.schema t.tree ≡ false

kept_spared : (names : List (List ℕ)) (a b : Database) → Spares names a b → is_among names kept_name ≡ false → StayUnreferred a b → KeptStays a b
kept_spared names a b spares other free it = record { keyed = it.keyed; lies = by it.keyed it.lies }
  where
    named : (keyed : Bool) → is_among names (kept_layout keyed).name ≡ false
    named true = other
    named false = other

    by : (keyed : Bool) → Lies a (kept_layout keyed) → Lies b (kept_layout keyed)
    by keyed lies =
        let t = table_of (kept_layout keyed) lies.tree in
        let spared = spares.tables lies.at t lies.has (named keyed) in
        record { at = spared.at; tree = lies.tree; has = spared.has; unreferred = free lies.at t lies.has lies.unreferred; apart = subst AreApart (sym spared.rows) lies.apart }

pub kept_indexed : (a b : Database) → Indexes a b → Spares [] a b → KeptStays a b
kept_indexed a b made spares = kept_spared [] a b spares refl (λ at t has none. ap (λ ts. list_any (λ (u : Table). list_any (refers_to ts t.tree) u.references) ts) made.tables ∙ none)

pub kept_written : (names : List (List ℕ)) (writes : List RowWrite) (a b : Database) → Makes writes a b → Spares names a b → is_among names kept_name ≡ false → KeptStays a b
kept_written names writes a b makes spares other = kept_spared names a b spares other (λ at t has none. ap (λ s. is_referred_to s t.tree) makes.schema ∙ none)

-- ---- foreign keys

-- the table that was found, if any, is in this tree
abbrev is_in : ℕ → Option Table → Bool
is_in tree found = unwrap_or (option_map (λ (t : Table). t.tree == tree) found) false

-- none that passes the test is in this tree
find_other : (test : Table → Bool) (tree : ℕ) (ts : List Table) → AllByRecursion (λ t. test t ≡ true → t.tree ≢ tree) ts → is_in tree (find test ts) ≡ false
find_other test tree [] none = refl
find_other test tree (t ∷ ts) none = by (test t) refl (find_other test tree ts none.1)
  where
    by : (b : Bool) → test t ≡ b → is_in tree (find test ts) ≡ false → is_in tree (if b then Some t else find test ts) ≡ false
    by true e rest = ne_eqb t.tree tree (none.0 e)
    by false e rest = rest

-- tables in other trees, behind the others, change nothing
find_same : (test : Table → Bool) (tree : ℕ) (ts more : List Table) → AllByRecursion (λ t. t.tree ≢ tree) more → is_in tree (find test (ts ++ more)) ≡ is_in tree (find test ts)
find_same test tree [] more other = find_other test tree more (all_weaker (λ (t : Table). t.tree ≢ tree) (λ t. test t ≡ true → t.tree ≢ tree) (λ t ne _. ne) more other)
find_same test tree (t ∷ ts) more other = by (test t) (find_same test tree ts more other)
  where
    by : (b : Bool) → is_in tree (find test (ts ++ more)) ≡ is_in tree (find test ts) → is_in tree (if b then Some t else find test (ts ++ more)) ≡ is_in tree (if b then Some t else find test ts)
    by true rest = refl
    by false rest = rest

-- a test that no table with a foreign key passes
any_unreferring : (test : Reference → Bool) (ts : List Table) → Unreferring ts → list_any (λ t. list_any test t.references) ts ≡ false
any_unreferring test [] none = refl
any_unreferring test (t ∷ ts) none = or_from (list_any test t.references) _ (ap (list_any test) none.0) (any_unreferring test ts none.1)

any_both : (p : Table → Bool) (ts more : List Table) → list_any p ts ≡ false → list_any p more ≡ false → list_any p (ts ++ more) ≡ false
any_both p [] more a b = b
any_both p (t ∷ ts) more a b = let parts = or_parts (p t) (list_any p ts) a in or_from (p t) (list_any p (ts ++ more)) parts.0 (any_both p ts more parts.1 b)

module _ (layout : Layout) (old new : Database) (it : Adds layout old new) where
  abbrev ours : Table
  ours = table_of layout (next_tree old.schema)

  abbrev grown_by : List Table
  grown_by = ours ∷ it.more

  tables_are : new.schema.tables ≡ old.schema.tables ++ grown_by
  tables_are = it.grown ∙ rw append_assoc

  -- all tables that came have later trees, and no foreign keys
  later : (tree : ℕ) → tree < next_tree old.schema → AllByRecursion (λ t. t.tree ≢ tree) grown_by
  later tree below = ((λ e. omega (arith, below, e)), all_weaker (λ (t : Table). next_tree old.schema < t.tree) (λ t. t.tree ≢ tree) (λ t above e. omega (arith, below, above, e)) it.more it.above)

  came_plain : Unreferring grown_by
  came_plain = (refl, it.plain)

  below : (at : ℕ) (t : Table) → slice_get old.schema.tables at ≡ Some t → t.tree < next_tree old.schema
  below at t there = table_below old.schema t (get_has old.schema.tables at t there)

  -- no foreign key refers to a table to which none referred
  still_unreferred : (tree : ℕ) → tree < next_tree old.schema → is_referred_to old.schema tree ≡ false → is_referred_to new.schema tree ≡ false
  still_unreferred tree low none =
      let same : refers_to (old.schema.tables ++ grown_by) tree ≡ refers_to old.schema.tables tree =
      fun_ext (λ ref. find_same (λ t. same_name t.name ref.parent) tree old.schema.tables grown_by (later tree low)) in
      ap (λ ts. list_any (λ t. list_any (refers_to ts tree) t.references) ts) tables_are
      ∙ any_both (λ t. list_any (refers_to (old.schema.tables ++ grown_by) tree) t.references) old.schema.tables grown_by
      (ap (λ p. list_any (λ t. list_any p t.references) old.schema.tables) same ∙ none)
      (any_unreferring (refers_to (old.schema.tables ++ grown_by) tree) grown_by came_plain)

  pub kept_beside : Spares [] old new → KeptStays old new
  kept_beside spares = kept_spared [] old new spares refl (λ at t has none. still_unreferred t.tree (below at t has.there) none)
