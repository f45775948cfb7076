-- A table of the schema lies where it is found and its rowids are apart, and stands where its first columns are a key.
use Rattle.std.proofs.Common.{◌≡◌, ℕ, ◌≤◌, List, [], ◌∷◌, map, length, get_or, take, drop, ◌-◌, arith, Bool, true, false, Option, Some, None, Result, Ok, IsTrue, refl, sym, subst, inl, inr}
use Rattle.std.specs.Prelude.{◌↔◌}
use Rattle.std.specs.List.{AllByRecursion, list_all}
use Rattle.std.proofs.lemmas.Bool.{and_parts, true≢false}
use Rattle.std.proofs.lemmas.List.{take_all}
use Rattle.sqlite_value.specs.declared.value.Value.{Value}
use Rattle.sqlite_value.specs.declared.value.Value.TheVariants.{Null, Int, Real, Text, Blob}
use Rattle.sqlite_sql.specs.Ops.{is_null}
use Rattle.sqlite_schema.specs.declared.schema.Column.{Column}
use Rattle.sqlite_schema.specs.declared.schema.Table.{Table}
use Rattle.sqlite_trees.specs.declared.store.Store.{Ghosts}
use Rattle.sqlite.specs.Effect.{Database, IsDatabase}
use Rattle.sqlite.specs.Held.{Held, state}
use Rattle.sqlite.specs.State.{IsLive}
use Rattle.bike_sql.specs.Found.{IsPlainTable, HasNoDefaults}
use Rattle.bike_sql.specs.Calls.{ReadsWhere}
use Rattle.bike_sql.specs.Layout.{Layout, table_of}
use Rattle.bike_sql.specs.Stands.{Stands}
use Rattle.bike_sql.specs.View.{IsKeyed}
use Rattle.bike_sql.proofs.KeyLemmas.{IsKeyOf}
use Rattle.bike_sql.proofs.ChainLaws.{reads_as, reads_both}
use Rattle.bike_book.specs.Tables.{TableName}
use Rattle.bike_schema.specs.Layouts.{layout_of, every_table}
use Rattle.bike_schema.specs.Tables.{HasTables}
use Rattle.bike_schema.proofs.AnswerLemmas.{reads_weaker}
use Rattle.bike_schema.proofs.TableLemmas.{of_every, every_true}
use Rattle.bike_recognition.specs.declared.table.TableName.{TableName as Name}
use Rattle.bike_recognition.specs.declared.table.TableName.TheVariants as name
use Rattle.bike_recognition.specs.Names.{table_named}
use Rattle.bike_recognition.specs.Recognition.{AnyDatabase, ReadsAny, TableStands, IsFirstMissing}
use Rattle.bike_recognition.specs.Rowids.{AsksRowids, AreApart}
use Rattle.bike_recognition.specs.Wanted.{HasWanted, Lies, AsksRowidsOf}
use Rattle.bike_recognition.proofs.LookLemmas.{reads_any, reads_more}

-- ---- each table has columns and keys alone

null_is : (v : Value) → is_null v ≡ true → v ≡ Null
null_is Null h = refl
null_is (Int n) h = absurd (true≢false (sym h))
null_is (Real x) h = absurd (true≢false (sym h))
null_is (Text t) h = absurd (true≢false (sym h))
null_is (Blob b) h = absurd (true≢false (sym h))

abbrev pub has_no_default : Column → Bool
has_no_default column = is_null column.default

no_defaults : (columns : List Column) → list_all has_no_default columns ≡ true → HasNoDefaults columns
no_defaults [] h = tt
no_defaults (column ∷ columns) h = let both = and_parts (has_no_default column) (list_all has_no_default columns) h in (null_is column.default both.0, no_defaults columns both.1)

none_defaulted : list_all (λ t. list_all has_no_default (layout_of t).columns) every_table ≡ true
none_defaulted = refl

pub no_defaults_in : (layout : Layout) → list_all has_no_default layout.columns ≡ true → IsPlainTable (table_of layout 0)
no_defaults_in layout none = record { defaults = no_defaults layout.columns none; checks = refl; references = refl; computed = refl; stamps = refl }

pub plain_table : (t : TableName) → IsPlainTable (table_of (layout_of t) 0)
plain_table t = no_defaults_in (layout_of t) (every_true (λ t. list_all has_no_default (layout_of t).columns) none_defaulted t)

-- ---- one table

abbrev pub lies_of : {keys : ℕ} {layout : Layout} {db : Database} → Stands db keys layout → Lies db layout
lies_of it = record { at = it.at; tree = it.tree; has = it.has; unreferred = it.unreferred; apart = (it.keyed.spread, it.keyed.numbered) }

-- a table that lies stands where its first columns are a key
pub stands_of : {keys : ℕ} {layout : Layout} {db : Database} → (it : Lies db layout) → IsKeyed keys (table_of layout it.tree) (db.trees it.tree) → Stands db keys layout
stands_of it keyed = record { at = it.at; tree = it.tree; has = it.has; keyed = keyed; unreferred = it.unreferred }

-- .. as they are where the engine keeps the key
pub own_stands : {keys : ℕ} {layout : Layout} → IsKeyOf keys layout → (db : Database) → IsDatabase db → Lies db layout → Stands db keys layout
own_stands key db sound it = stands_of it (key.holds db it.at it.tree it.has.there sound it.apart.0 it.apart.1)

module _ (layout : Layout) (plain : IsPlainTable (table_of layout 0)) where
  -- the table as it is looked for
  abbrev wanted : Table
  wanted = table_of layout 0

  -- what is said of a table that lies or doesn't
  abbrev SaysLies : Database → Bool → Type 0
  SaysLies db lies = IsTrue lies ↔ Lies db layout

  -- the schema doesn't have it
  pub lacks : {S E F : Type 0} {g : Ghosts S} {old mid : Held S} → ReadsAny {E = E} g old mid (Ok (tt {0})) (λ db _. AnyDatabase db) → (HasWanted (state g mid).now.schema wanted → ⊥)
      → ReadsAny {E = F} g old mid (Ok false) SaysLies
  lacks first not_there = reads_more first (λ clean opened any. (
    (λ never. absurd (true≢false (sym never))),
    λ it. absurd (not_there (record { plain = plain; tree = it.tree; there = record { at = it.at; has = it.has; unreferred = it.unreferred } })),
  ))

  module _ (text : List ℕ) (asks : AsksRowidsOf layout text) where
    abbrev asks_there : (db : Database) → HasWanted db.schema wanted → AsksRowids db text
    asks_there db it = let asked = asks db.schema it.there.at it.tree it.there.has in record { tree = it.tree; names = asked.0; means = asked.1 }

    module _ {S : Type 0} {g : Ghosts S} {old mid new : Held S} {E F : Type 0} (first : ReadsAny {E = E} g old mid (Ok (tt {0})) (λ db _. AnyDatabase db))
        (there : HasWanted (state g mid).now.schema wanted) where
      -- the schema has it, and its rowids were passed over
      pub passed_over : {result : Result Bool F} → ReadsWhere g (λ db. AsksRowids db text) mid new result (λ db y. IsTrue y → (it : AsksRowids db text) → AreApart (db.trees it.tree))
          → ReadsAny g old new result (λ db y. AnyDatabase db × (IsTrue y → (it : AsksRowids db text) → AreApart (db.trees it.tree)))
      passed_over it = reads_both first (reads_any (asks_there (state g mid).now there) it)

      -- .. and are apart: what follows of a table that lies in an open database
      pub apart_then : {says : Database → Bool → Type 0} {apart : Bool} → apart ≡ true
          → ReadsWhere g (λ db. AsksRowids db text) mid new {E = E} (Ok apart) (λ db y. IsTrue y → (it : AsksRowids db text) → AreApart (db.trees it.tree))
          → (IsTrue (state g mid).is_open → Lies (state g mid).now layout → says (state g mid).now true) → ReadsAny {E = F} g old new (Ok true) says
      apart_then {says = says} same it then = reads_weaker (reads_both first at_mid) (λ db y both. both.1)
        where
          asked : AsksRowids (state g mid).now text
          asked = asks_there (state g mid).now there

          lying : AreApart ((state g mid).now.trees there.tree) → Lies (state g mid).now layout
          lying apart = record { at = there.there.at; tree = there.tree; has = there.there.has; unreferred = there.there.unreferred; apart = apart }

          at_mid : ReadsAny {E = F} g mid new (Ok true) says
          at_mid = record {
            found = λ clean _. then (it.same clean asked).0.was_open (lying (it.found clean asked same asked));
            same = λ clean _. it.same clean asked;
            failed = λ clean _. tt;
            quiet = (reads_any asked it).quiet;
          }

      pub lies : {apart : Bool} → apart ≡ true → ReadsWhere g (λ db. AsksRowids db text) mid new {E = E} (Ok apart) (λ db y. IsTrue y → (it : AsksRowids db text) → AreApart (db.trees it.tree))
          → ReadsAny {E = F} g old new (Ok true) SaysLies
      lies same it = apart_then same it (λ opened lying. ((λ _. lying), λ _. refl))

-- a table whose key the engine keeps
module _ (keys : ℕ) (layout : Layout) (plain : IsPlainTable (table_of layout 0)) (key : IsKeyOf keys layout) (text : List ℕ) (asks : AsksRowidsOf layout text) {S : Type 0} {g : Ghosts S}
    {old mid new : Held S} {E F : Type 0}
    (first : ReadsAny {E = E} g old mid (Ok (tt {0})) (λ db _. AnyDatabase db)) (there : HasWanted (state g mid).now.schema (table_of layout 0)) where
  pub passed : {result : Result Bool F} → ReadsWhere g (λ db. AsksRowids db text) mid new result (λ db y. IsTrue y → (it : AsksRowids db text) → AreApart (db.trees it.tree))
      → ReadsAny g old new result (λ db y. AnyDatabase db × (IsTrue y → (it : AsksRowids db text) → AreApart (db.trees it.tree)))
  passed it = passed_over layout plain text asks first there it

  pub stands : {apart : Bool} → IsLive (state g mid) → apart ≡ true → ReadsWhere g (λ db. AsksRowids db text) mid new {E = E} (Ok apart)
      (λ db y. IsTrue y → (it : AsksRowids db text) → AreApart (db.trees it.tree))
      → ReadsAny {E = F} g old new (Ok true) (λ db stands. IsTrue stands ↔ Stands db keys layout)
  stands live same it = apart_then layout plain text asks first there same it (λ opened lying. ((λ _. own_stands key (state g mid).now (live opened).0 lying), λ _. refl))

-- .. that the schema doesn't have
pub lacks_stand : (keys : ℕ) (layout : Layout) (plain : IsPlainTable (table_of layout 0)) {S : Type 0} {g : Ghosts S} {old mid : Held S} {E F : Type 0}
    → ReadsAny {E = E} g old mid (Ok (tt {0})) (λ db _. AnyDatabase db) → (HasWanted (state g mid).now.schema (table_of layout 0) → ⊥)
    → ReadsAny {E = F} g old mid (Ok false) (λ db stands. IsTrue stands ↔ Stands db keys layout)
lacks_stand keys layout plain {E = E} first not_there = reads_as {E = E} (lacks layout plain first not_there) (λ db says. ((λ never. absurd (true≢false (sym never))), λ stood. says.1 (lies_of stood)))

-- ---- all tables

-- the first of some tables stands, and the rest of the slice was looked at
pub first_on : (db : Database) (tables : List Name) (missing : Option TableName) → 1 ≤ length tables → TableStands (table_named (get_or tables 0 name.Meta)) db
    → IsFirstMissing db (map table_named (take (length tables - 1) (drop 1 tables))) missing → IsFirstMissing db (map table_named tables) missing
first_on db [] missing some first more = absurd (omega (arith, some))
first_on db (t ∷ tables) missing some first more = inr (first, subst (λ ts. IsFirstMissing db (map table_named ts) missing) (take_all (length (t ∷ tables) - 1) tables (omega arith)) more)

pub none_missing : (db : Database) → IsFirstMissing db every_table None → HasTables db
none_missing db none = of_every (λ t. TableStands t db) (all_stand every_table none)
  where
    all_stand : (ts : List TableName) → IsFirstMissing db ts None → AllByRecursion (λ t. TableStands t db) ts
    all_stand [] h = tt
    all_stand (t ∷ ts) (inl lacking) = absurd (let never = lacking.1 in cc)
    all_stand (t ∷ ts) (inr standing) = (standing.0, all_stand ts standing.1)

pub some_missing : (db : Database) (ts : List TableName) (t : TableName) → IsFirstMissing db ts (Some t) → HasTables db → ⊥
some_missing db [] t h has = let never = h in cc
some_missing db (u ∷ ts) t (inl lacking) has = lacking.0 (has u)
some_missing db (u ∷ ts) t (inr standing) has = some_missing db ts t standing.1 has
