-- For which trees stand, the database stands whose trees they are; and what it is found to be.
use Rattle.std.proofs.Common.{◌≡◌, inl, inr, ℕ, pos, List, [], ◌∷◌, Option, Some, None, codes, refl, sym, ap, subst, ◌∙◌}
use Rattle.sqlite_value.specs.declared.value.Value.TheVariants.{Int}
use Rattle.sqlite_value.specs.Order.{Row}
use Rattle.sqlite_trees.specs.Tree.{Trees}
use Rattle.sqlite_schema.specs.declared.schema.Schema.{Schema}
use Rattle.sqlite_schema.specs.declared.schema.Table.{Table}
use Rattle.sqlite.specs.Effect.{Database, IsDatabase}
use Rattle.bike_sql.specs.Layout.{Layout}
use Rattle.bike_sql.specs.Stands.{rows_of, Stands}
use Rattle.bike_sql.specs.View.{row_with}
use Rattle.bike_operator.specs.Operator.{Operator, no_operator}
use Rattle.bike_book.specs.declared.version.TheConstants.{NEWEST}
use Rattle.bike_book.specs.Tables.{Tables, Meta, keys_of}
use Rattle.bike_book.proofs.LedgerRows.{meta_found}
use Rattle.bike_schema.specs.Layouts.{layout_of, name_of}
use Rattle.bike_schema.specs.Stands.{Stores, IsOf}
use Rattle.bike_schema.specs.Tables.{tables_of, HasTables, HasNone}
use Rattle.bike_schema.proofs.MakesLemmas.{rows_of_table}
use Rattle.bike_recognition.specs.Recognition.{TableStands, meta_version, version_in}
use Rattle.bike_recognition.specs.declared.version.MetaVersion.{MetaVersion}
use Rattle.bike_recognition.specs.declared.version.MetaVersion.TheVariants.{Version}
use Rattle.bike_recognition.specs.declared.earlier_versions.earlier.Earlier.{Earlier}
use Rattle.bike_recognition.specs.declared.earlier_versions.earlier.Earlier.TheVariants.{First, Second, Third}
use Rattle.bike_recognition.specs.declared.earlier_versions.found.Found.{Found}
use Rattle.bike_recognition.specs.declared.earlier_versions.found.Found.TheVariants as found
use Rattle.bike_recognition.specs.Wanted.{Lies}
use Rattle.bike_recognition.specs.EarlierVersions.Kept.{kept_layout, KeptLies}
use Rattle.bike_recognition.specs.EarlierVersions.Counts.{counts_layout}
use Rattle.bike_recognition.specs.EarlierVersions.Earlier.{layout_at, tables_at, AreNewerFree, IsAt}
use Rattle.bike_recognition.specs.EarlierVersions.Found.{IsNewest, IsOfEarlier, IsByVersion, IsFoundAs}
use Rattle.bike_recognition.specs.EarlierVersions.Stores.{StoresAt, StandsForAt, TreesStandForAt}
use Rattle.bike_desk.proofs.KeepLemmas.{no_meta}
use Rattle.bike_audit.proofs.AdoptLemmas.{same_tables}
use Rattle.bike_migrate.proofs.VersionLemmas.{old_found}

-- ---- what a database has is told by its tables and trees

abbrev bare : List Table → Trees → Database
bare ts trees = record { schema = record { tables = ts; indexes = []; views = [] }; trees = trees }

abbrev with_schema : Schema → Trees → Database
with_schema schema trees = record { schema = schema; trees = trees }

module _ (a b : Schema) (trees : Trees) (same : a.tables ≡ b.tables) where
  to_bare : (s : Schema) (keys : ℕ) (layout : Layout) → Stands (with_schema s trees) keys layout → Stands (bare s.tables trees) keys layout
  to_bare s keys layout it =
      record { at = it.at; tree = it.tree; has = record { found = it.has.found; there = it.has.there; by_tree = it.has.by_tree; stored = it.has.stored }; keyed = it.keyed; unreferred = it.unreferred }

  of_bare : (s : Schema) (keys : ℕ) (layout : Layout) → Stands (bare s.tables trees) keys layout → Stands (with_schema s trees) keys layout
  of_bare s keys layout it =
      record { at = it.at; tree = it.tree; has = record { found = it.has.found; there = it.has.there; by_tree = it.has.by_tree; stored = it.has.stored }; keyed = it.keyed; unreferred = it.unreferred }

  across : (keys : ℕ) (layout : Layout) → Stands (with_schema a trees) keys layout → Stands (with_schema b trees) keys layout
  across keys layout it = of_bare b keys layout (subst (λ ts. Stands (bare ts trees) keys layout) same (to_bare a keys layout it))

  lies_bare : (s : Schema) (layout : Layout) → Lies (with_schema s trees) layout → Lies (bare s.tables trees) layout
  lies_bare s layout it =
      record { at = it.at; tree = it.tree; has = record { found = it.has.found; there = it.has.there; by_tree = it.has.by_tree; stored = it.has.stored }; unreferred = it.unreferred; apart = it.apart }

  bare_lies : (s : Schema) (layout : Layout) → Lies (bare s.tables trees) layout → Lies (with_schema s trees) layout
  bare_lies s layout it =
      record { at = it.at; tree = it.tree; has = record { found = it.has.found; there = it.has.there; by_tree = it.has.by_tree; stored = it.has.stored }; unreferred = it.unreferred; apart = it.apart }

  kept_across : KeptLies (with_schema a trees) → KeptLies (with_schema b trees)
  kept_across it = record {
    keyed = it.keyed;
    lies = bare_lies b (kept_layout it.keyed) (subst (λ ts. Lies (bare ts trees) (kept_layout it.keyed)) same (lies_bare a (kept_layout it.keyed) it.lies));
  }

  none_across : HasNone a → HasNone b
  none_across none = subst (λ ts. HasNone (record { tables = ts; indexes = []; views = [] })) same none

  stores_across : (s : Operator) → Stores (with_schema a trees) s → Stores (with_schema b trees) s
  stores_across s it = record {
    has = λ t. across (keys_of t) (layout_of t) (it.has t);
    sound = it.sound;
    listed = it.listed;
    listing = it.listing;
    tables = ap (λ ts. tables_of (bare ts trees)) (sym same) ∙ it.tables;
  }

  of_across : (s : Operator) → IsOf (with_schema a trees) s → IsOf (with_schema b trees) s
  of_across s (inl it) = inl (none_across it.0, it.1)
  of_across s (inr it) = inr (stores_across s it)

  free_across : (e : Earlier) → AreNewerFree e a → AreNewerFree e b
  free_across e free = subst (λ ts. AreNewerFree e (record { tables = ts; indexes = []; views = [] })) same free

  tables_across : (e : Earlier) → tables_at e (with_schema b trees) ≡ tables_at e (with_schema a trees)
  tables_across e = ap (λ ts. tables_at e (bare ts trees)) (sym same)

  stores_at_across : (e : Earlier) (s : Operator) → StoresAt e (with_schema a trees) s → StoresAt e (with_schema b trees) s
  stores_at_across e s it = record {
    is_at = record {
      has = λ t. record { stands = λ has. across (keys_of t) (layout_at e t) ((it.is_at.has t).stands has) };
      counts = across 2 counts_layout it.is_at.counts;
      kept = kept_across it.is_at.kept;
      free = free_across e it.is_at.free;
    };
    sound = it.sound;
    few_docks = it.few_docks;
    listed = it.listed;
    listing = it.listing;
    cash = it.cash;
    revenue = it.revenue;
    tables = tables_across e ∙ it.tables;
  }

pub stands_here : (db : Database) → IsDatabase db → (v : Option Earlier) (s : Operator) → TreesStandForAt v s db.trees → StandsForAt v db s
stands_here db sound None s (schema, it) = record { sound = sound; is = of_across schema db.schema db.trees (same_tables schema db.schema db.trees it.sound sound) s it.is }
stands_here db sound (Some e) s (schema, it) = (sound, stores_at_across schema db.schema db.trees (same_tables schema db.schema db.trees it.0 sound) e s it.1)

-- ---- what it is found to be

no_table : (name : List ℕ) (db : Database) → HasNone db.schema → TableStands Meta db → ⊥
no_table name db none stands = let a = no_meta db.schema none in let b = stands.has.found in absurd cc

pub found_empty : (db : Database) (f : Found) → HasNone db.schema → IsFoundAs db f → f ≡ found.Empty
found_empty db f none (inl it) = it.1
found_empty db f none (inr it) = absurd (it.0 none)

module _ (db : Database) (f : Found) where
  newest_is : HasTables db → IsNewest db f → f ≡ found.Newest
  newest_is has (inl it) = it.1
  newest_is has (inr it) = absurd (it.0 has)

  earlier_is : (e : Earlier) → IsAt e db → IsOfEarlier db (Some e) f → f ≡ found.Of e
  earlier_is e at (inl it) = it.1
  earlier_is e at (inr it) = absurd (it.0 at)

  -- what its row of `meta` tells decides
  by_told : (m : MetaVersion) → TableStands Meta db → meta_version db ≡ m → IsFoundAs db f → IsByVersion db m f
  by_told m stands told (inl none) = absurd (no_table (codes "meta") db none.0 stands)
  by_told m stands told (inr (some, inl other)) = absurd (other.0 stands)
  by_told m stands told (inr (some, inr (there, is))) = subst (λ v. IsByVersion db v f) told is

  newest_told : (s : Operator) → Stores db s → meta_version db ≡ Version NEWEST
  newest_told s it =
      let rows : rows_of (keys_of Meta) (name_of Meta) db ≡ _ = sym (rows_of_table db Meta) ∙ ap (λ (t : Tables). t.meta) it.tables in
      ap (λ (rs : List Row). version_in (row_with 1 (Int (pos 1) ∷ []) rs)) rows ∙ ap version_in (meta_found NEWEST it.listed.since s.past.cash s.past.revenue)

  found_newest : (s : Operator) → Stores db s → IsFoundAs db f → f ≡ found.Newest
  found_newest s it is = newest_is it.has (by_told (Version NEWEST) (it.has Meta) (newest_told s it) is)

  first_told : (s : Operator) → StoresAt First db s → meta_version db ≡ Version 1
  first_told s it =
      ap (λ (t : Tables). version_in (row_with 1 (Int (pos 1) ∷ []) t.meta)) it.tables ∙ ap version_in (old_found 1 it.listed.since it.cash it.revenue)

  second_told : (s : Operator) → StoresAt Second db s → meta_version db ≡ Version 2
  second_told s it =
      ap (λ (t : Tables). version_in (row_with 1 (Int (pos 1) ∷ []) t.meta)) it.tables ∙ ap version_in (old_found 2 it.listed.since it.cash it.revenue)

  third_told : (s : Operator) → StoresAt Third db s → meta_version db ≡ Version 3
  third_told s it =
      ap (λ (t : Tables). version_in (row_with 1 (Int (pos 1) ∷ []) t.meta)) it.tables ∙ ap version_in (old_found 3 it.listed.since it.cash it.revenue)

  found_of : (e : Earlier) (s : Operator) → StoresAt e db s → IsFoundAs db f → f ≡ found.Of e
  found_of First s it is = earlier_is First it.is_at (by_told (Version 1) ((it.is_at.has Meta).stands refl) (first_told s it) is)
  found_of Second s it is = earlier_is Second it.is_at (by_told (Version 2) ((it.is_at.has Meta).stands refl) (second_told s it) is)
  found_of Third s it is = earlier_is Third it.is_at (by_told (Version 3) ((it.is_at.has Meta).stands refl) (third_told s it) is)

-- what a database is found to be that stands at a version
pub data IsFoundOf (db : Database) (f : Found) (s : Operator) : Type 0 where
  Nothing : HasNone db.schema → s ≡ no_operator → f ≡ found.Empty → IsFoundOf db f s
  Whole : Stores db s → f ≡ found.Newest → IsFoundOf db f s
  Before : (e : Earlier) → StoresAt e db s → f ≡ found.Of e → IsFoundOf db f s

pub found_there : (db : Database) (f : Found) (v : Option Earlier) (s : Operator) → StandsForAt v db s → IsFoundAs db f → IsFoundOf db f s
found_there db f None s it is = by it.is
  where
    by : IsOf db s → IsFoundOf db f s
    by (inl none) = Nothing none.0 none.1 (found_empty db f none.0 is)
    by (inr stores) = Whole stores (found_newest db f s stores is)
found_there db f (Some e) s it is = Before e it.1 (found_of db f e s it.1 is)
