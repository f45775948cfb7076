-- When the tables of an earlier version stand.
use Rattle.std.proofs.Common.{◌≡◌, inl, inr, ◌∙◌, List, [], ◌∷◌, Bool, true, false, IsTrue, Some, None, refl, sym, ap, subst}
use Rattle.std.specs.Prelude.{◌↔◌, option_map, unwrap_or}
use Rattle.std.specs.List.{AllByRecursion}
use Rattle.std.proofs.lemmas.Bool.{true≢false, both_ways}
use Rattle.sqlite.specs.Effect.{Database}
use Rattle.bike_sql.specs.Found.{IsPlainTable}
use Rattle.bike_sql.specs.Layout.{table_of}
use Rattle.bike_sql.specs.Stands.{Stands}
use Rattle.bike_sql.proofs.KeyLemmas.{IsKeyOf, number_unique_at, columns_unique_at}
use Rattle.bike_book.specs.Tables.{TableName, keys_of, Stations, Riders}
use Rattle.bike_schema.specs.Layouts.{layout_of, every_table}
use Rattle.bike_schema.proofs.TableLemmas.{of_every}
use Rattle.bike_recognition.specs.Recognition.{TableStands}
use Rattle.bike_recognition.proofs.StandLemmas.{no_defaults_in}
use Rattle.bike_recognition.specs.declared.earlier_versions.earlier.Earlier.{Earlier}
use Rattle.bike_recognition.specs.declared.earlier_versions.earlier.Earlier.TheVariants.{First, Second, Third}
use Rattle.bike_recognition.specs.declared.earlier_versions.old_table.OldTable.{OldTable}
use Rattle.bike_recognition.specs.declared.earlier_versions.old_table.OldTable.TheVariants as old
use Rattle.bike_recognition.specs.EarlierVersions.Counts.{counts_layout, HasCounts}
use Rattle.bike_recognition.specs.EarlierVersions.Riders.{riders_layout}
use Rattle.bike_recognition.specs.EarlierVersions.Earlier.{stations_layout, old_keys, old_layout, has_table, table_before, layout_at, StandsAt, IsWhether, HasTablesAt, IsKeptAlone, IsAt}

-- ---- an old table can be looked for

pub old_plain : (t : OldTable) → IsPlainTable (table_of (old_layout t) 0)
old_plain (old.Stations First) = no_defaults_in (stations_layout First) refl
old_plain (old.Stations Second) = no_defaults_in (stations_layout Second) refl
old_plain (old.Stations Third) = no_defaults_in (stations_layout Third) refl
old_plain old.Counts = no_defaults_in counts_layout refl
old_plain old.Riders = no_defaults_in riders_layout refl

pub old_key : (t : OldTable) → IsKeyOf (old_keys t) (old_layout t)
old_key (old.Stations First) = (columns_unique_at 1 (stations_layout First) 0 (1 ∷ []) refl refl refl (λ row. refl)).key
old_key (old.Stations Second) = (columns_unique_at 1 (stations_layout Second) 0 (1 ∷ []) refl refl refl (λ row. refl)).key
old_key (old.Stations Third) = (columns_unique_at 1 (stations_layout Third) 0 (1 ∷ []) refl refl refl (λ row. refl)).key
old_key old.Counts = (columns_unique_at 2 counts_layout 0 (1 ∷ 2 ∷ []) refl refl refl (λ row. refl)).key
old_key old.Riders = (number_unique_at riders_layout (λ row. refl)).key

-- ---- a table

-- a table that the version doesn't have
pub not_there : (e : Earlier) (db : Database) (t : TableName) → has_table e t ≡ false → StandsAt e db t
not_there e db t lacks = record { stands = λ there. absurd (both_ways (has_table e t) lacks there) }

-- one in place of which the version has another
pub before_stands_at : (e : Earlier) (db : Database) (t : TableName) (o : OldTable) → Some o ≡ table_before e t → (stands : Bool) → (IsTrue stands ↔ Stands db (old_keys o) (old_layout o))
    → IsTrue stands ↔ StandsAt e db t
before_stands_at e db Stations o is stands h =
    let same : o ≡ old.Stations e = cc in
    let told = subst (λ p. IsTrue stands ↔ Stands db (old_keys p) (old_layout p)) same h in
    ((λ yes. record { stands = λ there. told.0 yes }), λ at. told.1 (at.stands refl))
before_stands_at e db Riders o is stands h =
    let same : o ≡ old.Riders = cc in
    let told = subst (λ p. IsTrue stands ↔ Stands db (old_keys p) (old_layout p)) same h in
    ((λ yes. record { stands = λ there. told.0 yes }), λ at. told.1 (at.stands refl))
before_stands_at e db _ o is stands h = absurd (let never = is in cc)

-- every other table is as it is today
other_layout : (e : Earlier) (t : TableName) → None ≡ table_before e t → layout_at e t ≡ layout_of t
other_layout e t is = ap (λ o. unwrap_or (option_map old_layout o) (layout_of t)) (sym is)

pub other_stands_at : (e : Earlier) (db : Database) (t : TableName) → None ≡ table_before e t → has_table e t ≡ true → (stands : Bool) → (IsTrue stands ↔ TableStands t db)
    → IsTrue stands ↔ StandsAt e db t
other_stands_at e db t is has stands h =
    let layout = other_layout e t is in
    ((λ yes. record { stands = λ there. subst (λ l. Stands db (keys_of t) l) (sym layout) (h.0 yes) }), λ at. h.1 (subst (λ l. Stands db (keys_of t) l) layout (at.stands has)))

-- ---- all tables

all_stand : (e : Earlier) (db : Database) (ts : List TableName) (stand : Bool) → IsWhether e db ts stand → IsTrue stand → AllByRecursion (StandsAt e db) ts
all_stand e db [] stand h stands = tt
all_stand e db (t ∷ ts) stand (inl lacking) stands = absurd (both_ways stand lacking.1 stands)
all_stand e db (t ∷ ts) stand (inr standing) stands = (standing.0, all_stand e db ts stand standing.1 stands)

none_lacks : (e : Earlier) (db : Database) → HasTablesAt e db → (ts : List TableName) (stand : Bool) → IsWhether e db ts stand → stand ≡ true
none_lacks e db has [] stand h = h
none_lacks e db has (t ∷ ts) stand (inl lacking) = absurd (lacking.0 (has t))
none_lacks e db has (t ∷ ts) stand (inr standing) = none_lacks e db has ts stand standing.1

-- ---- counts, kept, and the names of later versions

-- the one is so, and the rest as well
pub both_told : {A B : Type 0} (one rest : Bool) → one ≡ true → (IsTrue one ↔ A) → (IsTrue rest ↔ B) → IsTrue rest ↔ (A × B)
both_told one rest is first others = ((λ f. (first.0 is, others.0 f)), λ it. others.1 it.1)

-- .. or it isn't
pub never_told : {A B : Type 0} (one : Bool) → one ≡ false → (IsTrue one ↔ A) → IsTrue false ↔ (A × B)
never_told one isnt first = ((λ never. absurd (true≢false (sym never))), λ it. absurd (true≢false (sym (first.1 it.0) ∙ isnt)))

-- ---- the version

pub is_at_both : (e : Earlier) (db : Database) (stand others : Bool) → IsWhether e db every_table stand → stand ≡ true → (IsTrue others ↔ (HasCounts db × IsKeptAlone e db))
    → IsTrue others ↔ IsAt e db
is_at_both e db stand others all stands rest = (
  (λ f. let it = rest.0 f in record { has = of_every (StandsAt e db) (all_stand e db every_table stand all stands); counts = it.0; kept = it.1.0; free = it.1.1 }),
  λ at. rest.1 (at.counts, (at.kept, at.free)),
)

pub not_at : (e : Earlier) (db : Database) (stand : Bool) → IsWhether e db every_table stand → stand ≡ false → IsTrue false ↔ IsAt e db
not_at e db stand all lacks = ((λ never. absurd (true≢false (sym never))), λ at. absurd (true≢false (sym (none_lacks e db at.has every_table stand all) ∙ lacks)))
