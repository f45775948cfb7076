-- What comes of a database that was audited.
use Rattle.std.proofs.Common.{◌≡◌, ◌≤◌, inl, inr, false, IsTrue, List, [], ◌∷◌, pos, Ok, IfOk, IfErr, MatchResult, refl, sym, ap, ◌∙◌, subst, codes}
use Rattle.sqlite_trees.specs.Tree.{Trees}
use Rattle.sqlite_trees.specs.View.{doubt}
use Rattle.sqlite_trees.specs.declared.store.Store.{Ghosts}
use Rattle.sqlite_schema.specs.declared.schema.Table.{Table}
use Rattle.sqlite.specs.Effect.{Database, IsDatabase}
use Rattle.sqlite.specs.Held.{Held, state}
use Rattle.sqlite.specs.State.{HasCleanDisk, IsUnchanged, IsLive}
use Rattle.bike_sql.specs.Calls.{IsQuiet}
use Rattle.bike_sql.proofs.ChainLaws.{quiet_survives}
use Rattle.sqlite_schema.specs.declared.schema.Schema.{Schema}
use Rattle.bike_sql.specs.View.{row_with}
use Rattle.bike_sql.specs.Stands.{Stands, rows_of}
use Rattle.bike_book.specs.Stored.{tables_for}
use Rattle.bike_book.proofs.FoundKeys.{found_by_key}
use Rattle.sqlite_value.specs.Order.{Row}
use Rattle.bike_schema.specs.Layouts.{layout_of, name_of}
use Rattle.bike_schema.proofs.MakesLemmas.{rows_of_table}
use Rattle.sqlite_value.specs.declared.value.Value.TheVariants.{Int}
use Rattle.bike_operator.specs.Operator.{Operator}
use Rattle.bike_book.specs.Tables.{Tables, Meta, TableName, keys_of}
use Rattle.bike_schema.specs.Makes.{OthersStay}
use Rattle.bike_schema.specs.Tables.{tables_of, HasTables, HasNone}
use Rattle.bike_schema.specs.Stands.{Stores, IsOf, StandsFor, TreesStandFor, AllLeft}
use Rattle.bike_readings.specs.ReadOff.{operator_of}
use Rattle.bike_readings.proofs.RulesLaws.{stored_good, stored_bad}
use Rattle.bike_book.specs.declared.version.TheConstants.{NEWEST}
use Rattle.bike_recognition.specs.Recognition.{AnyDatabase, ReadsAny, meta_version, version_in, told_by, IsByTables, IsAsTold, IsRecognised}
use Rattle.bike_recognition.specs.declared.version.MetaVersion.TheVariants.{Version}
use Rattle.bike_recognition.specs.declared.recognition.Recognition.{Recognition}
use Rattle.bike_recognition.specs.declared.recognition.Recognition.TheVariants as recognition
use Rattle.bike_audit.specs.Audit.{IsAudited, row_name}
use Rattle.bike_audit.specs.declared.finding.Finding.{Finding}
use Rattle.bike_audit.specs.declared.finding.Finding.TheVariants as finding
use Rattle.bike_audit.specs.Adoption.{handed, found_as, IsToldOf, IsWant, LeavesOrStands}
use Rattle.bike_desk.specs.Desk.{desk_over, desk_state, IsAt}
use Rattle.bike_audit.proofs.AdoptLemmas.{same_tables, same_place, in_left}
use Rattle.bike_desk.proofs.KeepLemmas.{Settles, no_meta, never_both, nothing_told, settled_keeps}

-- ---- tables by what trees list

-- the tables that trees hold where these are listed
abbrev tables_listed : List Table → Trees → Tables
tables_listed ts trees = tables_of (record { schema = record { tables = ts; indexes = []; views = [] }; trees = trees })

-- where the tables stand, trees stand for whomever the tables are
pub stores_here : (db : Database) (s : Operator) → IsDatabase db → HasTables db → TreesStandFor s db.trees → Stores db s
stores_here db s sound has (schema, stands) = go stands.is
  where
    same : schema.tables ≡ db.schema.tables
    same = same_tables schema db.schema db.trees stands.sound sound

    go : IsOf (record { schema = schema; trees = db.trees }) s → Stores db s
    go (inl none) = absurd (same_place db.schema schema (codes "meta") (has Meta).at (sym same) (has Meta).has.found (no_meta schema none.0))
    go (inr it) = record { has = has; sound = it.sound; listed = it.listed; listing = it.listing; tables = ap (λ ts. tables_listed ts db.trees) (sym same) ∙ it.tables }

-- a table is found by its name in what trees list
abbrev listed_in : List Table → Trees → Database
listed_in ts trees = record { schema = record { tables = ts; indexes = []; views = [] }; trees = trees }

to_listed : (a : Schema) (trees : Trees) (t : TableName) → Stands (record { schema = a; trees = trees }) (keys_of t) (layout_of t)
    → Stands (listed_in a.tables trees) (keys_of t) (layout_of t)
to_listed a trees t it =
    record { at = it.at; tree = it.tree; has = record { found = it.has.found; there = it.has.there; by_tree = it.has.by_tree; stored = it.has.stored }; keyed = it.keyed; unreferred = it.unreferred }

of_listed : (a : Schema) (trees : Trees) (t : TableName) → Stands (listed_in a.tables trees) (keys_of t) (layout_of t)
    → Stands (record { schema = a; trees = trees }) (keys_of t) (layout_of t)
of_listed a trees t it =
    record { at = it.at; tree = it.tree; has = record { found = it.has.found; there = it.has.there; by_tree = it.has.by_tree; stored = it.has.stored }; keyed = it.keyed; unreferred = it.unreferred }

stands_among : (a b : Schema) (trees : Trees) → a.tables ≡ b.tables → HasTables (record { schema = a; trees = trees }) → HasTables (record { schema = b; trees = trees })
stands_among a b trees same has t = of_listed b trees t (subst (λ ts. Stands (listed_in ts trees) (keys_of t) (layout_of t)) same (to_listed a trees t (has t)))

none_among : (a b : Schema) → a.tables ≡ b.tables → HasNone a → HasNone b
none_among a b same none = subst (λ ts. HasNone (record { tables = ts; indexes = []; views = [] })) same none

-- some table of the product's is there, so the trees stand by tables
stores_among : (db : Database) (s : Operator) → IsDatabase db → ¬ HasNone db.schema → TreesStandFor s db.trees → Stores db s
stores_among db s sound some (schema, stands) = go stands.is
  where
    same : schema.tables ≡ db.schema.tables
    same = same_tables schema db.schema db.trees stands.sound sound

    go : IsOf (record { schema = schema; trees = db.trees }) s → Stores db s
    go (inl none) = absurd (some (none_among schema db.schema same none.0))
    go (inr it) = stores_here db s sound (stands_among schema db.schema db.trees same it.has) (schema, stands)

-- ---- what a database is found to be whose tables stand for an operator

-- row 1 of `meta` has the newest version
version_there : (db : Database) (s : Operator) → Stores db s → meta_version db ≡ Version NEWEST
version_there db s stores =
    let rows : rows_of (keys_of Meta) (name_of Meta) db ≡ (tables_for s stores.listed).meta = sym (rows_of_table db Meta) ∙ ap (λ (t : Tables). t.meta) stores.tables in
    ap (λ (rs : List Row). version_in (row_with 1 (Int (pos 1) ∷ []) rs)) rows ∙ ap version_in (found_by_key s stores.listed stores.sound stores.listing).meta

by_tables_never : (db : Database) (r : Recognition) → HasTables db → IsByTables db r → r ≡ recognition.Ours
by_tables_never db r has (inl it) = it.1
by_tables_never db r has (inr it) = absurd (it.0 has)

-- it is recognised as the product's
pub ours_there : (db : Database) (s : Operator) → Stores db s → (r : Recognition) → IsRecognised db r → r ≡ recognition.Ours
ours_there db s stores r (inl none) = absurd (never_both db none.0 stores.has)
ours_there db s stores r (inr (some, inl other)) = absurd (other.0 (stores.has Meta))
ours_there db s stores r (inr (some, inr (stands, told))) = by_tables_never db r stores.has (subst (λ v. IsAsTold db (told_by v) r) (version_there db s stores) told)

-- and found to be sound
sound_there : (db : Database) (s : Operator) → Stores db s → (f : Finding) → IsAudited db f → f ≡ finding.Sound
sound_there db s stores finding.Empty is = absurd (let e = ours_there db s stores recognition.Empty is in cc)
sound_there db s stores finding.Sound is = refl
sound_there db s stores finding.Foreign is = absurd (let e = ours_there db s stores recognition.Foreign is in cc)
sound_there db s stores (finding.Unsound bad) is = absurd (stored_bad db (row_name bad) is.1.1 s stores)
sound_there db s stores (finding.Older version) is = absurd (let e = ours_there db s stores (recognition.Older version) is in cc)
sound_there db s stores (finding.Newer version) is = absurd (let e = ours_there db s stores (recognition.Newer version) is in cc)

others_same : (db : Database) → OthersStay db db
others_same db keys layout other stands = record { stands = stands; rows = refl }

-- ---- what was found of the database, by a read that left it as it was

module _ {S : Type 0} (g : Ghosts S) (settles : Settles g) (old mid : Held S) (outside : old.in_transaction ≡ false)
    (settled : IsTrue (state g old).is_open → (state g old).now ≡ (state g old).committed) (live : IsLive (state g old)) where
  module _ (calm : IsQuiet g AnyDatabase old mid) where
    -- nothing was committed
    pub stays_left : HasCleanDisk (state g mid) → AllLeft (state g mid) (state g old).may_leave
    stays_left clean db h = elim ((quiet_survives calm tt).crash clean db h) [ inl before ↦ before | inr none ↦ absurd none ]

    pub crash_left : (s : Operator) → LeavesOrStands g old s mid
    crash_left s clean db h = inl (stays_left clean db h)

    pub still_stands : (s : Operator) → TreesStandFor s (state g old).now.trees → IsTrue (state g old).is_open → HasCleanDisk (state g mid) → AllLeft (state g mid) (TreesStandFor s)
    still_stands s stands opened clean db h = in_left g settles old settled s stands opened db (stays_left clean db h)

  module _ (same : IsUnchanged (state g old) (state g mid)) where
    -- a desk over tables that stand for an operator
    pub stands_at : (s : Operator) → Stores (state g old).now s → IsAt g (desk_over mid) s
    stands_at s stores =
        let opened = same.0.was_open in
        record {
          goes_on = same.0.mode ∙ outside;
          keeps = settled_keeps g settles mid s same.0.is_open (same.0.mode ∙ outside) (same.0.committed_is ∙ sym (settled opened) ∙ sym same.0.now_is)
              (subst (λ d. StandsFor d s) (sym same.0.now_is) (record { sound = (live opened).0; is = inr stores })) (subst HasTables (sym same.0.now_is) stores.has);
          remembers = nothing_told s;
        }

  module _ {E : Type 0} (found : Finding) (read : ReadsAny {E = E} g old mid (Ok found) IsAudited) where
    pub found_clean : MatchResult (found_as mid found) (λ d. doubt (state g old).is_clean ≤ doubt (desk_state g d).is_clean) (λ e. doubt (state g old).is_clean ≤ doubt (state g (handed e)).is_clean)
    found_clean = by found
      where
        by : (f : Finding) → MatchResult (found_as mid f) (λ d. doubt (state g old).is_clean ≤ doubt (desk_state g d).is_clean)
            (λ e. doubt (state g old).is_clean ≤ doubt (state g (handed e)).is_clean)
        by finding.Sound = read.quiet.survives.clean
        by finding.Foreign = read.quiet.survives.clean
        by (finding.Unsound bad) = read.quiet.survives.clean
        by (finding.Older version) = read.quiet.survives.clean
        by (finding.Newer version) = read.quiet.survives.clean
        by finding.Empty = read.quiet.survives.clean

    audited : HasCleanDisk (state g mid) → IsAudited (state g old).now found
    audited clean = read.found clean tt

    same_after : HasCleanDisk (state g mid) → IsUnchanged (state g old) (state g mid)
    same_after clean = read.same clean tt

    pub found_only : IfOk (found_as mid found) (λ d. HasCleanDisk (desk_state g d) → (s : Operator) × IsOf (state g old).now s × IsAt g d s)
    found_only = by found audited
      where
        by : (f : Finding) → (HasCleanDisk (state g mid) → IsAudited (state g old).now f)
            → IfOk (found_as mid f) (λ d. HasCleanDisk (desk_state g d) → (s : Operator) × IsOf (state g old).now s × IsAt g d s)
        by finding.Sound is = λ clean.
            let it = is clean in
            let stores = stored_good (state g old).now it.1.0 it.1.1 in
            (operator_of (tables_of (state g old).now), inr stores, stands_at (same_after clean) (operator_of (tables_of (state g old).now)) stores)
        by finding.Foreign is = tt
        by (finding.Unsound bad) is = tt
        by (finding.Older version) is = tt
        by (finding.Newer version) is = tt
        by finding.Empty is = tt

    pub found_others : IfOk (found_as mid found) (λ d. HasCleanDisk (desk_state g d) → OthersStay (state g old).now (desk_state g d).now)
    found_others = by found
      where
        by : (f : Finding) → IfOk (found_as mid f) (λ d. HasCleanDisk (desk_state g d) → OthersStay (state g old).now (desk_state g d).now)
        by finding.Sound = λ clean. subst (OthersStay (state g old).now) (sym (same_after clean).0.now_is) (others_same (state g old).now)
        by finding.Foreign = tt
        by (finding.Unsound bad) = tt
        by (finding.Older version) = tt
        by (finding.Newer version) = tt
        by finding.Empty = tt

    pub found_same : IfOk (found_as mid found) (λ d. HasCleanDisk (desk_state g d) → IsUnchanged (state g old) (desk_state g d))
    found_same = by found
      where
        by : (f : Finding) → IfOk (found_as mid f) (λ d. HasCleanDisk (desk_state g d) → IsUnchanged (state g old) (desk_state g d))
        by finding.Sound = same_after
        by finding.Foreign = tt
        by (finding.Unsound bad) = tt
        by (finding.Older version) = tt
        by (finding.Newer version) = tt
        by finding.Empty = tt

    pub found_at : (s : Operator) → TreesStandFor s (state g old).now.trees → IfOk (found_as mid found) (λ d. HasCleanDisk (desk_state g d) → IsAt g d s)
    found_at s stands = by found audited
      where
        by : (f : Finding) → (HasCleanDisk (state g mid) → IsAudited (state g old).now f) → IfOk (found_as mid f) (λ d. HasCleanDisk (desk_state g d) → IsAt g d s)
        by finding.Sound is = λ clean. let same = same_after clean in stands_at same s (stores_here (state g old).now s (live same.0.was_open).0 (is clean).1.0 stands)
        by finding.Foreign is = tt
        by (finding.Unsound bad) is = tt
        by (finding.Older version) is = tt
        by (finding.Newer version) is = tt
        by finding.Empty is = tt

    pub found_told : IfErr (found_as mid found) (λ e. HasCleanDisk (state g (handed e)) → IsToldOf g old e)
    found_told = by found audited
      where
        by : (f : Finding) → (HasCleanDisk (state g mid) → IsAudited (state g old).now f) → IfErr (found_as mid f) (λ e. HasCleanDisk (state g (handed e)) → IsToldOf g old e)
        by finding.Sound is = tt
        by finding.Foreign is = λ clean. (is clean, same_after clean)
        by (finding.Unsound bad) is = λ clean. (is clean, same_after clean)
        by (finding.Older version) is = λ clean. (is clean, same_after clean)
        by (finding.Newer version) is = λ clean. (is clean, same_after clean)
        by finding.Empty is = λ clean. tt

    -- a database of the product's tables is refused for want of memory or a failed store alone
    pub found_refused : (s : Operator) → TreesStandFor s (state g old).now.trees → ¬ HasNone (state g old).now.schema → IfErr (found_as mid found) (λ e. HasCleanDisk (state g (handed e)) → IsWant e)
    found_refused s stands some = by found audited
      where
        never : (f : Finding) → (HasCleanDisk (state g mid) → IsAudited (state g old).now f) → (f ≡ finding.Sound → ⊥) → HasCleanDisk (state g mid) → ⊥
        never f is other clean = other (sound_there (state g old).now s (stores_among (state g old).now s (live (same_after clean).0.was_open).0 some stands) f (is clean))

        by : (f : Finding) → (HasCleanDisk (state g mid) → IsAudited (state g old).now f) → IfErr (found_as mid f) (λ e. HasCleanDisk (state g (handed e)) → IsWant e)
        by finding.Sound is = tt
        by finding.Foreign is = λ clean. never finding.Foreign is (λ e. absurd cc) clean
        by (finding.Unsound bad) is = λ clean. never (finding.Unsound bad) is (λ e. absurd cc) clean
        by (finding.Older version) is = λ clean. never (finding.Older version) is (λ e. absurd cc) clean
        by (finding.Newer version) is = λ clean. never (finding.Newer version) is (λ e. absurd cc) clean
        by finding.Empty is = λ clean. tt

    -- what is so of the connection is so of the one that a fault hands back
    pub handed_back : (P : Held S → Type 0) → P mid → IfErr (found_as mid found) (λ e. P (handed e))
    handed_back P is = by found
      where
        by : (f : Finding) → IfErr (found_as mid f) (λ e. P (handed e))
        by finding.Sound = tt
        by finding.Foreign = is
        by (finding.Unsound bad) = is
        by (finding.Older version) = is
        by (finding.Newer version) = is
        by finding.Empty = is
