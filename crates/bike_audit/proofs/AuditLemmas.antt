-- From the verdict on each table to that on all.
use Rattle.std.proofs.Common.{◌≡◌, inl, inr, ℕ, suc, ◌-◌, ◌<◌, ◌≤◌, List, [], ◌∷◌, length, take, drop, slice_index_or, Option, Some, None, Result, Ok, refl, sym, ap, ◌∙◌, subst, arith}
use Rattle.std.specs.Prelude.{map, option_map}
use Rattle.std.proofs.lemmas.List.{take_all}
use Rattle.std.proofs.lemmas.Result.{IfOk-weaker}
use Rattle.std.specs.Ordering.{nat_cmp, match_ordering}
use Rattle.std.specs.declared.cmp.Ordering.{Ordering}
use Rattle.std.specs.declared.cmp.Ordering.TheVariants.{Less, Equal, Greater}
use Rattle.std.specs.Cmp.{ranked}
use Rattle.sqlite_value.specs.Order.{Row}
use Rattle.sqlite_trees.specs.declared.store.Store.{Ghosts}
use Rattle.sqlite.specs.Effect.{Database}
use Rattle.sqlite.specs.Held.{Held, state}
use Rattle.sqlite.specs.State.{HasCleanDisk, IsLive}
use Rattle.sqlite.proofs.StateLemmas.{survives_weaker}
use Rattle.bike_sql.specs.Calls.{ReadsWhere}
use Rattle.bike_sql.proofs.ChainLaws.{reads_both}
use Rattle.bike_book.specs.Tables.{TableName, Tables, table_place, Meta, System, Plans, Segments, Types, Regions, Stations, Docks, Bikes, Trucks, Riders, Rentals, Orders, Entries, History, MoreNames, Books}
use Rattle.bike_schema.specs.Layouts.{every_table}
use Rattle.bike_schema.specs.Tables.{HasTables, IsOurs, tables_of}
use Rattle.bike_schema.proofs.AnswerLemmas.{reads_weaker}
use Rattle.bike_readings.specs.Rules.{IsGoodKey, IsVerdict}
use Rattle.bike_readings.proofs.RulesLaws.{table_at, its_own}
use Rattle.bike_recognition.specs.Names.{table_named}
use Rattle.bike_recognition.specs.declared.table.TableName as code
use Rattle.bike_recognition.specs.Recognition.{AnyDatabase, ReadsAny, told_by, meta_version, IsByTables, IsAsTold, IsRecognised}
use Rattle.bike_recognition.specs.declared.version.MetaVersion.{MetaVersion}
use Rattle.bike_recognition.specs.declared.version.MetaVersion.TheVariants.{Missing, Version, NotOurs}
use Rattle.bike_recognition.specs.declared.recognition.Recognition.{Recognition}
use Rattle.bike_recognition.specs.declared.recognition.Recognition.TheVariants as recognition
use Rattle.bike_book.specs.declared.version.TheConstants.{NEWEST}
use Rattle.bike_recognition.proofs.LookLemmas.{reads_known, reads_once}
use Rattle.bike_judges.specs.declared.key.BadKey.{BadKey}
use Rattle.bike_judges.specs.Judging.{key_row}
use Rattle.bike_judges.specs.Verdicts.{EarlierGood, JudgesTable}
use Rattle.bike_audit.specs.Audit.{IsAfter, IsFoundIn, IsVerdictOn, IsByRules, IsAudited, row_name}
use Rattle.bike_audit.specs.declared.finding.Finding.{Finding}
use Rattle.bike_audit.specs.declared.finding.Finding.TheVariants as finding
use Rattle.bike_audit.specs.declared.tables.BadRow.{BadRow}

-- ---- the tables in their order

last_place : (name : TableName) → table_place name < length every_table
last_place Meta = omega arith
last_place System = omega arith
last_place Plans = omega arith
last_place Segments = omega arith
last_place Types = omega arith
last_place Regions = omega arith
last_place Stations = omega arith
last_place Docks = omega arith
last_place Bikes = omega arith
last_place Trucks = omega arith
last_place Riders = omega arith
last_place Rentals = omega arith
last_place Orders = omega arith
last_place Entries = omega arith
last_place History = omega arith
last_place MoreNames = omega arith
last_place Books = omega arith

-- the tables from a place on, in their order
abbrev AreFrom : ℕ → List TableName → Type 0
AreFrom place [] = place ≡ length every_table
AreFrom place (name ∷ names) = (table_place name ≡ place) × AreFrom (suc place) names

every_from : AreFrom 0 every_table
every_from = (refl, (refl, (refl, (refl, (refl, (refl, (refl, (refl, (refl, (refl, (refl, (refl, (refl, (refl, (refl, (refl, (refl, refl)))))))))))))))))

module _ (db : Database) where
  abbrev t : Tables
  t = tables_of db

  abbrev GoodBefore : ℕ → Type 0
  GoodBefore place = (table : TableName) (other : Row) → table_place table < place → IsGoodKey t table other

  module _ (place : ℕ) (name : TableName) (here : table_place name ≡ place) (good : GoodBefore place) where
    earlier : EarlierGood t name
    earlier table other less = good table other (subst (λ (n : ℕ). table_place table < n) here less)

    -- a table up to this place is before it, or is this one
    up_to : ((key : Row) → IsGoodKey t name key) → GoodBefore (suc place)
    up_to all table other less = by (nat_cmp (table_place table) place) refl
      where
        by : (o : Ordering) → o ≡ nat_cmp (table_place table) place → IsGoodKey t table other
        by Less e = good table other (ranked (table_place table) place Less e)
        by Equal e = subst (λ (n : TableName). IsGoodKey t n other) (sym (its_own name) ∙ ap table_at (here ∙ sym (ranked (table_place table) place Equal e)) ∙ its_own table) (all other)
        by Greater e = absurd (let more = ranked (table_place table) place Greater e in omega (arith, less, more))

    one_table : (bad : Option (TableName × Row)) (rest : Type 0) → (GoodBefore (suc place) → rest → IsVerdict t bad) → (found : Option BadKey) → JudgesTable name db found → IsAfter name bad rest found
        → IsVerdict t bad
    one_table bad rest others None verdict after = others (up_to (verdict earlier)) after
    one_table bad rest others (Some key) verdict is = let it = verdict earlier in subst (IsVerdict t) (sym is) (record { bad = it.bad; own = it.own; before = it.before; earlier = earlier })

  found_from : (place : ℕ) (names : List TableName) (bad : Option (TableName × Row)) → AreFrom place names → GoodBefore place → IsFoundIn names db bad → IsVerdict t bad
  found_from place [] bad from good none = subst (IsVerdict t) (sym none) (λ table other. good table other (subst (λ (n : ℕ). table_place table < n) (sym from) (last_place table)))
  found_from place (name ∷ names) bad from good it = one_table place name from.0 good bad (IsFoundIn names db bad) (λ up rest. found_from (suc place) names bad from.1 up rest) it.0 it.1 it.2

  pub found_verdict : (bad : Option BadRow) → IsFoundIn every_table db (option_map row_name bad) → IsVerdictOn db bad
  found_verdict bad it = found_from 0 every_table (option_map row_name bad) every_from (λ table other less. absurd (omega (arith, less))) it

-- ---- a list of tables, the first of which has no bad row

-- a slice that is not empty, as its pattern splits it
pub split_first : (tables : List code.TableName) (other : code.TableName) → 1 ≤ length tables → tables ≡ slice_index_or tables 0 other ∷ take (length tables - 1) (drop 1 tables)
split_first [] other some = absurd (omega (arith, some))
split_first (table ∷ rest) other some = ap (λ (xs : List code.TableName). table ∷ xs) (sym (take_all (length (table ∷ rest) - 1) rest (omega arith)))

pub found_after : (tables : List code.TableName) (table : code.TableName) (rest : List code.TableName) (found : Option BadKey) → tables ≡ table ∷ rest → found ≡ None
    → (db : Database) (bad : Option BadRow) → JudgesTable (table_named table) db found × IsFoundIn (map table_named rest) db (option_map row_name bad)
    → IsFoundIn (map table_named tables) db (option_map row_name bad)
found_after tables table rest found split none db bad both =
    subst (λ (names : List code.TableName). IsFoundIn (map table_named names) db (option_map row_name bad)) (sym split)
    (found, both.0, subst (IsAfter (table_named table) (option_map row_name bad) (IsFoundIn (map table_named rest) db (option_map row_name bad))) (sym none) both.1)

pub found_here : (tables : List code.TableName) (table : code.TableName) (rest : List code.TableName) (found : Option BadKey) (key : BadKey)
    → tables ≡ table ∷ rest → found ≡ Some key → (db : Database) → JudgesTable (table_named table) db found
    → IsFoundIn (map table_named tables) db (option_map row_name (Some (record { table = table; key = key })))
found_here tables table rest found key split some db judged =
    let bad = Some (table_named table, key_row key) in
    let after = subst (IsAfter (table_named table) bad (IsFoundIn (map table_named rest) db bad)) (sym some) refl in
    subst (λ (names : List code.TableName). IsFoundIn (map table_named names) db bad) (sym split) (found, judged, after)

-- ---- what is known of an open database

-- Reads of the product's tables in a database that was found open.
pub ours_then : {S X E F : Type 0} {g : Ghosts S} {old mid new : Held S} {result : Result X F} {says : Database → X → Type 0} → ReadsAny {E = E} g old mid (Ok (tt {0})) (λ db _. AnyDatabase db)
    → IsLive (state g mid)
    → ReadsWhere g IsOurs mid new result says → ReadsWhere g HasTables old new result (λ db x. HasTables db × says db x)
ours_then {g = g} {mid = mid} {new = new} {result = result} {says = says} one live two = reads_weaker (reads_both (reads_known one) at_mid) (λ db x both. both.1)
  where
    ours : HasCleanDisk (state g new) → HasTables (state g mid).now → IsOurs (state g mid).now
    ours clean has =
        let kept = two.quiet.survives.clean in
        let early : HasCleanDisk (state g mid) = omega (arith, clean, kept) in
        record { sound = (live (one.same early tt).0.is_open).0; has = has }

    at_mid : ReadsWhere g HasTables mid new result (λ db x. HasTables db × says db x)
    at_mid = record {
      found = λ clean has. IfOk-weaker result _ _ (λ x at. (has, at)) (two.found clean (ours clean has));
      same = λ clean has. two.same clean (ours clean has);
      failed = λ clean has. two.failed clean (ours clean has);
      quiet = record { mode = two.quiet.mode; survives = survives_weaker (state g mid) (state g new) _ _ (λ clean db none has. none (ours clean has)) two.quiet.survives };
    }

-- ---- the whole

ours_has : (db : Database) → IsRecognised db recognition.Ours → HasTables db
ours_has db (inl none) = absurd (let never = none.1 in cc)
ours_has db (inr (some, inl other)) = absurd (let never = other.1 in cc)
ours_has db (inr (some, inr (stands, told))) = by_version (meta_version db) told
  where
    by_tables : IsByTables db recognition.Ours → HasTables db
    by_tables (inl all) = all.0
    by_tables (inr lacking) = absurd (let never = lacking.1 in cc)

    by_order : (v : ℕ) (o : Ordering) → IsAsTold db (match_ordering o (Some (recognition.Older v)) None (Some (recognition.Newer v))) recognition.Ours → HasTables db
    by_order v Less is = absurd (let never = is in cc)
    by_order v Equal is = by_tables is
    by_order v Greater is = absurd (let never = is in cc)

    by_version : (v : MetaVersion) → IsAsTold db (told_by v) recognition.Ours → HasTables db
    by_version Missing is = by_tables is
    by_version (Version v) is = by_order v (nat_cmp v NEWEST) is
    by_version NotOurs is = absurd (let never = is in cc)

-- a read where more was known
reads_under : {S X E : Type 0} {g : Ghosts S} {P Q : Database → Type 0} {old new : Held S} {result : Result X E} {says : Database → X → Type 0} → ((db : Database) → Q db → P db)
    → ReadsWhere g P old new result says → ReadsWhere g Q old new result says
reads_under {g = g} {old = old} {new = new} tells it = record {
  found = λ clean has. it.found clean (tells _ has);
  same = λ clean has. it.same clean (tells _ has);
  failed = λ clean has. it.failed clean (tells _ has);
  quiet = record { mode = it.quiet.mode; survives = survives_weaker (state g old) (state g new) _ _ (λ clean db none has. none (tells _ has)) it.quiet.survives };
}

-- a database whose tables all stand was judged by the rules
by_rules : (db : Database) (found : Finding) → IsRecognised db recognition.Ours → HasTables db × IsByRules db found → IsAudited db found
by_rules db finding.Empty is it = absurd it.1
by_rules db finding.Sound is it = (is, it)
by_rules db finding.Foreign is it = absurd it.1
by_rules db (finding.Unsound bad) is it = (is, it)
by_rules db (finding.Older version) is it = absurd it.1
by_rules db (finding.Newer version) is it = absurd it.1

pub ours_audited : {S E F : Type 0} {g : Ghosts S} {old mid new : Held S} {told : Recognition} {result : Result Finding F} → ReadsAny {E = E} g old mid (Ok told) IsRecognised → told ≡ recognition.Ours
    → ReadsWhere g HasTables mid new result (λ db found. HasTables db × IsByRules db found) → ReadsAny g old new result IsAudited
ours_audited one is two = reads_weaker (reads_once one (λ db told. subst (IsRecognised db) is told) (reads_under ours_has two)) (λ db found both. by_rules db found both.0 both.1)
