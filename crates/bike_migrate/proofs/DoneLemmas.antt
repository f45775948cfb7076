-- The raised tables are judged, and stand once the old tables are gone.
use Rattle.std.proofs.Common.{◌≡◌, true, false, List, Option, Some, None, refl, sym, ap, subst, ◌∙◌}
use Rattle.std.proofs.Math.Path.{fun_ext}
use Rattle.std.proofs.lemmas.Bool.{both_ways}
use Rattle.sqlite_value.specs.Order.{Row}
use Rattle.sqlite.specs.Effect.{Database}
use Rattle.bike_sql.specs.Stands.{Stays}
use Rattle.bike_book.specs.Tables.{TableName, Tables, keys_of, tables_by}
use Rattle.bike_schema.specs.Layouts.{layout_of, name_of}
use Rattle.bike_schema.specs.Indexes.{TableIndex, HasIndex, more_names_by_language, more_names_by_thing, history_by_key}
use Rattle.bike_schema.specs.Tables.{tables_of}
use Rattle.bike_schema.proofs.TableLemmas.{every_false}
use Rattle.bike_readings.specs.Rules.{IsVerdict}
use Rattle.bike_recognition.specs.declared.earlier_versions.earlier.Earlier.{Earlier}
use Rattle.bike_recognition.specs.declared.earlier_versions.earlier.Earlier.TheVariants.{First, Second, Third}
use Rattle.bike_recognition.specs.EarlierVersions.Earlier.{bounds_docks}
use Rattle.bike_migrate.specs.Raised.{IsEarlier, old_stations, tables_raised, filled_names, changed_names, old_names, Fills, DropsOld, OthersKept, Raises}
use Rattle.bike_migrate.specs.Spared.{is_among}
use Rattle.bike_migrate.specs.Stations.{AreCopies}
use Rattle.bike_migrate.specs.Verdicts.{IsVerdictBefore, IsVerdictAt}
use Rattle.bike_migrate.proofs.DropLemmas.{apart_here, not_ours, not_old}
use Rattle.bike_migrate.proofs.FillLemmas.{stations_raised}
use Rattle.bike_migrate.proofs.SpareLemmas.{spares_then, spares_less, among_both, index_spared}

-- ---- the verdict

pub verdict_raised : (e : Earlier) (a b : Database) (rows : List Row) (bad : Option (TableName × Row)) → IsEarlier e a → rows ≡ old_stations e a → Fills e a b
    → (AreCopies rows (tables_of b).stations → IsVerdictAt e (tables_of b) bad) → IsVerdictAt e (tables_raised e a) bad
verdict_raised e a b rows bad was are filled verdict = subst (λ t. IsVerdictAt e t bad) filled.raised.tables (verdict copies)
  where
    copies : AreCopies rows (tables_of b).stations
    copies = subst (λ rs. AreCopies rs (tables_of b).stations) (sym are) (subst (λ (t : Tables). AreCopies (old_stations e a) t.stations) (sym filled.raised.tables) (stations_raised e a was.is_at))

pub verdict_bounded : (e : Earlier) (t : Tables) (bad : Option (TableName × Row)) → bounds_docks e ≡ true → IsVerdictBefore t bad → IsVerdictAt e t bad
verdict_bounded First t None bounds verdict = verdict
verdict_bounded First t (Some bad) bounds verdict = verdict
verdict_bounded Second t None bounds verdict = verdict
verdict_bounded Second t (Some bad) bounds verdict = verdict
verdict_bounded Third t bad bounds verdict = absurd (both_ways false refl bounds)

pub verdict_unbounded : (e : Earlier) (t : Tables) (bad : Option (TableName × Row)) → bounds_docks e ≡ false → IsVerdict t bad → IsVerdictAt e t bad
verdict_unbounded First t bad bounds verdict = absurd (both_ways true bounds refl)
verdict_unbounded Second t bad bounds verdict = absurd (both_ways true bounds refl)
verdict_unbounded Third t None bounds verdict = verdict
verdict_unbounded Third t (Some bad) bounds verdict = verdict

-- ---- at the end

module _ (e : Earlier) (a b c : Database) (filled : Fills e a b) (dropped : DropsOld e b c) where
  apart : (t : TableName) → is_among (old_names e) (name_of t) ≡ false
  apart t = every_false (λ u. is_among (old_names e) (name_of u)) (apart_here e) t

  still : (t : TableName) → Stays b c (keys_of t) (layout_of t)
  still t = dropped.others (keys_of t) (layout_of t) (apart t) (filled.raised.has t)

  kept : OthersKept a c
  kept keys layout other was =
      let first = filled.others keys layout (not_ours layout.name other) was in
      let second = dropped.others keys layout (not_old layout.name other e) first.stands in
      record { stands = second.stands; rows = second.rows ∙ first.rows }

  -- an index stays as the old tables go
  still_indexed : (i : TableIndex) → HasIndex b.schema i → HasIndex c.schema i
  still_indexed i has = index_spared (old_names e) b c i dropped.spares (apart i.table) has

  pub raises : Raises e a c
  raises = record {
    raised = record {
      sound = dropped.sound;
      has = λ t. (still t).stands;
      tables = ap tables_by (fun_ext (λ t. (still t).rows)) ∙ filled.raised.tables;
    };
    gone = dropped.gone;
    indexes = record {
      names = λ bounds. let has = filled.indexes.names bounds in
          record { by_language = still_indexed more_names_by_language has.by_language; by_thing = still_indexed more_names_by_thing has.by_thing };
      requests = still_indexed history_by_key filled.indexes.requests;
    };
    others = kept;
    spares = spares_then (changed_names e) a b c
        (spares_less (changed_names e) filled_names a b (λ name other. (among_both (old_names e) filled_names name other).1) filled.spares)
        (spares_less (changed_names e) (old_names e) b c (λ name other. (among_both (old_names e) filled_names name other).0) dropped.spares);
  }
