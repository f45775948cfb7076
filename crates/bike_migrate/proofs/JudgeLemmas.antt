-- The tables are made, filled and judged.
use Rattle.std.proofs.Common.{List, Option, Result, Ok, sym, subst}
use Rattle.std.specs.Prelude.{option_map}
use Rattle.sqlite_value.specs.Order.{Row}
use Rattle.sqlite_trees.specs.declared.store.Store.{Ghosts}
use Rattle.sqlite.specs.Effect.{Database}
use Rattle.sqlite.specs.Held.{Held}
use Rattle.bike_sql.specs.Calls.{ReadsWhere}
use Rattle.bike_schema.specs.Tables.{IsOurs, tables_of}
use Rattle.bike_audit.specs.Audit.{row_name}
use Rattle.bike_audit.specs.declared.tables.BadRow.{BadRow}
use Rattle.bike_recognition.specs.declared.earlier_versions.earlier.Earlier.{Earlier}
use Rattle.bike_migrate.specs.Calls.{DoesInside}
use Rattle.bike_migrate.specs.Raised.{HasOldRows, WasRead, tables_raised, Fills}
use Rattle.bike_migrate.specs.Stations.{AreCopies}
use Rattle.bike_migrate.specs.Verdicts.{IsVerdictAt}
use Rattle.bike_migrate.proofs.StepLemmas.{does_under, does_then, reads_does}
use Rattle.bike_migrate.proofs.DoneLemmas.{verdict_raised}

module _ (e : Earlier) (stations riders kept : List Row) where
  pub is_at : (db : Database) → WasRead e stations riders kept db → HasOldRows e stations riders kept db
  is_at db has = (has.0.is_at, has.1)

  pub filled_ours : (a b : Database) → WasRead e stations riders kept a → Fills e a b → IsOurs b
  filled_ours a b has it = record { sound = it.raised.sound; has = it.raised.has }

  abbrev pub Judged : Database → Database → Option BadRow → Type 0
  Judged old new bad = Fills e old new × IsVerdictAt e (tables_raised e old) (option_map row_name bad)

  pub judged_does : {S E F : Type 0} {g : Ghosts S} {old mid new : Held S} {result : Result (Option BadRow) F}
      → DoesInside g (HasOldRows e stations riders kept) old mid {X = Unit {0}} {E = E} (Ok tt) (λ a b _. Fills e a b)
      → ReadsWhere g IsOurs mid new result (λ db bad. AreCopies stations (tables_of db).stations → IsVerdictAt e (tables_of db) (option_map row_name bad))
      → DoesInside g (WasRead e stations riders kept) old new result Judged
  judged_does built read = does_then (does_under is_at built) filled_ours (reads_does read)
      (λ a b c bad has filled it. (subst (Fills e a) (sym it.0) filled, verdict_raised e a b stations (option_map row_name bad) has.0 has.1.0 filled it.1))
