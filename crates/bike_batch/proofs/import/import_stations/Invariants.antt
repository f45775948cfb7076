use Rattle.std.proofs.Common.{◌≡◌, ◌≤◌, false}
use Rattle.sqlite.specs.State.{HasCleanDisk}
use Rattle.sqlite_trees.specs.View.{doubt}
use Rattle.bike_operator.specs.Operator.{Operator}
use Rattle.bike_desk.specs.Desk.{desk_state, IsAt}
use Rattle.bike_batch.specs.StationTables.{IsPlain}
use Rattle.bike_batch.specs.Imports.{AllChangeNothing}
use Rattle.bike_batch.proofs.Importing.{Importing, Rests}
use Rattle.bike_batch.proofs.import.import_stations.Given as goal

-- so many rows are accepted
abbrev pub invariant-rows : goal.invariant-rows
invariant-rows g l = record {
  clean : doubt (desk_state g.S.Store l.fn.desk).is_clean ≤ doubt (desk_state g.S.Store l.desk).is_clean;
  goes_on : l.desk.is_stopped ≡ false;
  plain : IsPlain l.table;
  so_far : HasCleanDisk (desk_state g.S.Store l.desk) → (s : Operator) → IsAt g.S.Store l.fn.desk s
      → Importing g.S.Store (λ input. g.R.Read.remaining input.reader.now) s l.moment l.name (g.R.Read.remaining l.fn.reader) l.desk l.table l.count;
  rests : HasCleanDisk (desk_state g.S.Store l.desk) → (s : Operator) → IsAt g.S.Store l.fn.desk s → AllChangeNothing l.moment l.name s (g.R.Read.remaining l.fn.reader)
      → Rests g.S.Store l.fn.desk l.desk s;
}
