use Rattle.std.proofs.Common.{◌≡◌, ◌+◌, ◌*◌, ◌≤◌, false}
use Rattle.std.specs.Io.KnownBytes.{prepend_known}
use Rattle.sqlite.specs.State.{HasCleanDisk}
use Rattle.sqlite_trees.specs.View.{doubt}
use Rattle.bike_operator.specs.Operator.{Operator}
use Rattle.bike_desk.specs.Desk.{desk_state, IsAt}
use Rattle.bike_stream.specs.declared.buffer.TheConstants.{READ_LENGTH}
use Rattle.bike_stream.specs.Reads.{most_ahead}
use Rattle.bike_batch.specs.declared.lines.TheConstants.{MOST_READS}
use Rattle.bike_batch.specs.Runs.{AllChangeNothing}
use Rattle.bike_batch.proofs.RunLemmas.{Running, Rests, Spends}
use Rattle.bike_batch.proofs.lines.run_lines.Given as goal

-- so many lines are answered; each took a byte, and each read gave one
abbrev pub invariant-loop-line : goal.invariant-loop-line
invariant-loop-line g l =
    let remaining = g.R.Read.remaining in
    let contents = g.W.Write.contents in
    record {
      clean : doubt (desk_state g.S.Store l.fn.desk).is_clean ≤ doubt (desk_state g.S.Store l.desk).is_clean;
      goes_on : l.desk.is_stopped ≡ false;
      room : l.count + most_ahead l.buffer l.reads ≤ READ_LENGTH * MOST_READS;
      spent : Spends (remaining l.fn.reader) (remaining l.reader) l.buffer MOST_READS l.reads;
      ran : HasCleanDisk (desk_state g.S.Store l.desk) → (s : Operator) → IsAt g.S.Store l.fn.desk s
          → Running g.S.Store l.desk s (remaining l.fn.reader) (prepend_known l.buffer (remaining l.reader)) (contents l.fn.writer) (contents l.writer) l.count;
      rests : HasCleanDisk (desk_state g.S.Store l.desk) → (s : Operator) → IsAt g.S.Store l.fn.desk s → AllChangeNothing s (remaining l.fn.reader)
          → Rests g.S.Store l.fn.desk l.desk s;
    }

abbrev pub decreases-loop-line : goal.decreases-loop-line
decreases-loop-line g l = most_ahead l.buffer l.reads
