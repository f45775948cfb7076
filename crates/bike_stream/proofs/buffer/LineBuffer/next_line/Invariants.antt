use Rattle.std.proofs.Common.{◌+◌, ◌*◌, ◌≤◌, min, length, cond}
use Rattle.std.specs.Io.KnownBytes.{prepend_known}
use Rattle.bike_stream.specs.Taking.{Taking}
use Rattle.bike_stream.specs.Reads.{most_ahead}
use Rattle.bike_stream.proofs.ReadLemmas.{GivesBytes}
use Rattle.bike_stream.proofs.buffer.LineBuffer.next_line.Given as goal

-- a front of the line is taken; a byte of it is, if it is begun; and each read gave a byte
abbrev pub invariant-loop-started : goal.invariant-loop-started
invariant-loop-started g l = record {
  taking : Taking g.row.KEPT (prepend_known l.fn.self (g.R.Read.remaining l.fn.reader)) l.started (prepend_known l.self (g.R.Read.remaining l.reader)) l.line;
  ahead : most_ahead l.self l.reads + cond l.started 1 0 ≤ most_ahead l.fn.self l.fn.reads;
  made : l.reads ≤ l.fn.reads;
  bytes : GivesBytes (g.R.Read.remaining l.fn.reader) (g.R.Read.remaining l.reader) l.fn.reads l.reads;
}

abbrev pub decreases-loop-started : goal.decreases-loop-started
decreases-loop-started g l = 2 * l.reads + min 1 (length l.self)
