use Rattle.std.proofs.Common.{drop}
use Rattle.bike_office_reads.proofs.SegmentLemmas.{AreRead}
use Rattle.bike_office_reads.proofs.segments.read_segments.Given as goal

-- the rows so far were read
abbrev pub invariant-loop-row : goal.invariant-loop-row
invariant-loop-row l = AreRead l.rows l.segments.items (drop l.row-index l.rows)
