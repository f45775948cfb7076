use Rattle.std.proofs.Common.{◌≡◌, ◌+◌, ◌≤◌, take}
use Rattle.arrayvec.specs.ArrayVec.{array_vec_len}
use Rattle.bike_book.specs.ChangeLaws.{segment_writes}
use Rattle.bike_booking.specs.Writes.{AreAdded}
use Rattle.bike_booking.proofs.rows.push_segments.Given as goal

abbrev pub invariant-loop-segment : goal.invariant-loop-segment
invariant-loop-segment l = record {
  place : l.seq ≡ l.segment-index + 1;
  added : AreAdded (segment_writes l.plan 1 (take l.segment-index l.segments)) l.initial.rows.items l.rows.items;
  len : array_vec_len l.rows ≤ array_vec_len l.initial.rows + l.segment-index;
}
