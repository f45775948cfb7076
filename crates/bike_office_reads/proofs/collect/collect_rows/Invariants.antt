use Rattle.std.proofs.Common.{◌≡◌}
use Rattle.bike_office_reads.proofs.CollectLaws.{ReadSoFar}
use Rattle.bike_office_reads.proofs.collect.collect_rows.Given as goal

-- the rows so far were read, and the others are to come
abbrev pub invariant-rows : goal.invariant-rows
invariant-rows g l = record {
  same : l.rows.conn.ghost_name ≡ l.fn.rows.conn.ghost_name;
  read : ReadSoFar g.S.Store g.R.ReadRow.reads l.fn.rows.conn.now l.rows.conn.now l.all.items;
}
