use Rattle.std.proofs.Common.{◌≡◌}
use Rattle.bike_recognition.specs.Rowids.{IsPassing}
use Rattle.bike_recognition.proofs.rowids.are_apart.Given as goal

abbrev pub invariant-rows : goal.invariant-rows
invariant-rows g l = record {
  same : l.rows.conn.ghost_name ≡ l.initial.rows.conn.ghost_name;
  passing : IsPassing g.S.Store l.fn.sql l.fn.conn l.rows.conn.now l.last;
}
