use Rattle.std.proofs.Common.{◌≡◌}
use Rattle.bike_judges.specs.Showing.{ComesTo, IsUnderWay}
use Rattle.bike_judges.proofs.fold.fold_lines.Given as goal

abbrev pub invariant-lines : goal.invariant-lines
invariant-lines g l = record {
  same : l.rows.conn.ghost_name ≡ l.initial.rows.conn.ghost_name;
  under_way : (total : _) → IsUnderWay g.S.Store (ComesTo g.F.LineFold.after total) l.fn.query l.fn.conn l.rows.conn.now l.fn.first l.so_far;
}
