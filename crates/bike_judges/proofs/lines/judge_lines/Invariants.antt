use Rattle.std.proofs.Common.{◌≡◌}
use Rattle.bike_judges.specs.Showing.{IsUnderWay}
use Rattle.bike_judges.proofs.lines.judge_lines.Given as goal

abbrev pub invariant-lines : goal.invariant-lines
invariant-lines g l = record {
  same : l.rows.conn.ghost_name ≡ l.initial.rows.conn.ghost_name;
  under_way : IsUnderWay g.S.Store g.J.Judge.says l.fn.query l.fn.conn l.rows.conn.now l.fn.judge l.judge;
}
