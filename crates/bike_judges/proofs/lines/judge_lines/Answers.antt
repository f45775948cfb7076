use Rattle.std.proofs.Common.{rules, Ok, Some, subst}
use Rattle.bike_sql.specs.Calls.{ReadsWhere}
use Rattle.bike_schema.specs.Tables.{IsOurs}
use Rattle.bike_judges.proofs.ShowLemmas.{Finds, goes_on, ends_at, ends}
use Rattle.bike_judges.proofs.lines.judge_lines.Goals as goal

pub returns-in-Found : goal.returns-in-Found
returns-in-Found g c =
    let says = g.J.Judge.says in
    let found = ends_at g.S.Store says c.args.query c.args.conn.now c.lines.rows.conn.now c.show_next.new.rows.conn.now c.args.judge c.lines.judge c.show_next.new.judge c.lines.invariant.under_way c.in-Found.key (rw c.in-Found.is at c.in_ok-show_next.ensures.steps) in
    subst (λ h. ReadsWhere g.S.Store IsOurs c.args.conn.now h (Ok (Some c.in-Found.key)) (Finds g.S.Store says c.args.query c.args.judge)) (search rules) found

pub returns-in-End : goal.returns-in-End
returns-in-End g c =
    let says = g.J.Judge.says in
    let ended = ends g.S.Store says c.args.query c.args.conn.now c.lines.rows.conn.now c.show_next.new.rows.conn.now c.args.judge c.lines.judge c.show_next.new.judge c.lines.invariant.under_way c.end.result c.end.ensures (rw c.in-End.is at c.in_ok-show_next.ensures.steps) in
    subst (λ h. ReadsWhere g.S.Store IsOurs c.args.conn.now h (Ok c.end.result) (Finds g.S.Store says c.args.query c.args.judge)) (search rules) ended

pub lines-preserved : goal.lines-preserved
lines-preserved g c = record {
  same = search rules;
  under_way =
      goes_on g.S.Store g.J.Judge.says c.args.query c.args.conn.now c.lines.rows.conn.now c.show_next.new.rows.conn.now c.args.judge c.lines.judge c.show_next.new.judge c.lines.invariant.under_way
      (rw c.in-Shown.is at c.in_ok-show_next.ensures.steps);
}
