use Rattle.std.proofs.Common.{◌≡◌, rules, Ok, Err, subst}
use Rattle.std.specs.Prelude.{fold}
use Rattle.bike_sql.specs.Calls.{ReadsWhere}
use Rattle.bike_schema.specs.Tables.{IsOurs, tables_of}
use Rattle.bike_judges.specs.Lines.{lines_of}
use Rattle.bike_schema.specs.declared.fault.StatementFault.TheVariants.{StoreFailed}
use Rattle.bike_judges.specs.Showing.{ComesTo}
use Rattle.bike_judges.proofs.ShowLemmas.{goes_on, comes_to, still_failed, step_failed, step_refused}
use Rattle.bike_judges.proofs.fold.fold_lines.Goals as goal

pub returns-in-End : goal.returns-in-End
returns-in-End g c =
    let after = g.F.LineFold.after in
    let ended = comes_to after g.S.Store c.args.query c.args.conn.now c.lines.rows.conn.now c.add_next.new.rows.conn.now c.args.first c.lines.so_far c.add_next.new.lines c.lines.invariant.under_way (λ total. rw c.in-End.is at (c.in_ok-add_next.ensures.steps total)) in
    subst (λ h. ReadsWhere g.S.Store IsOurs c.args.conn.now h (Ok c.add_next.new.lines) (λ db total. total ≡ fold after c.args.first (lines_of c.args.query (tables_of db)))) (search rules) ended

pub lines-preserved : goal.lines-preserved
lines-preserved g c = record {
  same = search rules;
  under_way =
      λ total. goes_on g.S.Store (ComesTo g.F.LineFold.after total) c.args.query c.args.conn.now c.lines.rows.conn.now c.add_next.new.rows.conn.now c.args.first c.lines.so_far c.add_next.new.lines
      (c.lines.invariant.under_way total) (rw c.in-Shown.is at (c.in_ok-add_next.ensures.steps total));
}

pub returns-in_err-add_next : goal.returns-in_err-add_next
returns-in_err-add_next g c =
    let after = g.F.LineFold.after in
    let failed = step_failed g.S.Store (ComesTo after c.args.first) c.args.query c.args.conn.now c.lines.rows.conn.now c.add_next.new.rows.conn.now c.args.first c.lines.so_far c.add_next.new.lines (c.lines.invariant.under_way c.args.first) {result = c.from_residual-in_err-add_next.result} {told = λ db total. total ≡ fold after c.args.first (lines_of c.args.query (tables_of db))} (search rules) (c.in_err-add_next.ensures.steps c.args.first) in
    subst (λ h. ReadsWhere g.S.Store IsOurs c.args.conn.now h c.from_residual-in_err-add_next.result (λ db total. total ≡ fold after c.args.first (lines_of c.args.query (tables_of db))))
    (search rules) failed

pub returns-in-Found : goal.returns-in-Found
returns-in-Found g c =
    let after = g.F.LineFold.after in
    let refused = step_refused g.S.Store (ComesTo after c.args.first) c.args.query c.args.conn.now c.lines.rows.conn.now c.add_next.new.rows.conn.now c.args.first c.lines.so_far c.add_next.new.lines (c.lines.invariant.under_way c.args.first) {e = StoreFailed} {told = λ db total. total ≡ fold after c.args.first (lines_of c.args.query (tables_of db))} (c.in_ok-add_next.ensures.steps c.args.first) in
    subst (λ h. ReadsWhere g.S.Store IsOurs c.args.conn.now h (Err StoreFailed) (λ db total. total ≡ fold after c.args.first (lines_of c.args.query (tables_of db)))) (search rules) refused

pub returns : goal.returns
returns g c =
    let after = g.F.LineFold.after in
    let refused = still_failed g.S.Store (ComesTo after c.args.first) c.args.query c.args.conn.now c.lines.rows.conn.now {e = StoreFailed} {told = λ db total. total ≡ fold after c.args.first (lines_of c.args.query (tables_of db))} c.args.first c.lines.so_far (c.lines.invariant.under_way c.args.first) in
    subst (λ h. ReadsWhere g.S.Store IsOurs c.args.conn.now h (Err StoreFailed) (λ db total. total ≡ fold after c.args.first (lines_of c.args.query (tables_of db)))) (search rules) refused
