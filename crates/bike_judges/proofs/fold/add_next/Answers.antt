use Rattle.std.proofs.Common.{Some, None}
use Rattle.bike_judges.specs.Showing.{ComesTo}
use Rattle.bike_judges.specs.declared.lines.Step.TheVariants.{Shown, End}
use Rattle.bike_judges.proofs.ShowLemmas.{steps_on, shown_next, none_next, adds_next}
use Rattle.bike_judges.proofs.fold.add_next.Goals as goal

pub returns-in_ok-add-in-Some-clause-steps : goal.returns-in_ok-add-in-Some-clause-steps
returns-in_ok-add-in-Some-clause-steps g c total =
    let says = ComesTo g.F.LineFold.after total in
    let old = c.args.rows.now.conn.now in
    let new = c.advance.new.self.conn.now in
    let line = c.in-Some.line.now in
    let moved = c.in_ok-advance.ensures in
    steps_on g.S.Store says old new c.args.lines.now c.add.new.self Shown (Some line) (λ clean. rw (← c.in-Some.ensures) at (moved.ok clean)) moved.same moved.mode moved.survives
    (λ goes. shown_next g.S.Store says old new c.args.lines.now c.add.new.self line goes (adds_next g.F.LineFold.after total c.args.lines.now c.add.new.self line c.in_ok-add-in-Some.ensures))

pub returns-in-None-clause-steps : goal.returns-in-None-clause-steps
returns-in-None-clause-steps g c total =
    let says = ComesTo g.F.LineFold.after total in
    let old = c.args.rows.now.conn.now in
    let new = c.advance.new.self.conn.now in
    let moved = c.in_ok-advance.ensures in
    steps_on g.S.Store says old new c.args.lines.now c.args.lines.now End None (λ clean. rw (← c.in-None.ensures) at (moved.ok clean)) moved.same moved.mode moved.survives
    (none_next g.S.Store says old new c.args.lines.now)
