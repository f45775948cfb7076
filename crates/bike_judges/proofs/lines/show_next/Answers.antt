use Rattle.std.proofs.Common.{Some, None}
use Rattle.bike_judges.specs.declared.lines.Step.TheVariants.{Shown, Found, End}
use Rattle.bike_judges.proofs.ShowLemmas.{steps_on, shown_next, found_next, none_next}
use Rattle.bike_judges.proofs.lines.show_next.Goals as goal

pub returns-in-Some-2-clause-steps : goal.returns-in-Some-2-clause-steps
returns-in-Some-2-clause-steps g c =
    let says = g.J.Judge.says in
    let old = c.args.rows.now.conn.now in
    let new = c.advance.new.self.conn.now in
    let line = c.in-Some.line.now in
    let moved = c.in_ok-advance.ensures in
    let taken = rw c.in-Some-2.is at c.in_ok-key-in-Some.ensures in
    steps_on g.S.Store says old new c.args.judge.now c.take.new.self (Found c.in-Some-2.key) (Some line) (λ clean. rw (← c.in-Some.ensures) at (moved.ok clean)) moved.same moved.mode moved.survives
    (λ goes. found_next g.S.Store says old new c.args.judge.now c.take.new.self line c.in-Some-2.key goes taken)

pub returns-in-None-2-clause-steps : goal.returns-in-None-2-clause-steps
returns-in-None-2-clause-steps g c =
    let says = g.J.Judge.says in
    let old = c.args.rows.now.conn.now in
    let new = c.advance.new.self.conn.now in
    let line = c.in-Some.line.now in
    let moved = c.in_ok-advance.ensures in
    let taken = rw c.in-None-2.is at c.in_ok-key-in-Some.ensures in
    steps_on g.S.Store says old new c.args.judge.now c.take.new.self Shown (Some line) (λ clean. rw (← c.in-Some.ensures) at (moved.ok clean)) moved.same moved.mode moved.survives
    (λ goes. shown_next g.S.Store says old new c.args.judge.now c.take.new.self line goes taken)

pub returns-in-None-clause-steps : goal.returns-in-None-clause-steps
returns-in-None-clause-steps g c =
    let says = g.J.Judge.says in
    let old = c.args.rows.now.conn.now in
    let new = c.advance.new.self.conn.now in
    let moved = c.in_ok-advance.ensures in
    steps_on g.S.Store says old new c.args.judge.now c.args.judge.now End None (λ clean. rw (← c.in-None.ensures) at (moved.ok clean)) moved.same moved.mode moved.survives
    (none_next g.S.Store says old new c.args.judge.now)
