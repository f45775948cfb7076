use Rattle.std.proofs.Common.{◌≡◌, OnOk, inl, arith, subst}
use Rattle.sqlite.specs.State.{HasCleanDisk}
use Rattle.sqlite.specs.Held.{state}
use Rattle.bike_operator.specs.Runs.{step}
use Rattle.bike_schema.specs.Makes.{OthersStay}
use Rattle.bike_schema.specs.Stands.{AllLeft}
use Rattle.bike_desk.specs.Desk.{TreesStandForEither}
use Rattle.bike_desk.proofs.KeepLemmas.{on_err, kept_ours, still, still_left}
use Rattle.bike_desk.proofs.ReadLemmas.{both_read, both_same, asked_command}
use Rattle.bike_desk.proofs.serve.serve_anew.Goals as goal

pub returns-in_err-figures-clause-failed : goal.returns-in_err-figures-clause-failed
returns-in_err-figures-clause-failed g c clean s keeps remembers anew =
    let left : AllLeft (state g.S.Store c.know_figures.new.conn) (TreesStandForEither s (step s c.args.moment c.args.asked.request.now).1) = λ db h. inl (still_left g.S.Store c.args.conn.now c.know_figures.new.conn s keeps clean c.know_figures.ensures.quiet db h) in
    on_err _ left

pub returns-in_err-found-clause-failed : goal.returns-in_err-found-clause-failed
returns-in_err-found-clause-failed g c clean s keeps remembers anew =
    let early : HasCleanDisk (state g.S.Store c.know_figures.new.conn) = omega (arith, clean, c.find_view.ensures.quiet.survives.clean) in
    let first = c.in_ok-figures.ensures.answers keeps.is_open in
    let at = still g.S.Store c.args.conn.now c.know_figures.new.conn s keeps early (first.same early (kept_ours (state g.S.Store c.args.conn.now) s keeps)) c.know_figures.ensures.quiet in
    let left : AllLeft (state g.S.Store c.find_view.new.conn) (TreesStandForEither s (step s c.args.moment c.args.asked.request.now).1) = λ db h. inl (still_left g.S.Store c.know_figures.new.conn c.find_view.new.conn s at clean c.find_view.ensures.quiet db h) in
    on_err _ left

pub returns-clause-ok : goal.returns-clause-ok
returns-clause-ok g c clean s keeps remembers anew =
    let seen : HasCleanDisk (state g.S.Store c.find_view.new.conn) = omega (arith, clean, c.serve_read.ensures.clean) in
    let read = both_read g.S.Store c.args.conn.now c.know_figures.new.conn c.find_view.new.conn s c.args.moment _ c.args.asked.request.now c.args.remembered.now _ _ _ (asked_command c.request.view_is) keeps seen c.in_ok-figures.ensures c.in_ok-found.ensures remembers c.later-now.ensures.bound c.later-now.ensures.value anew in
    c.serve_read.ensures.ok clean s c.args.moment read.0 read.1

pub returns-clause-failed : goal.returns-clause-failed
returns-clause-failed g c clean s keeps remembers anew =
    let seen : HasCleanDisk (state g.S.Store c.find_view.new.conn) = omega (arith, clean, c.serve_read.ensures.clean) in
    let read = both_read g.S.Store c.args.conn.now c.know_figures.new.conn c.find_view.new.conn s c.args.moment _ c.args.asked.request.now c.args.remembered.now _ _ _ (asked_command c.request.view_is) keeps seen c.in_ok-figures.ensures c.in_ok-found.ensures remembers c.later-now.ensures.bound c.later-now.ensures.value anew in
    c.serve_read.ensures.failed clean s c.args.moment read.0 read.1

pub returns-clause-others : goal.returns-clause-others
returns-clause-others g c clean s keeps remembers anew =
    let seen : HasCleanDisk (state g.S.Store c.find_view.new.conn) = omega (arith, clean, c.serve_read.ensures.clean) in
    let q = c.args.asked.request.now in
    let read = both_read g.S.Store c.args.conn.now c.know_figures.new.conn c.find_view.new.conn s c.args.moment _ q c.args.remembered.now _ _ _ (asked_command c.request.view_is) keeps seen c.in_ok-figures.ensures c.in_ok-found.ensures remembers c.later-now.ensures.bound c.later-now.ensures.value anew in
    let same = both_same g.S.Store c.args.conn.now c.know_figures.new.conn c.find_view.new.conn s _ _ keeps seen c.in_ok-figures.ensures c.in_ok-found.ensures in
    subst (λ db. OnOk c.serve_read.result (OthersStay db (state g.S.Store c.serve_read.new.conn).now)) same (c.serve_read.ensures.others clean s c.args.moment read.0 read.1)

pub returns-clause-rests : goal.returns-clause-rests
returns-clause-rests g c clean s keeps remembers anew rests =
    let seen : HasCleanDisk (state g.S.Store c.find_view.new.conn) = omega (arith, clean, c.serve_read.ensures.clean) in
    let q = c.args.asked.request.now in
    let read = both_read g.S.Store c.args.conn.now c.know_figures.new.conn c.find_view.new.conn s c.args.moment _ q c.args.remembered.now _ _ _ (asked_command c.request.view_is) keeps seen c.in_ok-figures.ensures c.in_ok-found.ensures remembers c.later-now.ensures.bound c.later-now.ensures.value anew in
    let same = both_same g.S.Store c.args.conn.now c.know_figures.new.conn c.find_view.new.conn s _ _ keeps seen c.in_ok-figures.ensures c.in_ok-found.ensures in
    subst (λ db. OnOk c.serve_read.result ((state g.S.Store c.serve_read.new.conn).now ≡ db)) same (c.serve_read.ensures.rests clean s c.args.moment read.0 read.1 rests)
