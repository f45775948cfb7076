use Rattle.sqlite.specs.Held.{state}
use Rattle.bike_desk.proofs.KeepLemmas.{kept_ours, kept_stores}
use Rattle.bike_desk.proofs.newest.know_newest.Goals as goal

pub returns-then-branch-clause-newest : goal.returns-then-branch-clause-newest
returns-then-branch-clause-newest g c clean s keeps known told =
    let old = state g.S.Store c.args.conn.now in
    (c.in_ok-newest_tells.ensures.found clean (kept_ours old s keeps) s (kept_stores old s keeps)).0 c.if-branch.true

pub returns-then-branch-clause-same : goal.returns-then-branch-clause-same
returns-then-branch-clause-same g c clean s keeps = (c.in_ok-newest_tells.ensures.same clean (kept_ours (state g.S.Store c.args.conn.now) s keeps)).0.now_is

pub returns-else-branch-clause-same : goal.returns-else-branch-clause-same
returns-else-branch-clause-same g c clean s keeps = (c.in_ok-newest_tells.ensures.same clean (kept_ours (state g.S.Store c.args.conn.now) s keeps)).0.now_is
