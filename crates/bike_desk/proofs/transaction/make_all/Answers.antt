use Rattle.std.proofs.Common.{rules, ◌≡◌, true, sym, subst, arith, take, ◌∙◌}
use Rattle.sqlite.specs.State.{HasCleanDisk, Survives}
use Rattle.sqlite.specs.Held.{state}
use Rattle.sqlite.proofs.StateLemmas.{survives_then}
use Rattle.bike_schema.specs.Makes.{OthersStay}
use Rattle.bike_schema.specs.Stands.{Keeps}
use Rattle.bike_schema.proofs.MakesLemmas.{makes_ours}
use Rattle.bike_desk.proofs.ChangeLemmas.{put_more, take-item}
use Rattle.bike_desk.proofs.KeepLemmas.{MayMake, kept_ours, all_put, commit_leaves, next_kept, either_left}
use Rattle.bike_desk.proofs.transaction.make_all.Goals as goal

pub changes-preserved : goal.changes-preserved
changes-preserved g c =
    let i = c.changes.change-index in
    let xs = c.args.changes.now in
    let mid = state g.S.Store c.changes.staged.conn.now in
    let last = state g.S.Store c.put.new.tx.conn.now in
    let begin = state g.S.Store (record c.args.conn.now { in_transaction = true }) in
    record {
      same = c.in_ok-put.ensures.same_reference ∙ c.changes.invariant.same;
      made = λ clean live ours.
          let before = c.changes.invariant.made (omega (arith, c.in_ok-put.ensures.survives.clean)) live ours in
          rw (take-item xs i c.change-item.result c.changes-test.true c.change-item.is)
          (put_more (take i xs) _ begin mid last before (c.in_ok-put.ensures.done clean before.continues.mode (makes_ours before.makes)).0);
      calm = survives_then begin mid last _ _ (λ _. ⊥) (λ _ db none. none) (λ _ db none. none) c.changes.invariant.calm c.in_ok-put.ensures.survives;
    }

pub returns-in-Ok-clause-made : goal.returns-in-Ok-clause-made
returns-in-Ok-clause-made g c clean s next it =
    let old = c.args.conn.now in
    let last = c.changes.staged.conn.now in
    let end = c.commit.new.self.0 in
    let same : end ≡ c.conn-2-1.given.0 = search rules in
    let clean_end : HasCleanDisk (state g.S.Store end) = subst (λ h. HasCleanDisk (state g.S.Store h)) (sym same) clean in
    let put = all_put g.S.Store old last end c.args.changes.now c.changes.change-index (omega (arith, c.changes-test.false)) it.keeps.is_open (kept_ours (state g.S.Store old) s it.keeps) c.changes.invariant.made c.changes.invariant.calm (omega (arith, clean_end, c.commit.ensures.survives.clean)) in
    let shown = (c.in-Ok.ensures.ok clean_end).1 in
    subst (λ h. Keeps (state g.S.Store h) next) same (next_kept g.S.Store old end c.args.changes.now s next it g.met.S.Store.settled (state g.S.Store last).now put.makes
    (record { was_open = it.keeps.is_open; is_open = shown.is_open; now_is = shown.now_is; committed_is = shown.committed_is; mode = shown.mode }))

pub returns-in-Ok-clause-others : goal.returns-in-Ok-clause-others
returns-in-Ok-clause-others g c clean s next it =
    let old = c.args.conn.now in
    let last = c.changes.staged.conn.now in
    let end = c.commit.new.self.0 in
    let same : end ≡ c.conn-2-1.given.0 = search rules in
    let clean_end : HasCleanDisk (state g.S.Store end) = subst (λ h. HasCleanDisk (state g.S.Store h)) (sym same) clean in
    let put = all_put g.S.Store old last end c.args.changes.now c.changes.change-index (omega (arith, c.changes-test.false)) it.keeps.is_open (kept_ours (state g.S.Store old) s it.keeps) c.changes.invariant.made c.changes.invariant.calm (omega (arith, clean_end, c.commit.ensures.survives.clean)) in
    let shown = (c.in-Ok.ensures.ok clean_end).1 in
    subst (λ h. OthersStay (state g.S.Store old).now (state g.S.Store h).now) same (subst (OthersStay (state g.S.Store old).now) (sym shown.now_is) put.makes.others)

pub returns-in-Ok-clause-left : goal.returns-in-Ok-clause-left
returns-in-Ok-clause-left g c clean s next it =
    let old = c.args.conn.now in
    let end = c.commit.new.self.0 in
    let crash = commit_leaves g.S.Store old c.changes.staged.conn.now end c.args.changes.now c.changes.change-index (omega (arith, c.changes-test.false)) it.keeps.is_open (kept_ours (state g.S.Store old) s it.keeps) c.changes.invariant.made c.changes.invariant.calm c.commit.ensures.survives in
    let same : end ≡ c.conn-2-1.given.0 = search rules in
    either_left g.S.Store old c.conn-2-1.given.0 c.args.changes.now s next it clean
    (subst (λ h. Survives (state g.S.Store old) (state g.S.Store h) (MayMake c.args.changes.now (state g.S.Store old).now)) same crash)

pub returns-in-Err-clause-left : goal.returns-in-Err-clause-left
returns-in-Err-clause-left g c clean s next it =
    let old = c.args.conn.now in
    let end = c.commit.new.self.0 in
    let crash = commit_leaves g.S.Store old c.changes.staged.conn.now end c.args.changes.now c.changes.change-index (omega (arith, c.changes-test.false)) it.keeps.is_open (kept_ours (state g.S.Store old) s it.keeps) c.changes.invariant.made c.changes.invariant.calm c.commit.ensures.survives in
    let same : end ≡ c.conn-2-1.given.0 = search rules in
    either_left g.S.Store old c.conn-2-1.given.0 c.args.changes.now s next it clean
    (subst (λ h. Survives (state g.S.Store old) (state g.S.Store h) (MayMake c.args.changes.now (state g.S.Store old).now)) same crash)
