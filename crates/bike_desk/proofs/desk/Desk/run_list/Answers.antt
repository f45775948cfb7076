use Rattle.std.proofs.Common.{length-append, ◌≡◌, ◌∷◌, [], ◌++◌, take, length, sym, ap, ◌∙◌, subst, arith, Some, Err}
use Rattle.std.proofs.lemmas.List.{take_all}
use Rattle.bike_operator.specs.Runs.{after, replies}
use Rattle.sqlite.specs.State.{HasCleanDisk}
use Rattle.bike_desk.specs.Desk.{desk_state, IsAt}
use Rattle.bike_desk.specs.Runs.{EndsAt}
use Rattle.bike_desk.proofs.OtherLemmas.{others_then, others_after}
use Rattle.bike_desk.proofs.RunLemmas.{after-next, replies-next, front_of, fault_ends}
use Rattle.bike_desk.proofs.desk.Desk.run_list.Goals as goal

pub calls-preserved : goal.calls-preserved
calls-preserved g c =
    let i = c.calls.moment-index in
    let xs = c.args.calls.now in
    let item = c.calls-item.result in
    let before = c.calls.invariant in
    record {
      count = omega (arith, before.count, ap length c.note.ensures.items, length-append c.calls.replies.items (c.in-Ok-apply.reply ∷ []));
      len = omega (arith, before.len, c.note.ensures.len);
      room = omega (arith, before.room, c.note.ensures.capacity);
      clean = omega (arith, before.clean, c.apply.ensures.clean);
      so_far = λ clean s at.
          let was = before.so_far (omega (arith, c.apply.ensures.clean)) s at in
          let now = c.in-Ok-apply.ensures.ok clean _ was.1 in (
            c.note.ensures.items ∙ ap (λ told. told ++ c.in-Ok-apply.reply ∷ []) was.0 ∙ ap (λ r. replies s (take i xs) ++ r ∷ []) now.0
                ∙ sym (replies-next s xs i item c.calls-test.true c.calls-item.is),
            subst (IsAt g.S.Store c.apply.new.self) (sym (after-next s xs i item c.calls-test.true c.calls-item.is)) now.1,
          );
      others = λ clean s at.
          let early : HasCleanDisk (desk_state g.S.Store c.calls.self) = omega (arith, clean, c.apply.ensures.clean) in
          others_then _ _ _ (before.others early s at) (c.in-Ok-apply.ensures.others clean _ (before.so_far early s at).1);
      goes_on = c.in-Ok-apply.ensures.goes_on;
    }

pub returns-in-Err-apply-clause-ran : goal.returns-in-Err-apply-clause-ran
returns-in-Err-apply-clause-ran g c clean s at =
    let i = c.calls.moment-index in
    let xs = c.args.calls.now in
    let before = c.calls.invariant in
    let was = before.so_far (omega (arith, c.apply.ensures.clean)) s at in
    let it = c.in-Err-apply.ensures in
    let fault = c.in-Err-apply.fault in
    let ends = fault_ends g.S.Store c.apply.new.self s xs i c.calls-item.result c.calls.self fault c.calls-test.true c.calls-item.is was.1
    (λ e. it.no_memory (ap Err e)) (λ e. it.stops (ap Err e)) (λ e. it.store_failed clean _ was.1 (ap Err e)) (λ e. it.stopped (ap Err e)) in
    record {
      within = omega (arith, before.count, c.calls-test.true);
      front = was.0 ∙ ap (λ n. replies s (take n xs)) (sym before.count);
      ends = subst (λ n. EndsAt g.S.Store c.apply.new.self s xs n (Some fault)) (sym before.count) ends;
    }

pub returns-in-Err-apply-clause-front : goal.returns-in-Err-apply-clause-front
returns-in-Err-apply-clause-front g c clean s at = front_of g.S.Store c.apply.new.self s c.args.calls.now _ _ (returns-in-Err-apply-clause-ran g c clean s at)

pub returns-clause-ran : goal.returns-clause-ran
returns-clause-ran g c clean s at =
    let i = c.calls.moment-index in
    let xs = c.args.calls.now in
    let before = c.calls.invariant in
    let was = before.so_far clean s at in
    let all : take i xs ≡ xs = take_all i xs (omega (arith, c.calls-test.false)) in
    record {
      within = omega (arith, before.count, c.calls.auto.moment-index-end, c.calls-test.false);
      front = was.0 ∙ ap (λ n. replies s (take n xs)) (sym before.count);
      ends = (omega (arith, before.count, c.calls.auto.moment-index-end, c.calls-test.false), subst (λ ys. IsAt g.S.Store c.calls.self (after s ys)) all was.1);
    }

pub returns-clause-front : goal.returns-clause-front
returns-clause-front g c clean s at = front_of g.S.Store c.calls.self s c.args.calls.now _ _ (returns-clause-ran g c clean s at)

pub returns-in-Err-apply-clause-others : goal.returns-in-Err-apply-clause-others
returns-in-Err-apply-clause-others g c clean s at other =
    let before = c.calls.invariant in
    let it = c.in-Err-apply.ensures in
    others_after g.S.Store c.args.self.now c.calls.self c.apply.new.self c.in-Err-apply.fault (before.others (omega (arith, c.apply.ensures.clean)) s at) other (λ e. it.no_memory (ap Err e))
    (λ e. (it.stays (it.stopped (ap Err e))).1)

pub returns-clause-others : goal.returns-clause-others
returns-clause-others g c clean s at other = c.calls.invariant.others clean s at
