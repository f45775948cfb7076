use Rattle.std.proofs.Common.{◌≡◌, ℕ, List, Ok, ◌++◌, ◌∷◌, [], Err, arith, ap, refl, sym, subst, ◌∙◌}
use Rattle.sqlite.specs.State.{HasCleanDisk}
use Rattle.bike_commands.specs.Replies.{reply_text}
use Rattle.bike_desk.specs.Desk.{desk_state}
use Rattle.bike_batch.specs.declared.lines.TheConstants.{MOST_READS}
use Rattle.bike_batch.specs.Answers.{after_lines, ChangesNothing}
use Rattle.bike_batch.specs.LineServing.{RepliesAt}
use Rattle.bike_batch.specs.Runs.{RanLines}
use Rattle.bike_batch.proofs.RunLemmas.{running_begins, running_replied, running_written, running_refused, running_unread, running_ends, running_none, running_rests, desk_other, prepend_none}
use Rattle.bike_batch.proofs.RunLemmas.{spends_none, spends_line, spends_most, err_is, kept_of}
use Rattle.bike_batch.proofs.lines.run_lines.Goals as goal

pub loop-line-init : goal.loop-line-init
loop-line-init g c = record {
  clean = omega arith;
  goes_on = sym c.stopped.ensures ∙ c.if-stopped.false;
  room = rw c.in_ok-buffer.ensures (omega arith);
  spent = rw c.in_ok-buffer.ensures (spends_none (g.R.Read.remaining c.args.reader.now) MOST_READS);
  ran = λ clean s at. running_begins g.S.Store s (g.R.Read.remaining c.args.reader.now) (g.W.Write.contents c.args.writer.now) c.args.desk.now c.in_ok-buffer.buffer c.in_ok-buffer.ensures at;
  rests = λ clean s at none. record { at = at; same = refl };
}

pub returns-in_err-next_line-clause-ran : goal.returns-in_err-next_line-clause-ran
returns-in_err-next_line-clause-ran g c clean s at =
    let it = c.in_err-next_line.ensures in
    let run = c.loop-line.invariant.ran clean s at in
    let ahead = g.R.Read.remaining c.next_line.new.reader in
    subst (RanLines g.S.Store c.loop-line.desk s _ _ _ _) (sym (err_is _ _ c.from_residual-in_err-next_line.ensures.1)) (
    running_unread g.S.Store s _ _ c.loop-line.desk _ _ c.loop-line.count run 4097 c.next_line.new.line ahead c.in_err-next_line.field-0.0
    (rw (it.emptied, prepend_none ahead) at it.fault)
    (λ many. spends_most _ _ _ c.loop-line.buffer c.next_line.new.self c.loop-line.reads c.loop-line.invariant.spent (rw (many, it.none_left (ap Err many)) at it.read))
    )

pub returns-in_err-next_line-clause-kept : goal.returns-in_err-next_line-clause-kept
returns-in_err-next_line-clause-kept g c clean s at = kept_of g.S.Store c.loop-line.desk s _ _ _ _ _ (returns-in_err-next_line-clause-ran g c clean s at)

pub returns-in_err-next_line-clause-rests : goal.returns-in_err-next_line-clause-rests
returns-in_err-next_line-clause-rests g c clean s at none other = (c.loop-line.invariant.rests clean s at none).same

pub returns-in_err-reply-clause-ran : goal.returns-in_err-reply-clause-ran
returns-in_err-reply-clause-ran g c clean s at =
    let it = c.in_err-reply.ensures in
    let early : HasCleanDisk (desk_state g.S.Store c.loop-line.desk) = omega (arith, clean, it.clean) in
    let run = c.loop-line.invariant.ran early s at in
    subst (RanLines g.S.Store c.reply_to.new.desk s _ _ _ _) (sym (err_is _ _ c.from_residual-in_err-reply.ensures.1)) (
    running_refused g.S.Store s _ _ c.loop-line.desk _ _ c.loop-line.count run c.reply_to.new.desk _ 4097 (omega arith) c.next_line.new.line
    (rw c.if-branch.true at c.in_ok-next_line.ensures.taken) c.in_err-reply.field-0.0
    (subst (λ (l : List ℕ). RepliesAt g.S.Store c.loop-line.desk c.reply_to.new.desk l (after_lines s run.calls) (Err c.in_err-reply.field-0.0)) c.as_slice.ensures
    (it.replied clean (after_lines s run.calls) run.before.at)) (it.goes_on c.loop-line.invariant.goes_on) (g.R.Read.remaining c.next_line.new.reader)
    )

pub returns-in_err-reply-clause-kept : goal.returns-in_err-reply-clause-kept
returns-in_err-reply-clause-kept g c clean s at = kept_of g.S.Store c.reply_to.new.desk s _ _ _ _ _ (returns-in_err-reply-clause-ran g c clean s at)

pub returns-in_err-reply-clause-rests : goal.returns-in_err-reply-clause-rests
returns-in_err-reply-clause-rests g c clean s at none other =
    let it = c.in_err-reply.ensures in
    let early : HasCleanDisk (desk_state g.S.Store c.loop-line.desk) = omega (arith, clean, it.clean) in
    let run = c.loop-line.invariant.ran early s at in
    let was = c.loop-line.invariant.rests early s at none in
    let idle = running_none g.S.Store s _ _ c.loop-line.desk _ _ c.loop-line.count run c.reply_to.new.desk _ 4097 (omega arith) c.next_line.new.line (rw c.if-branch.true at c.in_ok-next_line.ensures.taken) none in
    it.rests clean s was.at (subst (ChangesNothing s) (sym c.as_slice.ensures) idle)
    (desk_other _ c.in_err-reply.field-0.0 (Err c.in_err-reply.field-0.0) (err_is _ _ c.from_residual-in_err-reply.ensures.1) refl other) ∙ was.same

pub returns-in_err-write_whole-clause-ran : goal.returns-in_err-write_whole-clause-ran
returns-in_err-write_whole-clause-ran g c clean s at =
    let it = c.in_ok-reply.ensures in
    let early : HasCleanDisk (desk_state g.S.Store c.loop-line.desk) = omega (arith, clean, it.clean) in
    let run = c.loop-line.invariant.ran early s at in
    let bytes : c.as_bytes.result.now ≡ reply_text c.in_ok-reply.reply ++ 10 ∷ [] = c.as_bytes.ensures.value ∙ c.deref.ensures.0 ∙ c.answer_text.ensures in
    subst (RanLines g.S.Store c.reply_to.new.desk s _ _ _ _) (sym (err_is _ _ c.from_residual-in_err-write_whole.ensures.1)) (
    running_written g.S.Store s _ _ c.loop-line.desk _ _ c.loop-line.count run c.reply_to.new.desk _ 4097 (omega arith) c.next_line.new.line
    (rw c.if-branch.true at c.in_ok-next_line.ensures.taken) _ c.in_ok-reply.reply
    (subst (λ (l : List ℕ). RepliesAt g.S.Store c.loop-line.desk c.reply_to.new.desk l (after_lines s run.calls) (Ok c.in_ok-reply.reply)) c.as_slice.ensures
    (it.replied clean (after_lines s run.calls) run.before.at)) (rw bytes at c.in_err-write_whole.ensures.err) (g.R.Read.remaining c.next_line.new.reader)
    )

pub returns-in_err-write_whole-clause-kept : goal.returns-in_err-write_whole-clause-kept
returns-in_err-write_whole-clause-kept g c clean s at = kept_of g.S.Store c.reply_to.new.desk s _ _ _ _ _ (returns-in_err-write_whole-clause-ran g c clean s at)

pub returns-in_err-write_whole-clause-rests : goal.returns-in_err-write_whole-clause-rests
returns-in_err-write_whole-clause-rests g c clean s at none other =
    let it = c.in_ok-reply.ensures in
    let early : HasCleanDisk (desk_state g.S.Store c.loop-line.desk) = omega (arith, clean, it.clean) in
    let run = c.loop-line.invariant.ran early s at in
    let was = c.loop-line.invariant.rests early s at none in
    let idle = running_none g.S.Store s _ _ c.loop-line.desk _ _ c.loop-line.count run c.reply_to.new.desk _ 4097 (omega arith) c.next_line.new.line (rw c.if-branch.true at c.in_ok-next_line.ensures.taken) none in
    it.rests clean s was.at (subst (ChangesNothing s) (sym c.as_slice.ensures) idle) (λ e. cc) ∙ was.same

pub loop-line-preserved : goal.loop-line-preserved
loop-line-preserved g c =
    let it = c.in_ok-reply.ensures in
    let next = c.in_ok-next_line.ensures in
    let inv = c.loop-line.invariant in
    let taken = rw c.if-branch.true at next.taken in
    let fewer = next.fewer (ap Ok c.if-branch.true) in
    let bytes : c.as_bytes.result.now ≡ reply_text c.in_ok-reply.reply ++ 10 ∷ [] = c.as_bytes.ensures.value ∙ c.deref.ensures.0 ∙ c.answer_text.ensures in
    record {
      clean = omega (arith, inv.clean, it.clean);
      goes_on = it.goes_on inv.goes_on;
      room = omega (arith, inv.room, fewer);
      spent = spends_line 4097 _ _ _ c.loop-line.buffer c.next_line.new.self c.next_line.new.line MOST_READS c.loop-line.reads c.next_line.new.reads inv.spent taken (rw c.if-branch.true at next.read);
      ran = λ clean s at.
          let early : HasCleanDisk (desk_state g.S.Store c.loop-line.desk) = omega (arith, clean, it.clean) in
          let run = inv.ran early s at in
          running_replied g.S.Store s _ _ c.loop-line.desk _ _ c.loop-line.count run c.reply_to.new.desk _ 4097 (omega arith) c.next_line.new.line taken _ c.in_ok-reply.reply
          (subst (λ (l : List ℕ). RepliesAt g.S.Store c.loop-line.desk c.reply_to.new.desk l (after_lines s run.calls) (Ok c.in_ok-reply.reply)) c.as_slice.ensures
          (it.replied clean (after_lines s run.calls) run.before.at))
          (rw bytes at c.in_ok-write_whole.ensures.ok);
      rests = λ clean s at none.
          let early : HasCleanDisk (desk_state g.S.Store c.loop-line.desk) = omega (arith, clean, it.clean) in
          let run = inv.ran early s at in
          let was = inv.rests early s at none in
          let idle = running_none g.S.Store s _ _ c.loop-line.desk _ _ c.loop-line.count run c.reply_to.new.desk _ 4097 (omega arith) c.next_line.new.line taken none in let same = it.rests clean s was.at (subst (ChangesNothing s) (sym c.as_slice.ensures) idle) (λ e. cc) in
          running_rests g.S.Store s _ _ c.loop-line.desk _ _ c.loop-line.count run c.reply_to.new.desk _ 4097 (omega arith) c.next_line.new.line taken c.args.desk.now c.in_ok-reply.reply was idle
          (subst (λ (l : List ℕ). RepliesAt g.S.Store c.loop-line.desk c.reply_to.new.desk l s (Ok c.in_ok-reply.reply)) c.as_slice.ensures (it.replied clean s was.at)) same;
    }

pub returns-clause-ran : goal.returns-clause-ran
returns-clause-ran g c clean s at =
    let run = c.loop-line.invariant.ran clean s at in
    running_ends g.S.Store s _ _ c.loop-line.desk _ _ c.loop-line.count run 4097 c.next_line.new.self c.next_line.new.line
    (g.R.Read.remaining c.next_line.new.reader) (rw c.if-branch.false at c.in_ok-next_line.ensures.taken)

pub returns-clause-kept : goal.returns-clause-kept
returns-clause-kept g c clean s at = kept_of g.S.Store c.loop-line.desk s _ _ _ _ (Ok c.loop-line.count) (returns-clause-ran g c clean s at)

pub returns-clause-rests : goal.returns-clause-rests
returns-clause-rests g c clean s at none other = (c.loop-line.invariant.rests clean s at none).same
