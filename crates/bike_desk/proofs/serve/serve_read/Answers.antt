use Rattle.std.proofs.Common.{Ok, Some, inl, refl, sym, ap, ◌∙◌, subst, arith}
use Rattle.sqlite.specs.State.{HasCleanDisk}
use Rattle.sqlite.specs.Held.{state}
use Rattle.bike_commands.specs.declared.reply.Reply.{Reply}
use Rattle.bike_commands.specs.declared.request.Request.{Request}
use Rattle.bike_commands.specs.declared.reply.Reply.TheVariants.{Refused}
use Rattle.bike_commands.specs.Replies.{reply_text}
use Rattle.bike_operator.specs.Operator.{Operator}
use Rattle.bike_accepted.specs.Effects.{Decides}
use Rattle.bike_booking.specs.Booking.{AreTexts}
use Rattle.bike_booking.specs.Figures.{figures_after}
use Rattle.bike_schema.specs.declared.fault.StatementFault.TheVariants.{StoreFailed}
use Rattle.bike_operator.specs.Runs.{step}
use Rattle.bike_schema.specs.Makes.{OthersStay}
use Rattle.bike_schema.specs.Stands.{AllLeft}
use Rattle.bike_desk.specs.declared.serve.Outcome.{Outcome}
use Rattle.bike_desk.specs.Desk.{TreesStandForEither}
use Rattle.bike_desk.specs.Serving.{Serves}
use Rattle.bike_desk.proofs.KeepLemmas.{on_err, kept_stores, still_left}
use Rattle.bike_desk.proofs.OtherLemmas.{others_same}
use Rattle.bike_desk.proofs.ServeLemmas.{acceptance_moves, step_refused, step_accepted, accepts_read, figures_read, found_there, stored_same, stored_read}
use Rattle.bike_desk.proofs.serve.serve_read.Goals as goal

pub returns-in-Err-clause-ok : goal.returns-in-Err-clause-ok
returns-in-Err-clause-ok g c = rw (sym c.request.view_is) (λ clean s t keeps it.
    let q : Request = record { caller = c.request.inside.caller; key = c.request.inside.key; command = c.request.inside.command } in
    let is = step_refused s t q c.args.now it.later it.anew c.in-Err.refusal (c.in-Err.ensures.decides s it.view_is) in
    let served : Outcome = record { reply = Refused c.in-Err.refusal; figures = Some c.args.figures.now } in
    subst (λ (p : Reply × Operator). Serves (state g.S.Store c.args.conn.now) p served) (sym is) (record { reply = refl; keeps = keeps; figures = it.figures_are }))

pub returns-in_err-stored-in-Ok-clause-failed : goal.returns-in_err-stored-in-Ok-clause-failed
returns-in_err-stored-in-Ok-clause-failed g c clean s t keeps it =
    let left : AllLeft (state g.S.Store c.find_stored.new.conn) (TreesStandForEither s (step s t c.args.asked.request.now).1) = λ db h. inl (still_left g.S.Store c.args.conn.now c.find_stored.new.conn s keeps clean c.find_stored.ensures.quiet db h) in
    on_err _ left

pub returns-in_err-store_rows-in-Ok-clause-failed : goal.returns-in_err-store_rows-in-Ok-clause-failed
returns-in_err-store_rows-in-Ok-clause-failed g c = rw (sym c.request.view_is) (λ clean s t keeps it.
    let q : Request = record { caller = c.request.inside.caller; key = c.request.inside.key; command = c.request.inside.command } in
    let decides : Decides s c.args.now q.command (Ok c.in-Ok.accepted) = c.in-Ok.ensures.decides s it.view_is in
    let sound = (kept_stores (state g.S.Store c.args.conn.now) s keeps).sound in
    let found = c.in-Ok.ensures.found s sound it.view_is in
    let told : AreTexts s c.args.now q (record { caller = c.args.asked.caller; key = c.as_str-key.result; command = c.args.asked.text; reply = c.as_str.result }) =
    record {
      caller = rw (sym c.request.view_is) at c.requires.asked.caller;
      key = c.as_str-key.ensures.text;
      command = rw (sym c.request.view_is) at c.requires.asked.text;
      reply = c.as_str.ensures.value ∙ c.text-spelled.ensures ∙ ap reply_text decides.1;
    } in
    let after = found_there (figures_after c.args.figures.now c.args.now c.in-Ok.accepted) StoreFailed c.in_ok-after-in-Ok.ensures in
    let accepts = accepts_read (state g.S.Store c.args.conn.now).now s t c.args.now q c.args.figures.now _ c.in-Ok.accepted c.in_ok-after-in-Ok.after _ sound it c.request.invariant decides found after told in
    let seen : HasCleanDisk (state g.S.Store c.find_stored.new.conn) = omega (arith, clean, c.store_rows.ensures.clean) in
    let stored = stored_read g.S.Store c.args.conn.now c.find_stored.new.conn s c.in-Ok.accepted c.args.docks c.in_ok-stored-in-Ok.stored keeps seen c.in_ok-stored-in-Ok.ensures c.args.now q c.in_ok-after-in-Ok.after _ (λ h. (it.found_for h).docks_are) accepts in
    let left = c.store_rows.ensures.left clean s q stored.0 stored.1 in
    on_err _ (subst (λ (p : Reply × Operator). AllLeft (state g.S.Store c.store_rows.new.conn) (TreesStandForEither s p.1)) (sym (step_accepted s t q c.args.now it.later it.anew decides.0)) left))

pub returns-in_ok-store_rows-in-Ok-clause-ok : goal.returns-in_ok-store_rows-in-Ok-clause-ok
returns-in_ok-store_rows-in-Ok-clause-ok g c = rw (sym c.request.view_is) (λ clean s t keeps it.
    let q : Request = record { caller = c.request.inside.caller; key = c.request.inside.key; command = c.request.inside.command } in
    let decides : Decides s c.args.now q.command (Ok c.in-Ok.accepted) = c.in-Ok.ensures.decides s it.view_is in
    let sound = (kept_stores (state g.S.Store c.args.conn.now) s keeps).sound in
    let found = c.in-Ok.ensures.found s sound it.view_is in
    let told : AreTexts s c.args.now q (record { caller = c.args.asked.caller; key = c.as_str-key.result; command = c.args.asked.text; reply = c.as_str.result }) =
    record {
      caller = rw (sym c.request.view_is) at c.requires.asked.caller;
      key = c.as_str-key.ensures.text;
      command = rw (sym c.request.view_is) at c.requires.asked.text;
      reply = c.as_str.ensures.value ∙ c.text-spelled.ensures ∙ ap reply_text decides.1;
    } in
    let after = found_there (figures_after c.args.figures.now c.args.now c.in-Ok.accepted) StoreFailed c.in_ok-after-in-Ok.ensures in
    let accepts = accepts_read (state g.S.Store c.args.conn.now).now s t c.args.now q c.args.figures.now _ c.in-Ok.accepted c.in_ok-after-in-Ok.after _ sound it c.request.invariant decides found after told in
    let seen : HasCleanDisk (state g.S.Store c.find_stored.new.conn) = omega (arith, clean, c.in_ok-store_rows-in-Ok.ensures.clean) in
    let stored = stored_read g.S.Store c.args.conn.now c.find_stored.new.conn s c.in-Ok.accepted c.args.docks c.in_ok-stored-in-Ok.stored keeps seen c.in_ok-stored-in-Ok.ensures c.args.now q c.in_ok-after-in-Ok.after _ (λ h. (it.found_for h).docks_are) accepts in
    let made = c.in_ok-store_rows-in-Ok.ensures.made clean s q stored.0 stored.1 in
    let figures = figures_read s c.args.now q c.in-Ok.accepted c.books_accepted.ensures.figures it.figures_are decides found after in
    let step_is = step_accepted s t q c.args.now it.later it.anew decides.0 in
    let served : Outcome = record { reply = c.in-Ok.accepted.reply; figures = Some c.in_ok-after-in-Ok.after } in
    subst (λ (p : Reply × Operator). Serves (state g.S.Store c.store_rows.new.conn) p served) (sym step_is) (record { reply = decides.1; keeps = made; figures = figures }))

pub returns-in-Err-clause-others : goal.returns-in-Err-clause-others
returns-in-Err-clause-others g c clean s t keeps it = others_same _ _ refl

pub returns-in_ok-store_rows-in-Ok-clause-others : goal.returns-in_ok-store_rows-in-Ok-clause-others
returns-in_ok-store_rows-in-Ok-clause-others g c = rw (sym c.request.view_is) (λ clean s t keeps it.
    let q : Request = record { caller = c.request.inside.caller; key = c.request.inside.key; command = c.request.inside.command } in
    let decides : Decides s c.args.now q.command (Ok c.in-Ok.accepted) = c.in-Ok.ensures.decides s it.view_is in
    let sound = (kept_stores (state g.S.Store c.args.conn.now) s keeps).sound in
    let found = c.in-Ok.ensures.found s sound it.view_is in
    let told : AreTexts s c.args.now q (record { caller = c.args.asked.caller; key = c.as_str-key.result; command = c.args.asked.text; reply = c.as_str.result }) =
    record {
      caller = rw (sym c.request.view_is) at c.requires.asked.caller;
      key = c.as_str-key.ensures.text;
      command = rw (sym c.request.view_is) at c.requires.asked.text;
      reply = c.as_str.ensures.value ∙ c.text-spelled.ensures ∙ ap reply_text decides.1;
    } in
    let after = found_there (figures_after c.args.figures.now c.args.now c.in-Ok.accepted) StoreFailed c.in_ok-after-in-Ok.ensures in
    let accepts = accepts_read (state g.S.Store c.args.conn.now).now s t c.args.now q c.args.figures.now _ c.in-Ok.accepted c.in_ok-after-in-Ok.after _ sound it c.request.invariant decides found after told in
    let seen : HasCleanDisk (state g.S.Store c.find_stored.new.conn) = omega (arith, clean, c.in_ok-store_rows-in-Ok.ensures.clean) in
    let stored = stored_read g.S.Store c.args.conn.now c.find_stored.new.conn s c.in-Ok.accepted c.args.docks c.in_ok-stored-in-Ok.stored keeps seen c.in_ok-stored-in-Ok.ensures c.args.now q c.in_ok-after-in-Ok.after _ (λ h. (it.found_for h).docks_are) accepts in
    let same = stored_same g.S.Store c.args.conn.now c.find_stored.new.conn s c.in-Ok.accepted c.args.docks c.in_ok-stored-in-Ok.stored keeps seen c.in_ok-stored-in-Ok.ensures in
    subst (λ db. OthersStay db (state g.S.Store c.store_rows.new.conn).now) same (c.in_ok-store_rows-in-Ok.ensures.others clean s q stored.0 stored.1))

pub returns-in-Err-clause-rests : goal.returns-in-Err-clause-rests
returns-in-Err-clause-rests g c clean s t keeps it same = refl

pub returns-in_ok-store_rows-in-Ok-clause-rests : goal.returns-in_ok-store_rows-in-Ok-clause-rests
returns-in_ok-store_rows-in-Ok-clause-rests g c = rw (sym c.request.view_is) (λ clean s t keeps it same.
    let q : Request = record { caller = c.request.inside.caller; key = c.request.inside.key; command = c.request.inside.command } in
    absurd (acceptance_moves s t q it.anew (c.in-Ok.ensures.decides s it.view_is).0 same))
