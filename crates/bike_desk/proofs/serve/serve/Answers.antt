use Rattle.std.proofs.Common.{◌≡◌, OnOk, inl, Some, None, refl, ap, ap₂, ◌∙◌, subst, subst₂, arith}
use Rattle.std.specs.FinMap as map
use Rattle.sqlite.specs.State.{HasCleanDisk}
use Rattle.sqlite.specs.Held.{state}
use Rattle.bike_operator.specs.Operator.{key_of, key_in, kept_under}
use Rattle.bike_operator.specs.Runs.{step}
use Rattle.bike_schema.specs.Makes.{OthersStay}
use Rattle.bike_schema.specs.Stands.{AllLeft, Keeps}
use Rattle.bike_desk.specs.Desk.{AreFigures, TreesStandForEither}
use Rattle.bike_office_reads.specs.Accounts.{KeepsSame}
use Rattle.bike_desk.proofs.KeepLemmas.{on_err, kept_ours, kept_stores, still, still_left}
use Rattle.bike_desk.proofs.OtherLemmas.{others_same}
use Rattle.bike_desk.proofs.ServeLemmas.{step_kept, none_kept}
use Rattle.bike_desk.proofs.serve.serve.Goals as goal

pub returns-in_err-kept-clause-failed : goal.returns-in_err-kept-clause-failed
returns-in_err-kept-clause-failed g c clean s keeps remembers =
    let left : AllLeft (state g.S.Store c.find_kept.new.conn) (TreesStandForEither s (step s c.args.moment c.args.request.now).1) = λ db h. inl (still_left g.S.Store c.args.conn.now c.find_kept.new.conn s keeps clean c.find_kept.ensures.quiet db h) in
    on_err _ left

pub returns-in-Some-clause-ok : goal.returns-in-Some-clause-ok
returns-in-Some-clause-ok g c clean s keeps remembers =
    let q = c.args.request.now in
    let old = state g.S.Store c.args.conn.now in
    let ours = kept_ours old s keeps in
    let key : key_of c.as_str-caller.result.now c.as_str.result.now ≡ key_in q = ap₂ key_of (c.as_str-caller.ensures.value ∙ c.text-caller.ensures.text) c.as_str.ensures.text ∙ ap key_in c.request.view_is in
    let found = c.in_ok-kept.ensures.found clean ours s (kept_stores old s keeps) in
    let same : KeepsSame (kept_under (key_in q) s.history.items) (Some c.in-Some.kept) = subst₂ (λ k o. KeepsSame (kept_under k s.history.items) o) key c.in-Some.is found in
    let it = step_kept s c.args.moment q (kept_under (key_in q) s.history.items) c.in-Some.kept c.args.text.now refl same c.requires.text in
    record {
      reply = c.kept_answer.ensures ∙ it.0;
      keeps =
          subst (λ o. Keeps (state g.S.Store c.find_kept.new.conn) o) it.1 (still g.S.Store c.args.conn.now c.find_kept.new.conn s keeps clean
          (c.in_ok-kept.ensures.same clean ours) c.find_kept.ensures.quiet);
      figures = subst (AreFigures c.args.remembered.now.figures) it.1 remembers.figures;
    }

pub returns-in-None-clause-ok : goal.returns-in-None-clause-ok
returns-in-None-clause-ok g c clean s keeps remembers =
    let q = c.args.request.now in
    let old = state g.S.Store c.args.conn.now in
    let ours = kept_ours old s keeps in
    let key : key_of c.as_str-caller.result.now c.as_str.result.now ≡ key_in q = ap₂ key_of (c.as_str-caller.ensures.value ∙ c.text-caller.ensures.text) c.as_str.ensures.text ∙ ap key_in c.request.view_is in
    let seen : HasCleanDisk (state g.S.Store c.find_kept.new.conn) = omega (arith, clean, c.serve_anew.ensures.clean) in
    let found = c.in_ok-kept.ensures.found seen ours s (kept_stores old s keeps) in
    let same : KeepsSame (kept_under (key_in q) s.history.items) None = subst₂ (λ k o. KeepsSame (kept_under k s.history.items) o) key c.in-None.is found in
    c.serve_anew.ensures.ok clean s (still g.S.Store c.args.conn.now c.find_kept.new.conn s keeps seen (c.in_ok-kept.ensures.same seen ours) c.find_kept.ensures.quiet) remembers
    (none_kept s c.args.moment q (kept_under (key_in q) s.history.items) refl same)

pub returns-in-None-clause-failed : goal.returns-in-None-clause-failed
returns-in-None-clause-failed g c clean s keeps remembers =
    let q = c.args.request.now in
    let old = state g.S.Store c.args.conn.now in
    let ours = kept_ours old s keeps in
    let key : key_of c.as_str-caller.result.now c.as_str.result.now ≡ key_in q = ap₂ key_of (c.as_str-caller.ensures.value ∙ c.text-caller.ensures.text) c.as_str.ensures.text ∙ ap key_in c.request.view_is in
    let seen : HasCleanDisk (state g.S.Store c.find_kept.new.conn) = omega (arith, clean, c.serve_anew.ensures.clean) in
    let found = c.in_ok-kept.ensures.found seen ours s (kept_stores old s keeps) in
    let same : KeepsSame (kept_under (key_in q) s.history.items) None = subst₂ (λ k o. KeepsSame (kept_under k s.history.items) o) key c.in-None.is found in
    c.serve_anew.ensures.failed clean s (still g.S.Store c.args.conn.now c.find_kept.new.conn s keeps seen (c.in_ok-kept.ensures.same seen ours) c.find_kept.ensures.quiet) remembers
    (none_kept s c.args.moment q (kept_under (key_in q) s.history.items) refl same)

pub returns-in-Some-clause-others : goal.returns-in-Some-clause-others
returns-in-Some-clause-others g c clean s keeps remembers = others_same _ _ (c.in_ok-kept.ensures.same clean (kept_ours (state g.S.Store c.args.conn.now) s keeps)).0.now_is

pub returns-in-None-clause-others : goal.returns-in-None-clause-others
returns-in-None-clause-others g c clean s keeps remembers =
    let q = c.args.request.now in
    let old = state g.S.Store c.args.conn.now in
    let ours = kept_ours old s keeps in
    let key : key_of c.as_str-caller.result.now c.as_str.result.now ≡ key_in q = ap₂ key_of (c.as_str-caller.ensures.value ∙ c.text-caller.ensures.text) c.as_str.ensures.text ∙ ap key_in c.request.view_is in
    let seen : HasCleanDisk (state g.S.Store c.find_kept.new.conn) = omega (arith, clean, c.serve_anew.ensures.clean) in
    let read = c.in_ok-kept.ensures.same seen ours in
    let found = c.in_ok-kept.ensures.found seen ours s (kept_stores old s keeps) in
    let same : KeepsSame (kept_under (key_in q) s.history.items) None = subst₂ (λ k o. KeepsSame (kept_under k s.history.items) o) key c.in-None.is found in
    subst (λ db. OnOk c.serve_anew.result (OthersStay db (state g.S.Store c.serve_anew.new.conn).now)) read.0.now_is
    (c.serve_anew.ensures.others clean s (still g.S.Store c.args.conn.now c.find_kept.new.conn s keeps seen read c.find_kept.ensures.quiet) remembers
    (none_kept s c.args.moment q (kept_under (key_in q) s.history.items) refl same))

pub returns-in-Some-clause-rests : goal.returns-in-Some-clause-rests
returns-in-Some-clause-rests g c clean s keeps remembers rests = (c.in_ok-kept.ensures.same clean (kept_ours (state g.S.Store c.args.conn.now) s keeps)).0.now_is

pub returns-in-None-clause-rests : goal.returns-in-None-clause-rests
returns-in-None-clause-rests g c clean s keeps remembers rests =
    let q = c.args.request.now in
    let old = state g.S.Store c.args.conn.now in
    let ours = kept_ours old s keeps in
    let key : key_of c.as_str-caller.result.now c.as_str.result.now ≡ key_in q = ap₂ key_of (c.as_str-caller.ensures.value ∙ c.text-caller.ensures.text) c.as_str.ensures.text ∙ ap key_in c.request.view_is in
    let seen : HasCleanDisk (state g.S.Store c.find_kept.new.conn) = omega (arith, clean, c.serve_anew.ensures.clean) in
    let read = c.in_ok-kept.ensures.same seen ours in
    let found = c.in_ok-kept.ensures.found seen ours s (kept_stores old s keeps) in
    let same : KeepsSame (kept_under (key_in q) s.history.items) None = subst₂ (λ k o. KeepsSame (kept_under k s.history.items) o) key c.in-None.is found in
    subst (λ db. OnOk c.serve_anew.result ((state g.S.Store c.serve_anew.new.conn).now ≡ db)) read.0.now_is
    (c.serve_anew.ensures.rests clean s (still g.S.Store c.args.conn.now c.find_kept.new.conn s keeps seen read c.find_kept.ensures.quiet) remembers
    (none_kept s c.args.moment q (kept_under (key_in q) s.history.items) refl same) rests)
