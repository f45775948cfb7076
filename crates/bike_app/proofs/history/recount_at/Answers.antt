use Rattle.std.proofs.Common.{◌≡◌, ◌∙◌, true, false, Err, ap, arith, inl, inr, sym}
use Rattle.std.proofs.KnownBytes.{Keeps-refl}
use Rattle.sqlite.specs.State.{HasCleanDisk}
use Rattle.bike_desk.specs.Desk.{desk_state}
use Rattle.bike_app.proofs.HistoryLemmas.{store_failed}
use Rattle.bike_app.proofs.history.recount_at.Goals as goal

pub returns-in-Ok-clause-told : goal.returns-in-Ok-clause-told
returns-in-Ok-clause-told g c clean s at =
    let after : HasCleanDisk (desk_state g.S.Store c.recount_from.new.desk) = clean in
    let mid : HasCleanDisk (desk_state g.S.Store c.history_begin.new.self) = omega (arith, after, c.recount_from.ensures.clean) in
    let there = (c.in-Ok.ensures.query.ok mid s at).1 in
    record { told = inr (c.in-Ok.begin, c.in-Ok.ensures.begin mid s at, c.recount_from.ensures.told clean s there); at = c.recount_from.ensures.at clean s there }

pub returns-in-Ok-clause-left : goal.returns-in-Ok-clause-left
returns-in-Ok-clause-left g c clean s at db h =
    let after : HasCleanDisk (desk_state g.S.Store c.recount_from.new.desk) = clean in
    let mid : HasCleanDisk (desk_state g.S.Store c.history_begin.new.self) = omega (arith, after, c.recount_from.ensures.clean) in
    c.in-Ok.ensures.query.left mid s at db (c.recount_from.ensures.left clean s (c.in-Ok.ensures.query.ok mid s at).1 db h)

pub returns-in-Err-clause-told : goal.returns-in-Err-clause-told
returns-in-Err-clause-told g c clean s at =
    let failed = store_failed c.in-Err.fault (λ e. c.in-Err.ensures.takes_none (ap Err e))
    (λ e. absurd (let stopped : true ≡ false = sym (c.in-Err.ensures.query.stopped (ap Err e)) ∙ at.goes_on in cc)) in
    let is = c.told.ensures ∙ ap Err failed in
    record { told = inl (is, Keeps-refl _); at = λ other. absurd (other is) }
