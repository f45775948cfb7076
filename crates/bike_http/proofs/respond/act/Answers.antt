use Rattle.std.proofs.Common.{Err, inr, refl, ap, subst}
use Rattle.bike_commands.specs.Requests.{IsRequest}
use Rattle.bike_desk.specs.declared.fault.DeskFault.{DeskFault}
use Rattle.bike_http.proofs.Told.{act_undone, act_rests}
use Rattle.bike_http.proofs.respond.act.Goals as goal

pub returns-in-Err-clause-told : goal.returns-in-Err-clause-told
returns-in-Err-clause-told g c clean s at =
    let h = c.in-Err.ensures in
    inr (
      refl,
      act_undone g.S.Store c.args.desk.now c.apply.new.self s _ clean at c.in-Err.field-0 (λ e. h.no_memory (ap (λ (x : DeskFault). Err x) e))
          (λ e. h.store_failed clean s at (ap (λ (x : DeskFault). Err x) e)) (λ e. h.stops (ap (λ (x : DeskFault). Err x) e)) (λ e. h.stopped (ap (λ (x : DeskFault). Err x) e)),
    )

pub returns-in-Ok-clause-rests : goal.returns-in-Ok-clause-rests
returns-in-Ok-clause-rests g c clean s at leaves on = c.in-Ok.ensures.rests clean s at leaves

pub returns-in-Err-clause-rests : goal.returns-in-Err-clause-rests
returns-in-Err-clause-rests g c clean s at leaves =
    let h = c.in-Err.ensures in
    act_rests g.S.Store c.args.desk.now c.apply.new.self s s clean at c.in-Err.field-0 (λ e. h.no_memory (ap (λ (x : DeskFault). Err x) e))
    (λ e. h.stops (ap (λ (x : DeskFault). Err x) e)) (λ e. h.stopped (ap (λ (x : DeskFault). Err x) e))

pub returns-in-Ok-clause-good : goal.returns-in-Ok-clause-good
returns-in-Ok-clause-good g c = record { moment = c.bounds.ensures; request = subst IsRequest c.request.view_is c.request.invariant }

pub returns-in-Err-clause-good : goal.returns-in-Err-clause-good
returns-in-Err-clause-good g c = record { moment = c.bounds.ensures; request = subst IsRequest c.request.view_is c.request.invariant }
