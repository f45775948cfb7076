use Rattle.std.proofs.Common.{ℕ, Some, refl, ap₂, ◌∙◌}
use Rattle.bike_commands.specs.declared.command.Command.TheVariants as command
use Rattle.bike_core.proofs.Views.{refused_as}
use Rattle.bike_accepted.specs.declared.change.Change.TheVariants as change
use Rattle.bike_core.proofs.Orders.{IsDelivery, unload_decided, unload_found}
use Rattle.bike_core.proofs.decide_orders.decide_unload.Goals.{in-From, in-To}
use Rattle.bike_core.proofs.decide_orders.decide_unload.Goals as goal

pub returns-in-Err-clause-decides : goal.returns-in-Err-clause-decides
returns-in-Err-clause-decides c =
    λ s now e. refused_as s c.args.view.now (command.Unload c.args.truck c.args.order c.args.bike c.args.side c.args.dock) (Some c.in-Err.refusal) e (c.in-Err.ensures.tests c.args.bike)

pub returns-clause-decides : goal.returns-clause-decides
returns-clause-decides c = λ s now e.
    let put = rw (c.end_at-end.ensures, c.get-2.ensures.value) at c.put_at_end-moved.ensures in
    let delivery : IsDelivery c.args.side c.args.order c.in-Ok.unloading.order.now c.match-side.delivery = elim c.match-side.branch [
      | in-From w ↦ rw w.in-From.is w.delivery-is
      | in-To w ↦ rw w.in-To.is (w.delivery-is ∙ ap₂ (λ (n k : ℕ). Some (change.SetOrder n k c.in-Ok.unloading.order.now.is_open)) w.get.ensures.value w.delivered_with.ensures)
    ] in
    unload_decided c.args.view.now now c.args.truck c.args.order c.args.bike c.args.side c.args.dock c.in-Ok.unloading.bike.now c.in-Ok.unloading.order.now _ c.standing_of-was.result c.put_at_end-moved.result c.match-side.delivery
    (record { type_is = refl; state_is = c.standing_of-was.ensures.state; place_is = c.standing_of-was.ensures.place })
    (c.in-Ok.ensures.tests c.args.bike) c.in-Ok.ensures.bike c.in-Ok.ensures.order put delivery s e

pub returns-clause-found : goal.returns-clause-found
returns-clause-found c = λ s now sound e.
    let put = rw (c.end_at-end.ensures, c.get-2.ensures.value) at c.put_at_end-moved.ensures in
    let delivery : IsDelivery c.args.side c.args.order c.in-Ok.unloading.order.now c.match-side.delivery = elim c.match-side.branch [
      | in-From w ↦ rw w.in-From.is w.delivery-is
      | in-To w ↦ rw w.in-To.is (w.delivery-is ∙ ap₂ (λ (n k : ℕ). Some (change.SetOrder n k c.in-Ok.unloading.order.now.is_open)) w.get.ensures.value w.delivered_with.ensures)
    ] in
    unload_found c.args.view.now now c.args.truck c.args.order c.args.bike c.args.side c.args.dock c.in-Ok.unloading.bike.now c.in-Ok.unloading.order.now _ c.standing_of-was.result c.put_at_end-moved.result c.match-side.delivery
    (record { type_is = refl; state_is = c.standing_of-was.ensures.state; place_is = c.standing_of-was.ensures.place })
    (c.in-Ok.ensures.tests c.args.bike) c.in-Ok.ensures.bike c.in-Ok.ensures.order put delivery s e sound
