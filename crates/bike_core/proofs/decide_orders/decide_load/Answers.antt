use Rattle.std.proofs.Common.{Some, refl}
use Rattle.bike_commands.specs.declared.command.Command.TheVariants as command
use Rattle.bike_core.proofs.Views.{refused_as}
use Rattle.bike_core.proofs.Orders.{load_decided, load_found}
use Rattle.bike_core.proofs.decide_orders.decide_load.Goals as goal

pub returns-in-Err-clause-decides : goal.returns-in-Err-clause-decides
returns-in-Err-clause-decides c =
    λ s now e. refused_as s c.args.view.now (command.Load c.args.truck c.args.order c.args.bike) (Some c.in-Err.refusal) e (c.in-Err.ensures.tests c.args.order c.args.bike)

pub returns-clause-decides : goal.returns-clause-decides
returns-clause-decides c = λ s now e. rw (c.moved.ensures, c.put_from-moved.ensures, c.get-3.ensures.value, c.get-2.ensures.value, c.get.ensures.value)
    (load_decided c.args.view.now now c.args.truck c.args.order c.args.bike c.in-Ok.row.now _ c.standing_of-was.result
    (record { type_is = refl; state_is = c.standing_of-was.ensures.state; place_is = c.standing_of-was.ensures.place }) (c.in-Ok.ensures.tests c.args.order c.args.bike) c.in-Ok.ensures.bike s e)

pub returns-clause-found : goal.returns-clause-found
returns-clause-found c = λ s now sound e. rw (c.moved.ensures, c.put_from-moved.ensures, c.get-3.ensures.value, c.get-2.ensures.value, c.get.ensures.value)
    (load_found c.args.view.now now c.args.truck c.args.order c.args.bike c.in-Ok.row.now _ c.standing_of-was.result
    (record { type_is = refl; state_is = c.standing_of-was.ensures.state; place_is = c.standing_of-was.ensures.place }) (c.in-Ok.ensures.tests c.args.order c.args.bike) c.in-Ok.ensures.bike s e sound)
