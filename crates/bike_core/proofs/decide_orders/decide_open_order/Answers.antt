use Rattle.std.proofs.Common.{Some}
use Rattle.bike_commands.specs.declared.command.Command.TheVariants as command
use Rattle.bike_core.proofs.Views.{refused_as}
use Rattle.bike_core.proofs.Orders.{open_order_decided}
use Rattle.bike_core.proofs.decide_orders.decide_open_order.Goals as goal

pub returns-in-Err-clause-decides : goal.returns-in-Err-clause-decides
returns-in-Err-clause-decides c =
    λ s now e. refused_as s c.args.view.now (command.OpenOrder c.args.truck c.args.from_end.now c.args.to_end.now c.args.type_id.now c.args.count) (Some c.in-Err.refusal) e
    (c.in-Err.ensures.tests c.args.truck c.args.type_id.now)

pub returns-clause-decides : goal.returns-clause-decides
returns-clause-decides c = λ s now e. rw (c.get-3.ensures.value, c.get-2.ensures.value, c.in-Ok.ensures.number)
    (open_order_decided s c.args.view.now now c.args.truck c.args.count c.args.from_end c.args.to_end c.args.type_id e (c.in-Ok.ensures.tests c.args.truck c.args.type_id.now))
