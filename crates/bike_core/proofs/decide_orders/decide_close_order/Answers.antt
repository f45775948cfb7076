use Rattle.bike_core.proofs.Orders.{close_order_decided}
use Rattle.bike_core.proofs.decide_orders.decide_close_order.Goals as goal

pub returns-clause-decides : goal.returns-clause-decides
returns-clause-decides c = λ s now e. rw (c.done.ensures, c.get.ensures.value)
    (close_order_decided c.args.view.now c.args.order c.in-Some.row s now e c.in-Some.is c.if-not-row.false c.if-view-gt0.false)
