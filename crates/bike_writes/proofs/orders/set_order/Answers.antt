use Rattle.bike_schema.proofs.MakesLemmas.{writes_told}
use Rattle.bike_writes.proofs.TextLemmas.{bindings}
use Rattle.bike_writes.proofs.OrderTexts.{sets_order}
use Rattle.bike_writes.proofs.orders.set_order.Goals as goal

pub returns : goal.returns
returns g c = writes_told (sets_order c.args.order c.args.delivered c.args.is_open) c.run.ensures (search bindings)
