use Rattle.bike_schema.proofs.MakesLemmas.{writes_told}
use Rattle.bike_writes.proofs.TextLemmas.{bindings}
use Rattle.bike_writes.proofs.OrderTexts.{adds_order}
use Rattle.bike_writes.proofs.orders.add_order.Goals as goal

pub returns : goal.returns
returns g c = writes_told (adds_order c.args.order c.args.truck c.args.from_end c.args.to_end c.args.type_id c.args.count) c.run.ensures (search bindings)
