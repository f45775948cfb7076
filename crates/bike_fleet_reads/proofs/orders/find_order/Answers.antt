use Rattle.bike_schema.proofs.AnswerLemmas.{answers_made}
use Rattle.bike_fleet_reads.proofs.FoundLemmas.{order_found}
use Rattle.bike_fleet_reads.proofs.orders.find_order.Goals as goal

pub returns : goal.returns
returns g c = answers_made c.in_ok-row.ensures c.order_of.ensures (λ db x is held s h. order_found s h.listed h.sound h.listing c.args.order _ x (is s h) held)
