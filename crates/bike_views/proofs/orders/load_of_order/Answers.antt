use Rattle.bike_views.proofs.OpenLaws.{open_weaker}
use Rattle.bike_views.proofs.orders.load_of_order.Goals as goal

pub returns : goal.returns
returns g c = open_weaker c.find_order_load.ensures (λ s m x it is load. it is)
