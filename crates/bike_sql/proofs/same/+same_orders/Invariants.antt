-- Each call is on shorter lists.
use Rattle.std.proofs.Common.{length}
use Rattle.bike_sql.proofs.same.+same_orders.Given as goal

abbrev pub decreases-same_orders : goal.decreases-same_orders
decreases-same_orders l = length l.a.now
