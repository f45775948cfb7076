-- Each call is on shorter lists.
use Rattle.std.proofs.Common.{length}
use Rattle.bike_sql.proofs.same.+same_keys.Given as goal

abbrev pub decreases-same_keys : goal.decreases-same_keys
decreases-same_keys l = length l.a.now
