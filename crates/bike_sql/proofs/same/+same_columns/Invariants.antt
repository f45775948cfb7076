-- Each call is on shorter lists.
use Rattle.std.proofs.Common.{length}
use Rattle.bike_sql.proofs.same.+same_columns.Given as goal

abbrev pub decreases-same_columns : goal.decreases-same_columns
decreases-same_columns l = length l.a.now
