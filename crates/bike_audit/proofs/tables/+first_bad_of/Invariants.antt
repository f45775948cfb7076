use Rattle.std.proofs.Common.{length}
use Rattle.bike_audit.proofs.tables.+first_bad_of.Given as goal

abbrev pub decreases-first_bad_of : goal.decreases-first_bad_of
decreases-first_bad_of g l = length l.tables.now
