use Rattle.std.proofs.Common.{length}
use Rattle.bike_recognition.proofs.earlier_versions.stands.+all_stand.Given as goal

abbrev pub decreases-all_stand : goal.decreases-all_stand
decreases-all_stand g l = length l.tables.now
