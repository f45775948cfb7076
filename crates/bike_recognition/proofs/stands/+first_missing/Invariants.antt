use Rattle.std.proofs.Common.{length}
use Rattle.bike_recognition.proofs.stands.+first_missing.Given as goal

abbrev pub decreases-first_missing : goal.decreases-first_missing
decreases-first_missing g l = length l.tables.now
