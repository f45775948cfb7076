use Rattle.bike_laws.proofs.ArchivingLaw.{nothing_shown, sums_kept}
use Rattle.bike_laws.proofs.ArchivedSound.{archived_sound}
use Rattle.bike_laws.proofs.laws.archiving_law.Goals as goal

pub returns-clause-lists : goal.returns-clause-lists
returns-clause-lists c = nothing_shown

pub returns-clause-sums : goal.returns-clause-sums
returns-clause-sums c = sums_kept

pub returns-clause-sound : goal.returns-clause-sound
returns-clause-sound c = archived_sound
