use Rattle.bike_recognition.proofs.EarlierVersions.OldTexts.{first_rowids, second_rowids, third_rowids}
use Rattle.bike_recognition.proofs.earlier_versions.earlier.Earlier.stations_rowids.Goals as goal

pub returns-in-First : goal.returns-in-First
returns-in-First c = rw c.in-First.is first_rowids

pub returns-in-Second : goal.returns-in-Second
returns-in-Second c = rw c.in-Second.is second_rowids

pub returns-in-Third : goal.returns-in-Third
returns-in-Third c = rw c.in-Third.is third_rowids
