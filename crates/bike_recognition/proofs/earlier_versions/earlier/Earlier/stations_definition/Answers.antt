use Rattle.bike_recognition.proofs.EarlierVersions.OldTexts.{first_defined, second_defined, third_defined}
use Rattle.bike_recognition.proofs.earlier_versions.earlier.Earlier.stations_definition.Goals as goal

pub returns-in-First : goal.returns-in-First
returns-in-First c = rw c.in-First.is first_defined

pub returns-in-Second : goal.returns-in-Second
returns-in-Second c = rw c.in-Second.is second_defined

pub returns-in-Third : goal.returns-in-Third
returns-in-Third c = rw c.in-Third.is third_defined
