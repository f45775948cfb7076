use Rattle.bike_recognition.proofs.EarlierVersions.KeptTexts.{keyed_defined, plain_defined}
use Rattle.bike_recognition.proofs.earlier_versions.kept.definition.Goals as goal

pub returns-then-keyed : goal.returns-then-keyed
returns-then-keyed c = rw c.if-keyed.true keyed_defined

pub returns-else-keyed : goal.returns-else-keyed
returns-else-keyed c = rw c.if-keyed.false plain_defined
