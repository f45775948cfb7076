use Rattle.bike_sql.proofs.ChainLaws.{reads_as, reads_both}
use Rattle.bike_schema.proofs.AnswerLemmas.{reads_weaker}
use Rattle.bike_recognition.proofs.EarlierVersions.KeptLemmas.{keyed_lies, either_lies}
use Rattle.bike_recognition.proofs.earlier_versions.kept.kept_lies.Goals as goal

pub returns-then-branch : goal.returns-then-branch
returns-then-branch g c = reads_as c.in_ok-lies_with.ensures (λ db is. keyed_lies db _ c.if-branch.true is)

pub returns : goal.returns
returns g c = reads_weaker (reads_both c.in_ok-lies_with.ensures c.lies_with-2.ensures) (λ db lies both. either_lies db _ lies c.if-branch.false both.0 both.1)
