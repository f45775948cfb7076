use Rattle.bike_sql.proofs.ChainLaws.{reads_as, reads_both}
use Rattle.bike_schema.proofs.AnswerLemmas.{reads_weaker}
use Rattle.bike_recognition.proofs.EarlierVersions.StandsLemmas.{is_at_both, not_at}
use Rattle.bike_recognition.proofs.earlier_versions.stands.is_at.Goals as goal

pub returns-then-branch : goal.returns-then-branch
returns-then-branch g c = reads_weaker (reads_both c.in_ok-all_stand.ensures c.are_others_there.ensures) (λ db others both. is_at_both c.args.earlier db _ others both.0 c.if-branch.true both.1)

pub returns-else-branch : goal.returns-else-branch
returns-else-branch g c = reads_as c.in_ok-all_stand.ensures (λ db is. not_at c.args.earlier db _ is c.if-branch.false)
