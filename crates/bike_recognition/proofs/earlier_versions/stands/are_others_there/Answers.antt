use Rattle.bike_sql.proofs.ChainLaws.{reads_as, reads_both}
use Rattle.bike_schema.proofs.AnswerLemmas.{reads_weaker}
use Rattle.bike_recognition.specs.EarlierVersions.Counts.{HasCounts}
use Rattle.bike_recognition.specs.EarlierVersions.Earlier.{IsKeptAlone}
use Rattle.bike_recognition.proofs.EarlierVersions.StandsLemmas.{both_told, never_told}
use Rattle.bike_recognition.proofs.earlier_versions.stands.are_others_there.Goals as goal

pub returns-then-branch : goal.returns-then-branch
returns-then-branch g c = reads_weaker (reads_both c.in_ok-old_stands.ensures c.is_kept_alone.ensures)
    (λ db others both. both_told {A = HasCounts db} {B = IsKeptAlone c.args.earlier db} _ others c.if-branch.true both.0 both.1)

pub returns-else-branch : goal.returns-else-branch
returns-else-branch g c = reads_as c.in_ok-old_stands.ensures (λ db is. never_told {A = HasCounts db} {B = IsKeptAlone c.args.earlier db} _ c.if-branch.false is)
