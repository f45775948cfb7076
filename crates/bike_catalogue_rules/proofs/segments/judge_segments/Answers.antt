use Rattle.bike_judges.proofs.ReadsLaw.{reads_told}
use Rattle.bike_catalogue_rules.proofs.Judged.{segments_judged}
use Rattle.bike_catalogue_rules.proofs.segments.judge_segments.Goals as goal

pub returns : goal.returns
returns g c = reads_told c.judge_lines.ensures segments_judged
