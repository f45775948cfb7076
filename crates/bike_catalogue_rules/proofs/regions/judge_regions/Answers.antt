use Rattle.bike_judges.proofs.ReadsLaw.{reads_told}
use Rattle.bike_catalogue_rules.proofs.Judged.{regions_judged}
use Rattle.bike_catalogue_rules.proofs.regions.judge_regions.Goals as goal

pub returns : goal.returns
returns g c = reads_told c.judge_lines.ensures (λ db ours found finds. regions_judged db c.new.result.before c.new.ensures.before found finds)
