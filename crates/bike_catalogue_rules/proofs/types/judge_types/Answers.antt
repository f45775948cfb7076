use Rattle.bike_judges.proofs.ReadsLaw.{reads_told}
use Rattle.bike_catalogue_rules.proofs.Judged.{types_judged}
use Rattle.bike_catalogue_rules.proofs.types.judge_types.Goals as goal

pub returns : goal.returns
returns g c = reads_told c.judge_lines.ensures (λ db ours found finds. types_judged db c.new.result.before c.new.ensures.before found ours finds)
