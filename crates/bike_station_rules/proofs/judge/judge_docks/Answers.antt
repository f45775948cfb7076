use Rattle.bike_judges.proofs.ReadsLaw.{reads_told}
use Rattle.bike_station_rules.proofs.Judged.{docks_judged}
use Rattle.bike_station_rules.proofs.judge.judge_docks.Goals as goal

pub returns : goal.returns
returns g c = reads_told c.judge_lines.ensures (λ db ours found told. docks_judged db ours found c.new.result.before c.new.ensures.before told)
