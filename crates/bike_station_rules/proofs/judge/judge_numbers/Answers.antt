use Rattle.bike_judges.proofs.ReadsLaw.{reads_told}
use Rattle.bike_station_rules.proofs.Judged.{numbers_judged}
use Rattle.bike_station_rules.proofs.judge.judge_numbers.Goals as goal

pub returns : goal.returns
returns g c = reads_told c.judge_lines.ensures (λ db ours found told. numbers_judged db ours found c.new-judge.result.account c.new-judge.ensures.account c.new-judge.result.closed c.new-judge.ensures.closed told)
