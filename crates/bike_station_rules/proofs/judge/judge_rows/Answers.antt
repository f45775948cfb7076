use Rattle.std.proofs.Common.{ap}
use Rattle.bike_judges.proofs.ReadsLaw.{reads_told}
use Rattle.bike_station_rules.specs.declared.station_rows.StationTest.{StationTest}
use Rattle.bike_station_rules.proofs.Judged.{rows_judged}
use Rattle.bike_station_rules.proofs.judge.judge_rows.Goals as goal

pub returns : goal.returns
returns g c =
    reads_told c.judge_lines.ensures (λ db ours found told. rows_judged db ours c.args.now c.new.result.test.now
    (ap (λ (t : StationTest). t.now) c.new.ensures.test) found c.new.result.before c.new.ensures.before told)
