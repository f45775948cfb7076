use Rattle.bike_book.specs.Tables.{Riders}
use Rattle.bike_ledger_rules.specs.Riders.{rider_line, rider_test}
use Rattle.bike_ledger_rules.proofs.ReadLaws.{reads_ours}
use Rattle.bike_ledger_rules.proofs.RiderLines.{line_begins}
use Rattle.bike_ledger_rules.proofs.Rows.{lines_failing}
use Rattle.bike_ledger_rules.proofs.Widths.{riders_wide}
use Rattle.bike_ledger_rules.proofs.riders.judge_rows.Goals as goal

pub returns : goal.returns
returns g c = reads_ours c.judge_lines.ensures (λ db ours found says.
    lines_failing Riders rider_line (rider_test c.args.archived c.args.balances c.args.rides) 5 line_begins db (riders_wide db ours.has) found
    (λ v is. says v (c.new.ensures.says _ v is)))
