use Rattle.bike_sql.proofs.ChainLaws.{reads_both, reads_failed}
use Rattle.bike_schema.specs.Tables.{tables_of}
use Rattle.bike_ledger_rules.proofs.ReadLaws.{reads_ours}
use Rattle.bike_ledger_rules.proofs.RentalFolds.{rentals_failing}
use Rattle.bike_ledger_rules.proofs.RentalVerdict.{rentals_judged}
use Rattle.bike_ledger_rules.proofs.rentals.judge_rentals.Goals as goal

pub returns-in_err-names : goal.returns-in_err-names
returns-in_err-names g c = reads_failed (reads_both c.in_ok-moment.ensures c.in_err-names.ensures) c.from_residual-in_err-names.ensures.0

pub returns-in_err-sums : goal.returns-in_err-sums
returns-in_err-sums g c =
    reads_failed (reads_both c.in_ok-moment.ensures (reads_both c.in_ok-names.ensures c.in_err-sums.ensures))
    c.from_residual-in_err-sums.ensures.0

pub returns : goal.returns
returns g c =
    let now = c.in_ok-moment.moment in
    reads_ours
    (reads_both c.in_ok-moment.ensures (reads_both c.in_ok-names.ensures (reads_both c.in_ok-sums.ensures c.judge_lines.ensures)))
    (λ db ours found it earlier.
    rentals_judged db earlier now it.0 found
    (rentals_failing db now c.in_ok-names.names it.1.0 c.in_ok-sums.sums it.1.1.0 found
    (λ v is. it.1.1.1 v (c.new.ensures.says (tables_of db).rentals v is))))
