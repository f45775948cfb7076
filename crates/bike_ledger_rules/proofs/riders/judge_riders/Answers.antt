use Rattle.std.proofs.Common.{◌∙◌, ap, ℕ}
use Rattle.std.specs.List.{fold}
use Rattle.bike_schema.specs.Tables.{tables_of}
use Rattle.bike_readings.specs.ReadOff.{operator_of}
use Rattle.bike_sql.proofs.ChainLaws.{reads_both, reads_failed, reads_refused}
use Rattle.bike_ledger_rules.specs.Riders.{with_credit, with_ride}
use Rattle.bike_ledger_rules.proofs.ReadLaws.{reads_ours}
use Rattle.bike_ledger_rules.proofs.RiderRules.{riders_judged}
use Rattle.bike_ledger_rules.proofs.riders.judge_riders.Goals as goal

pub returns-in_err-balances : goal.returns-in_err-balances
returns-in_err-balances g c =
    reads_failed (reads_both c.in_ok-archived.ensures (reads_both c.in_ok-end.ensures c.in_err-balances.ensures))
    c.from_residual-in_err-balances.ensures.0

pub returns-in_err-zeros-2 : goal.returns-in_err-zeros-2
returns-in_err-zeros-2 g c =
    reads_refused (reads_both c.in_ok-archived.ensures (reads_both c.in_ok-end.ensures c.in_ok-balances.ensures))
    c.from_residual-in_err-zeros-2.ensures.0

pub returns-in_err-rides : goal.returns-in_err-rides
returns-in_err-rides g c =
    reads_failed (reads_both c.in_ok-archived.ensures (reads_both c.in_ok-end.ensures (reads_both c.in_ok-balances.ensures c.in_err-rides.ensures)))
    c.from_residual-in_err-rides.ensures.0

pub returns : goal.returns
returns g c =
    reads_ours
    (reads_both c.in_ok-archived.ensures (reads_both c.in_ok-end.ensures (reads_both c.in_ok-balances.ensures (reads_both c.in_ok-rides.ensures c.judge_rows.ensures))))
    (λ db ours found it.
    let sums = ap (λ sums. fold with_credit sums (operator_of (tables_of db)).entries.items) c.in_ok-zeros.ensures in
    let counts = ap (λ counts. fold with_ride counts (operator_of (tables_of db)).rentals.items) c.in_ok-zeros-2.ensures in
    riders_judged db ours c.in_ok-end.end it.1.0 _ (ap (λ (x : ℕ × ℕ × ℕ). x.1) it.0) _ (it.1.1.0 ∙ sums) _ (it.1.1.1.0 ∙ counts) found it.1.1.1.1)
