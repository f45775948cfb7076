use Rattle.std.proofs.Common.{ℕ, ap, ◌∙◌}
use Rattle.bike_sql.proofs.ChainLaws.{reads_both, reads_failed, reads_refused}
use Rattle.bike_ledger_rules.proofs.EntryVerdict.{entries_judged}
use Rattle.bike_ledger_rules.proofs.ReadLaws.{reads_ours}
use Rattle.bike_ledger_rules.proofs.entries.judge_entries.Goals as goal

pub returns-in_err-rentals : goal.returns-in_err-rentals
returns-in_err-rentals g c =
    reads_failed (reads_both c.in_ok-moment.ensures (reads_both c.in_ok-archived.ensures c.in_err-rentals.ensures))
    c.from_residual-in_err-rentals.ensures.0

pub returns-in_err-riders : goal.returns-in_err-riders
returns-in_err-riders g c =
    reads_failed (reads_both c.in_ok-moment.ensures (reads_both c.in_ok-archived.ensures (reads_both c.in_ok-rentals.ensures c.in_err-riders.ensures)))
    c.from_residual-in_err-riders.ensures.0

pub returns-in_err-fares : goal.returns-in_err-fares
returns-in_err-fares g c =
    reads_refused (reads_both c.in_ok-moment.ensures (reads_both c.in_ok-archived.ensures (reads_both c.in_ok-rentals.ensures c.in_ok-riders.ensures)))
    c.from_residual-in_err-fares.ensures.0

pub returns : goal.returns
returns g c =
    reads_ours
    (reads_both c.in_ok-moment.ensures (reads_both c.in_ok-archived.ensures
    (reads_both c.in_ok-rentals.ensures (reads_both c.in_ok-riders.ensures c.judge_lines.ensures))))
    (λ db ours found it earlier.
    entries_judged db ours c.in_ok-moment.moment it.0 c.in_ok-rentals.rentals it.1.1.0 c.in_ok-fares.fares c.in_ok-fares.ensures
    c.in_ok-riders.riders it.1.1.1.0 (c.in_ok-archived.archived.requests, c.from.result, c.in_ok-archived.archived.rentals)
    (ap (λ (n : ℕ). (c.in_ok-archived.archived.requests, n, c.in_ok-archived.archived.rentals)) c.from.ensures ∙ it.1.0) earlier found it.1.1.1.1)
