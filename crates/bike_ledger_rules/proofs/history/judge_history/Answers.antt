use Rattle.std.proofs.Common.{ℕ, ap, ◌∙◌}
use Rattle.bike_sql.proofs.ChainLaws.{reads_both, reads_failed}
use Rattle.bike_ledger_rules.proofs.HistoryVerdict.{history_judged}
use Rattle.bike_ledger_rules.proofs.ReadLaws.{reads_ours_as}
use Rattle.bike_ledger_rules.proofs.history.judge_history.Goals as goal

pub returns-in_err-by_order : goal.returns-in_err-by_order
returns-in_err-by_order g c =
    reads_failed (reads_both c.in_ok-moment.ensures (reads_both c.in_ok-archived.ensures c.in_err-by_order.ensures)) c.from_residual-in_err-by_order.ensures.0

pub returns-in_err-by_keys : goal.returns-in_err-by_keys
returns-in_err-by_keys g c =
    reads_failed (reads_both c.in_ok-moment.ensures (reads_both c.in_ok-archived.ensures (reads_both c.in_ok-by_order.ensures c.in_err-by_keys.ensures)))
    c.from_residual-in_err-by_keys.ensures.0

pub returns : goal.returns
returns g c =
    reads_ours_as
    (reads_both c.in_ok-moment.ensures (reads_both c.in_ok-archived.ensures (reads_both c.in_ok-by_order.ensures c.in_ok-by_keys.ensures)))
    (λ db ours it earlier.
    history_judged db ours c.in_ok-moment.moment it.0 c.count.result (c.count.ensures ∙ ap (λ (x : ℕ × ℕ × ℕ). x.0) it.1.0)
    c.in_ok-by_order.by_order c.in_ok-by_keys.by_keys c.least.result c.least.ensures it.1.1.0 it.1.1.1)
