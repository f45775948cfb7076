use Rattle.std.proofs.Common.{rules}
use Rattle.bike_sql.proofs.ChainLaws.{reads_as, reads_failed}
use Rattle.bike_views.proofs.OpenLaws.{open_both}
use Rattle.bike_views.proofs.rentals.view_to_refund.Goals as goal

pub returns-in_err-is_ledger_full : goal.returns-in_err-is_ledger_full
returns-in_err-is_ledger_full g c = reads_failed (open_both c.in_ok-rental.ensures c.in_err-is_ledger_full.ensures) (search rules)

pub returns : goal.returns
returns g c = reads_as (open_both c.in_ok-rental.ensures c.in_ok-is_ledger_full.ensures) (λ db it s h are amount.
    let full = it.1 s h are in
    λ i. record (c.empty_view.ensures i) { rental = it.0 s h i; is_ledger_full = full i; entries = are i })
