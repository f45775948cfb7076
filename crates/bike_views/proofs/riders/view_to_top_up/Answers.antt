use Rattle.bike_sql.proofs.ChainLaws.{reads_as}
use Rattle.bike_views.proofs.OpenLaws.{open_both}
use Rattle.bike_views.proofs.riders.view_to_top_up.Goals as goal

pub returns : goal.returns
returns g c = reads_as (open_both c.in_ok-rider.ensures c.in_ok-is_ledger_full.ensures) (λ db it s h are amount.
    let full = it.1 s h are in
    λ i. record (c.empty_view.ensures i) { rider = it.0 s h i; is_ledger_full = full i; entries = are i })
