use Rattle.std.proofs.Common.{false}
use Rattle.bike_sql.proofs.ChainLaws.{reads_as}
use Rattle.bike_views.proofs.names.view_to_change_name.Goals as goal

pub returns : goal.returns
returns g c = reads_as c.in_ok-find_named.ensures (λ db it s h. λ i. record (it s h i) { is_full = false })
