use Rattle.std.proofs.Common.{◌∙◌}
use Rattle.bike_sql.proofs.ChainLaws.{reads_as}
use Rattle.bike_views.proofs.OpenLaws.{open_of}
use Rattle.bike_views.proofs.docks.is_marked.Goals as goal

pub returns : goal.returns
returns g c = open_of (reads_as c.in_ok-mark.ensures (λ db it s h numbers. c.unwrap_or.ensures ∙ (it s h).1))
