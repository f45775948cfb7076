use Rattle.std.proofs.Common.{◌∙◌}
use Rattle.bike_sql.proofs.ChainLaws.{reads_as}
use Rattle.bike_views.proofs.OpenLaws.{open_of}
use Rattle.bike_views.proofs.stored.find_listing.Goals as goal

pub returns : goal.returns
returns g c = open_of (reads_as c.in_ok-mark.ensures (λ db it s h are. c.is_some.ensures ∙ (it s h).0))
