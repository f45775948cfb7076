use Rattle.std.proofs.Common.{refl, sym, ◌∙◌}
use Rattle.bike_sql.proofs.ChainLaws.{reads_as}
use Rattle.bike_views.proofs.LoadLemmas.{no_load}
use Rattle.bike_views.proofs.OpenLaws.{open_of, open_sound}
use Rattle.bike_views.proofs.orders.find_order_load.Goals as goal

pub returns-in-None : goal.returns-in-None
returns-in-None g c = open_sound _ (λ s m sound is. sym (no_load s c.args.number sound (sym is ∙ c.in-None.is)))

pub returns-in_ok-load-in-Some : goal.returns-in_ok-load-in-Some
returns-in_ok-load-in-Some g c = open_of (reads_as c.in_ok-load-in-Some.ensures (λ db it s h is. (it s h).1 c.in-Some.order (sym is ∙ c.in-Some.is) refl))
