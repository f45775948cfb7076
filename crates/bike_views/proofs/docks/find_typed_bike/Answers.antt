use Rattle.std.specs.FinMap as map
use Rattle.bike_sql.proofs.ChainLaws.{reads_as}
use Rattle.bike_fleet_reads.specs.Fleet.{numbered_pair}
use Rattle.bike_views.proofs.PartLemmas.{typed_none, typed_some}
use Rattle.bike_views.proofs.docks.find_typed_bike.Goals as goal

pub returns-in-None : goal.returns-in-None
returns-in-None g c = reads_as c.in_ok-find_default_plan.ensures (λ db it s h.
    typed_none (numbered_pair c.args.docked) (map.get s.types c.args.docked.bike.type_id) (it s h) c.in-None.is)

pub returns-in-Some : goal.returns-in-Some
returns-in-Some g c = reads_as c.in_ok-find_default_plan.ensures (λ db it s h.
    typed_some (numbered_pair c.args.docked) (map.get s.types c.args.docked.bike.type_id) (it s h) c.in-Some.is)
