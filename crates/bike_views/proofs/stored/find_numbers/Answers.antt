use Rattle.std.proofs.Common.{rules, subst}
use Rattle.bike_fleet_reads.specs.Fleet.{AreNumbersAt}
use Rattle.bike_views.proofs.OpenLaws.{open_as, open_refused}
use Rattle.bike_views.proofs.stored.find_numbers.Goals as goal

pub returns-in-Some : goal.returns-in-Some
returns-in-Some g c = open_as c.in_ok-numbers.ensures (λ s m read are. subst (AreNumbersAt s c.args.station.now) c.in-Some.is (read are))

pub returns-in-None : goal.returns-in-None
returns-in-None g c = open_refused c.in_ok-numbers.ensures (search rules)
