use Rattle.std.proofs.Common.{◌≡◌, is_some, None, sym, ap, ◌∙◌}
use Rattle.std.specs.FinMap as map
use Rattle.bike_operator.specs.declared.view.View.{View}
use Rattle.bike_laws.proofs.SingleSteps.TestLemmas.{no_station}
use Rattle.bike_core.proofs.Stations.{none_docked, none_broken}
use Rattle.bike_core.proofs.decide_catalogue.decide_add_station.Goals as goal

pub returns-clause-found : goal.returns-clause-found
returns-clause-found c = λ s sound e.
    let id = c.args.station.now.station_id in
    let absent : map.get s.stations id ≡ None =
    no_station (map.get s.stations id) (ap (λ (w : View). is_some w.station) (sym e) ∙ sym c.is_some.ensures ∙ c.if-is_some.false) in
    rw c.done.ensures (record {
      moved = tt;
      change = record { absent = absent; none_docked = none_docked s sound id absent; none_broken = none_broken s sound id absent c.args.station.now.docks };
      entry = tt;
    })
