use Rattle.std.proofs.Common.{sym, ap, refl, ◌∙◌}
use Rattle.std.specs.FinMap as map
use Rattle.bike_operator.specs.declared.view.View.{View}
use Rattle.bike_core.proofs.Moves.{station_shown}
use Rattle.bike_core.proofs.decide_catalogue.decide_add_docks.Goals as goal

pub returns-clause-found : goal.returns-clause-found
returns-clause-found c = λ s now sound e.
    rw c.moved.ensures (record {
      moved = station_shown s c.args.station.now (map.get s.stations c.args.station.now) c.in-Some.row refl (ap (λ (w : View). w.station) (sym e) ∙ c.in-Some.is);
      change = tt;
      entry = tt;
    })
