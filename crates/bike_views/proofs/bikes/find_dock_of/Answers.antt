use Rattle.std.proofs.Common.{◌≡◌, Some, sym, ap, ◌∙◌}
use Rattle.bike_operator.specs.Counts.{is_broken}
use Rattle.bike_operator.specs.View.{is_broken_dock, is_in_broken_dock}
use Rattle.bike_schema.proofs.AnswerLemmas.{reads_weaker}
use Rattle.bike_views.specs.ViewAndDocks.{bike_docks, place_docks, station_docks}
use Rattle.bike_views.proofs.OpenLaws.{open_of}
use Rattle.bike_views.proofs.bikes.find_dock_of.Goals as goal

pub returns-in-Dock : goal.returns-in-Dock
returns-in-Dock g c = open_of (reads_weaker c.find_dock.ensures (λ db x it s h.
    let station = c.in-Dock.station in
    let broken : is_in_broken_dock s c.args.bike.now ≡ is_broken s station c.in-Dock.dock = ap (is_in_broken_dock s) c.in-Some.is ∙ ap (is_broken_dock s) c.in-Dock.is in
    let docks : bike_docks s c.args.bike.now ≡ Some (station_docks s station) = ap (bike_docks s) c.in-Some.is ∙ ap (place_docks s) c.in-Dock.is in
    let found : x.is_broken ≡ is_broken s station c.get.result = (it s h).0 in
    let number : is_broken s station c.get.result ≡ is_broken s station c.in-Dock.dock = ap (is_broken s station) c.get.ensures.value in
    (found ∙ number ∙ sym broken, (it s h).1 ∙ sym docks)))
