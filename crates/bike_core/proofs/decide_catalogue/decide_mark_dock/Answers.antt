use Rattle.std.proofs.Common.{◌≤◌, arith}
use Rattle.bike_core.proofs.Marks.{dock_mark_found}
use Rattle.bike_core.proofs.decide_catalogue.decide_mark_dock.Goals as goal

pub returns-clause-found : goal.returns-clause-found
returns-clause-found c = λ s now sound e.
    let low : 1 ≤ c.args.dock = rw c.get-2.ensures.value at c.get-2.ensures.low in
    let high : c.args.dock ≤ c.in-Some.row.docks = omega arith in
    rw (c.moved.ensures, c.get-3.ensures.value)
    (dock_mark_found c.args.view.now c.args.station c.args.dock c.args.is_broken c.held_in-held.result c.in-Some.row s now sound e c.in-Some.is low high c.held_in-held.ensures)
