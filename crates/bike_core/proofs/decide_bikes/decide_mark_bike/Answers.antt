use Rattle.std.proofs.Common.{refl}
use Rattle.bike_core.proofs.Marks.{bike_mark_found}
use Rattle.bike_core.proofs.decide_bikes.decide_mark_bike.Goals as goal

pub returns-clause-found : goal.returns-clause-found
returns-clause-found c = λ s now sound e. rw (c.moved.ensures, c.put_from-moved.ensures, c.get.ensures.value)
    (bike_mark_found c.args.view.now c.args.bike c.args.is_disabled _ c.in-Some.row _ c.standing_of-was.result s now sound e c.in-Some.is
    (record { type_is = refl; state_is = c.standing_of-was.ensures.state; place_is = c.standing_of-was.ensures.place }))
