use Rattle.std.proofs.Common.{Some, refl}
use Rattle.bike_commands.specs.declared.command.Command.TheVariants as command
use Rattle.bike_core.proofs.Views.{refused_as}
use Rattle.bike_core.proofs.Rentals.{end_decided, end_found}
use Rattle.bike_core.proofs.decide_rentals.decide_end.Goals as goal

pub returns-in-Err-clause-decides : goal.returns-in-Err-clause-decides
returns-in-Err-clause-decides c =
    λ s e. refused_as s c.args.view.now (command.End c.args.bike c.args.station.now c.args.dock) (Some c.in-Err.refusal) e (c.in-Err.ensures.tests c.args.bike c.args.station.now)

pub returns-clause-decides : goal.returns-clause-decides
returns-clause-decides c = λ s e. rw (c.ended_reply.ensures, c.closing.ensures, c.get-dock.ensures.value, c.get.ensures.value)
    (end_decided c.args.view.now c.args.now c.args.bike c.args.dock c.args.station c.in-Ok.ending.bike.now c.in-Ok.ending.rental.now
    (record { ref_ptr = (0, 0); now = c.in-Ok.ending.bike.now.type_id }) c.standing_of-was.result c.fare_booked-booked.result
    (record { type_is = refl; state_is = c.standing_of-was.ensures.state; place_is = c.standing_of-was.ensures.place })
    (record { entry_is = c.fare_booked-booked.ensures.entry; balance_is = c.fare_booked-booked.ensures.balance; refunded_is = c.fare_booked-booked.ensures.refunded })
    (c.in-Ok.ensures.tests c.args.bike c.args.station.now) c.in-Ok.ensures.bike c.in-Ok.ensures.rental s e)

pub returns-clause-found : goal.returns-clause-found
returns-clause-found c = λ s sound e. rw (c.ended_reply.ensures, c.closing.ensures, c.get-dock.ensures.value, c.get.ensures.value)
    (end_found c.args.view.now c.args.now c.args.bike c.args.dock c.args.station c.in-Ok.ending.bike.now c.in-Ok.ending.rental.now _ c.standing_of-was.result c.fare_booked-booked.result
    (record { type_is = refl; state_is = c.standing_of-was.ensures.state; place_is = c.standing_of-was.ensures.place })
    (record { entry_is = c.fare_booked-booked.ensures.entry; balance_is = c.fare_booked-booked.ensures.balance; refunded_is = c.fare_booked-booked.ensures.refunded })
    (c.in-Ok.ensures.tests c.args.bike c.args.station.now) c.in-Ok.ensures.bike c.in-Ok.ensures.rental s e sound (rw c.get-dock.ensures.value at c.get-dock.ensures.low))
