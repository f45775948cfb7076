use Rattle.std.proofs.Common.{Some}
use Rattle.bike_commands.specs.declared.command.Command.TheVariants as command
use Rattle.bike_core.proofs.Views.{refused_as}
use Rattle.bike_core.proofs.Rentals.{recover_decided, recover_found}
use Rattle.bike_core.proofs.decide_rentals.decide_recover.Goals as goal

pub returns-in-Err-clause-decides : goal.returns-in-Err-clause-decides
returns-in-Err-clause-decides c = λ s e. refused_as s c.args.view.now (command.Recover c.args.rental) (Some c.in-Err.refusal) e (c.in-Err.ensures.tests c.args.rental)

pub returns-clause-decides : goal.returns-clause-decides
returns-clause-decides c = λ s e. rw (c.ended_reply.ensures, c.closing.ensures)
    (recover_decided c.args.view.now c.args.now c.args.rental c.in-Ok.row.now c.fare_booked-booked.result
    (record { entry_is = c.fare_booked-booked.ensures.entry; balance_is = c.fare_booked-booked.ensures.balance; refunded_is = c.fare_booked-booked.ensures.refunded })
    (c.in-Ok.ensures.tests c.args.rental) c.in-Ok.ensures.rental c.recovered.result c.recovered.ensures s e)

pub returns-clause-found : goal.returns-clause-found
returns-clause-found c = λ s sound e. rw (c.ended_reply.ensures, c.closing.ensures)
    (recover_found c.args.view.now c.args.now c.args.rental c.in-Ok.row.now c.fare_booked-booked.result
    (record { entry_is = c.fare_booked-booked.ensures.entry; balance_is = c.fare_booked-booked.ensures.balance; refunded_is = c.fare_booked-booked.ensures.refunded })
    (c.in-Ok.ensures.tests c.args.rental) c.in-Ok.ensures.rental c.recovered.result c.recovered.ensures s e sound)
