use Rattle.std.proofs.Common.{Some, refl}
use Rattle.bike_commands.specs.declared.command.Command.TheVariants as command
use Rattle.bike_core.proofs.Views.{refused_as}
use Rattle.bike_core.proofs.Rentals.{start_decided, start_found}
use Rattle.bike_core.proofs.decide_rentals.decide_start.Goals as goal

pub returns-in-Err-clause-decides : goal.returns-in-Err-clause-decides
returns-in-Err-clause-decides c =
    λ s e. refused_as s c.args.view.now (command.Start c.args.rider c.args.station.now c.args.dock) (Some c.in-Err.refusal) e (c.in-Err.ensures.tests c.args.rider c.args.station.now)

pub returns-clause-decides : goal.returns-clause-decides
returns-clause-decides c = λ s e. rw (c.get-5.ensures.value, c.get-4.ensures.value, c.get-2.ensures.value, c.get.ensures.value, c.next_number-rental.ensures)
    (start_decided c.args.view.now c.args.now c.args.rider c.args.dock c.args.station c.plan_for.result
    (record { ref_ptr = (0, 0); now = c.in-Ok.starting.docked.now.type_id }) c.in-Ok.starting.rider.now c.in-Ok.starting.docked.now (c.in-Ok.ensures.tests c.args.rider c.args.station.now)
    c.in-Ok.ensures.rider c.in-Ok.ensures.docked c.plan_for.ensures refl s e)

pub returns-clause-found : goal.returns-clause-found
returns-clause-found c =
    λ s sound e. rw (c.get-5.ensures.value, c.get-4.ensures.value, c.get-3.ensures.value, c.get-2.ensures.value, c.get.ensures.value, c.get-dock.ensures.value, c.next_number-rental.ensures)
    (start_found c.args.view.now c.args.now c.args.rider c.args.dock c.args.station c.plan_for.result _ c.in-Ok.starting.rider.now c.in-Ok.starting.docked.now
    (c.in-Ok.ensures.tests c.args.rider c.args.station.now) c.in-Ok.ensures.rider c.in-Ok.ensures.docked c.plan_for.ensures refl s e sound (rw c.get-dock.ensures.value at c.get-dock.ensures.low))
