use Rattle.std.proofs.Common.{Some, ap, ◌∙◌}
use Rattle.bike_commands.specs.declared.command.Command.TheVariants as command
use Rattle.bike_core.proofs.Views.{refused_as}
use Rattle.bike_core.proofs.Rentals.{refund_entry, refund_decided, refund_found}
use Rattle.bike_core.proofs.decide_rentals.decide_refund.Goals as goal

pub returns-in-Err-clause-decides : goal.returns-in-Err-clause-decides
returns-in-Err-clause-decides c = λ s e. refused_as s c.args.view.now (command.Refund c.args.rental c.args.amount) (Some c.in-Err.refusal) e (c.in-Err.ensures.tests c.args.rental)

pub returns-clause-decides : goal.returns-clause-decides
returns-clause-decides c = λ s e. rw c.balance_reply.ensures
    (refund_decided c.args.view.now c.args.now c.args.rental c.args.amount c.in-Ok.refunding.rental.now c.booked-booked.result (c.in-Ok.ensures.tests c.args.rental) c.in-Ok.ensures.rental
    (c.booked-booked.ensures.entry ∙ c.refund-entry.ensures ∙ ap (λ n. refund_entry n c.in-Ok.refunding.rental.now c.args.amount c.args.now) c.in-Some.ensures)
    (rw c.refund-entry.ensures at c.booked-booked.ensures.balance) (c.booked-booked.ensures.refunded ∙ ap Some c.in-Ok.ensures.refunded) s e)

pub returns-clause-found : goal.returns-clause-found
returns-clause-found c = λ s sound e. rw c.balance_reply.ensures
    (refund_found c.args.view.now c.args.now c.args.rental c.args.amount c.in-Ok.refunding.rental.now c.booked-booked.result (c.in-Ok.ensures.tests c.args.rental) c.in-Ok.ensures.rental
    (c.booked-booked.ensures.entry ∙ c.refund-entry.ensures ∙ ap (λ n. refund_entry n c.in-Ok.refunding.rental.now c.args.amount c.args.now) c.in-Some.ensures)
    (rw c.refund-entry.ensures at c.booked-booked.ensures.balance) (c.booked-booked.ensures.refunded ∙ ap Some c.in-Ok.ensures.refunded) s e)
