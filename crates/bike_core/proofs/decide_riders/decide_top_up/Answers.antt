use Rattle.std.proofs.Common.{ap, ◌∙◌}
use Rattle.bike_core.proofs.Rentals.{top_up_entry, top_up_decided, top_up_found}
use Rattle.bike_core.proofs.decide_riders.decide_top_up.Goals as goal

pub returns-clause-decides : goal.returns-clause-decides
returns-clause-decides c = λ s e. rw c.balance_reply.ensures
    (top_up_decided c.args.view.now c.args.now c.args.rider c.args.amount c.in-Some.row c.booked-booked.result c.in-Some.is c.if-view.false
    (c.booked-booked.ensures.entry ∙ c.top_up.ensures ∙ ap (λ n. top_up_entry n c.args.rider c.args.amount c.args.now) c.in-Some-next_entry.ensures)
    (rw c.top_up.ensures at c.booked-booked.ensures.balance) c.booked-booked.ensures.refunded s e)

pub returns-clause-found : goal.returns-clause-found
returns-clause-found c = λ s sound e. rw c.balance_reply.ensures
    (top_up_found c.args.view.now c.args.now c.args.rider c.args.amount c.in-Some.row c.booked-booked.result c.in-Some.is c.if-view.false
    (c.booked-booked.ensures.entry ∙ c.top_up.ensures ∙ ap (λ n. top_up_entry n c.args.rider c.args.amount c.args.now) c.in-Some-next_entry.ensures)
    (rw c.top_up.ensures at c.booked-booked.ensures.balance) c.booked-booked.ensures.refunded s e)
