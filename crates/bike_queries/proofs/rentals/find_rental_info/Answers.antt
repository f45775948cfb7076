use Rattle.std.proofs.Common.{sym, ap, ◌∙◌, Some}
use Rattle.bike_ledger.specs.Ledger.{refunded_of}
use Rattle.bike_operator.specs.Operator.{item_numbered}
use Rattle.bike_schema.proofs.AnswerLemmas.{answers_then}
use Rattle.bike_queries.proofs.InfoLemmas.{rental_shown, no_rental_shown}
use Rattle.bike_queries.proofs.rentals.find_rental_info.Goals as goal

pub returns-in-Some : goal.returns-in-Some
returns-in-Some g c =
    answers_then _ _ c.in_ok-found.ensures (λ s m sound listing is. ap Some c.rental_info.ensures
    ∙ rental_shown (refunded_of c.args.rental s.entries.items) (item_numbered c.args.rental s.rentals) (c.in-Some.found, c.in-Some.refunded) (sym c.in-Some.is ∙ is))

pub returns-in-None : goal.returns-in-None
returns-in-None g c =
    answers_then _ _ c.in_ok-found.ensures (λ s m sound listing is. no_rental_shown (refunded_of c.args.rental s.entries.items) (item_numbered c.args.rental s.rentals) (sym c.in-None.is ∙ is))
