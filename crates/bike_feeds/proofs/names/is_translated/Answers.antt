use Rattle.std.proofs.Common.{sym, subst}
use Rattle.bike_queries.specs.Pages.{IsTold}
use Rattle.bike_feeds.proofs.NameLemmas.{answers_so, told_first, no_want_so}
use Rattle.bike_feeds.proofs.names.is_translated.Goals as goal

pub returns-in_err-first-clause-takes_none : goal.returns-in_err-first-clause-takes_none
returns-in_err-first-clause-takes_none g c = no_want_so c.in_err-first.field-0.0 _ c.from_residual.ensures.1 c.in_err-first.ensures.takes_none

pub returns-clause-query : goal.returns-clause-query
returns-clause-query g c =
    answers_so g.S.Store c.in_ok-first.first c.is_some.result (λ s is. subst (λ t. IsTold t s) (sym c.is_some.ensures) (told_first s c.in_ok-first.first is))
    c.in_ok-first.ensures.query
