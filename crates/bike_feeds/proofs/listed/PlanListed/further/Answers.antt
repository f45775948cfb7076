use Rattle.std.proofs.Common.{ap₂}
use Rattle.bike_feed_texts.specs.Elements.{plan_tree}
use Rattle.bike_feeds.proofs.NameLemmas.{fails_so, fails_behind, both_answered, no_want_so}
use Rattle.bike_feeds.proofs.listed.PlanListed.further.Goals as goal

pub returns-in_err-names-clause-query : goal.returns-in_err-names-clause-query
returns-in_err-names-clause-query g c = fails_so g.S.Store c.in_err-names.field-0.0 _ c.from_residual.ensures.1 c.in_err-names.ensures.query

pub returns-in_err-names-clause-takes_none : goal.returns-in_err-names-clause-takes_none
returns-in_err-names-clause-takes_none g c = no_want_so c.in_err-names.field-0.0 _ c.from_residual.ensures.1 c.in_err-names.ensures.takes_none

pub returns-in_err-descriptions-clause-takes_none : goal.returns-in_err-descriptions-clause-takes_none
returns-in_err-descriptions-clause-takes_none g c =
    no_want_so c.in_err-descriptions.field-0.0 _ c.from_residual-in_err-descriptions.ensures.1 c.in_err-descriptions.ensures.takes_none

pub returns-in_err-descriptions-clause-query : goal.returns-in_err-descriptions-clause-query
returns-in_err-descriptions-clause-query g c =
    fails_behind g.S.Store c.in_ok-names.names c.in_err-descriptions.field-0.0 _ c.from_residual-in_err-descriptions.ensures.1 c.requires
    c.in_ok-names.ensures.query c.in_err-descriptions.ensures.query c.in_err-descriptions.ensures.takes_none

pub returns-clause-query : goal.returns-clause-query
returns-clause-query g c =
    both_answered g.S.Store c.in_ok-names.names c.in_ok-descriptions.descriptions _ c.requires
    (λ s names descriptions told x. ap₂ (plan_tree x c.args.self.now) (names told) (descriptions told))
    (rw c.plan_id-id.ensures at c.in_ok-names.ensures.query) (rw c.plan_id-id.ensures at c.in_ok-descriptions.ensures.query)
