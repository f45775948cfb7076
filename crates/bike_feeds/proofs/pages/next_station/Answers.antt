use Rattle.std.specs.Prelude.{option_map, true}
use Rattle.bike_queries.specs.Pages.{IsNamedStation}
use Rattle.bike_feeds.proofs.NameLemmas.{all_named, answers_so, unasked, no_want_so}
use Rattle.bike_feeds.proofs.PageLemmas.{takes_next, takes_first}
use Rattle.bike_feeds.proofs.pages.next_station.Goals as goal

pub returns-in-Some-clause-query : goal.returns-in-Some-clause-query
returns-in-Some-clause-query g c =
    unasked g.S.Store _ c.requires (λ s told ahead. takes_next (IsNamedStation true s) s (option_map (λ id. id.now) c.args.after) _ c.in-Some.next _
    (rw c.in-Some.is at c.pop_front.ensures.items) ahead)

pub returns-in_err-more-clause-takes_none : goal.returns-in_err-more-clause-takes_none
returns-in_err-more-clause-takes_none g c = no_want_so c.in_err-more.field-0.0 _ c.from_residual.ensures.1 c.in_err-more.ensures.takes_none

pub returns-clause-query : goal.returns-clause-query
returns-clause-query g c =
    answers_so g.S.Store c.in_ok-more.more c.pop_front-2.result (λ s are told ahead. takes_first (IsNamedStation true s) s
    (option_map (λ id. id.now) c.args.after) _ c.pop_front-2.result _ c.pop_front-2.ensures.items c.pop_front-2.ensures.rest (all_named s c.args.translated told _ _ are))
    c.in_ok-more.ensures.query
