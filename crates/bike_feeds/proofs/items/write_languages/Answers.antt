use Rattle.std.proofs.Common.{refl, arith}
use Rattle.bike_feeds.proofs.Lists.{languages, languages_all, language_first, language_next}
use Rattle.bike_feeds.proofs.WalkLemmas.{begins_behind, walk_begins, walk_writes, walk_goes, walk_ends, walk_cut, asked_failed, write_failed, begun_under, behind_under, grows, text_some}
use Rattle.bike_feeds.proofs.items.write_languages.Goals as goal

pub returns-in_err-write_language : goal.returns-in_err-write_language
returns-in_err-write_language g c =
    write_failed g.S.Store (languages c.args.system.now) _ c.from_residual.ensures.1 (begun_under g.S.Store (languages c.args.system.now)
    (begins_behind g.S.Store (languages c.args.system.now) c.args.system.now.language c.requires.going c.requires.place.0
    (languages_all c.args.system.now) (λ s. rw c.language.ensures at c.in_err-write_language.ensures.wrote) c.in_err-write_language.ensures.place))
    c.in_err-write_language.ensures.outcome

pub returns-in_err-next : goal.returns-in_err-next
returns-in_err-next g c =
    asked_failed g.S.Store (languages c.args.system.now) c.in_err-next.field-0.0 _ c.from_residual-in_err-next.ensures.1 (begun_under g.S.Store (languages c.args.system.now)
    (begins_behind g.S.Store (languages c.args.system.now) c.args.system.now.language c.requires.going c.requires.place.0
    (languages_all c.args.system.now) (λ s. rw c.language.ensures at c.in_ok-write_language.ensures.wrote) c.in_ok-write_language.ensures.place))
    c.in_err-next.ensures.query c.in_err-next.ensures.takes_none

pub languages-init : goal.languages-init
languages-init g c =
    walk_begins g.S.Store (languages c.args.system.now) c.in_ok-next.next c.in_ok-next.next
    (begins_behind g.S.Store (languages c.args.system.now) c.args.system.now.language c.requires.going c.requires.place.0
    (languages_all c.args.system.now) (λ s. rw c.language.ensures at c.in_ok-write_language.ensures.wrote) c.in_ok-write_language.ensures.place)
    c.in_ok-next.ensures.query (λ clean s at. language_first c.args.system.now c.in_ok-next.next s)

pub returns-in_default : goal.returns-in_default
returns-in_default g c = walk_ends g.S.Store (languages c.args.system.now) tt (rw c.in_default.is at c.languages.invariant)

pub returns-in_err-write_language-2 : goal.returns-in_err-write_language-2
returns-in_err-write_language-2 g c =
    write_failed g.S.Store (languages c.args.system.now) _ c.from_residual-in_err-write_language-2.ensures.1 (behind_under g.S.Store (languages c.args.system.now)
    (walk_writes g.S.Store (languages c.args.system.now) c.in-Some.language (rw c.in-Some.is at c.languages.invariant)
    (λ clean s at. c.in_err-write_language-2.ensures.wrote) c.in_err-write_language-2.ensures.place))
    c.in_err-write_language-2.ensures.outcome

pub returns-in_err-next-2 : goal.returns-in_err-next-2
returns-in_err-next-2 g c =
    asked_failed g.S.Store (languages c.args.system.now) c.in_err-next-2.field-0.0 _ c.from_residual-in_err-next-2.ensures.1 (behind_under g.S.Store (languages c.args.system.now)
    (walk_writes g.S.Store (languages c.args.system.now) c.in-Some.language (rw c.in-Some.is at c.languages.invariant)
    (λ clean s at. c.in_ok-write_language-2.ensures.wrote) c.in_ok-write_language-2.ensures.place))
    c.in_err-next-2.ensures.query c.in_err-next-2.ensures.takes_none

pub languages-smaller : goal.languages-smaller
languages-smaller g c =
    let more = grows (text_some c.in-Some.language) c.in_ok-write_language-2.ensures.wrote c.in_ok-write_language-2.ensures.outcome in
    omega (arith, more, c.languages-test.true, c.count.ensures)

pub languages-preserved : goal.languages-preserved
languages-preserved g c =
    walk_goes g.S.Store (languages c.args.system.now) c.in-Some.language c.in_ok-next-2.next c.in_ok-next-2.next
    (walk_writes g.S.Store (languages c.args.system.now) c.in-Some.language (rw c.in-Some.is at c.languages.invariant)
    (λ clean s at. c.in_ok-write_language-2.ensures.wrote) c.in_ok-write_language-2.ensures.place)
    c.in_ok-next-2.ensures.query refl (λ clean s at. language_next c.args.system.now c.in-Some.language c.in_ok-next-2.next s)

pub returns : goal.returns
returns g c = walk_cut g.S.Store (languages c.args.system.now) c.languages.invariant (omega (arith, c.languages-test.false, c.count.ensures))
