use Rattle.std.proofs.Common.{refl, arith}
use Rattle.bike_feeds.proofs.Lists.{listed}
use Rattle.bike_feeds.proofs.NameLemmas.{told_begins, told_later, named_writes}
use Rattle.bike_feeds.proofs.WalkLemmas.{begins, begins_asked, walk_begins, walk_goes, walk_ends, walk_cut, asked_failed, write_failed, begun_under, ahead_under, behind_under, grows}
use Rattle.bike_feeds.proofs.items.write_listed.Goals as goal

pub returns-in_err-translated : goal.returns-in_err-translated
returns-in_err-translated g c =
    let w = listed g.L.Listed.key g.L.Listed.element g.L.Listed.held c.args.system.now in
    asked_failed g.S.Store w c.in_err-translated.field-0.0 _ c.from_residual.ensures.1
    (begun_under g.S.Store w (begins g.S.Store w c.requires.going c.requires.place.0 (λ s. refl)))
    c.in_err-translated.ensures.query c.in_err-translated.ensures.takes_none

pub returns-in_err-next : goal.returns-in_err-next
returns-in_err-next g c =
    let w = listed g.L.Listed.key g.L.Listed.element g.L.Listed.held c.args.system.now in
    asked_failed g.S.Store w c.in_err-next.field-0.0 _ c.from_residual-in_err-next.ensures.1
    (begun_under g.S.Store w (begins_asked g.S.Store w c.in_ok-translated.translated c.requires.going c.requires.place.0 (λ s. refl) c.in_ok-translated.ensures.query))
    c.in_err-next.ensures.query c.in_err-next.ensures.takes_none

pub list-init : goal.list-init
list-init g c =
    let w = listed g.L.Listed.key g.L.Listed.element g.L.Listed.held c.args.system.now in (
      walk_begins g.S.Store w c.in_ok-next.next c.in_ok-next.next
          (begins_asked g.S.Store w c.in_ok-translated.translated c.requires.going c.requires.place.0 (λ s. refl) c.in_ok-translated.ensures.query)
          c.in_ok-next.ensures.query (λ clean s at h. h),
      told_begins g.S.Store c.in_ok-translated.translated c.in_ok-translated.ensures.query c.in_ok-next.ensures.query,
    )

pub returns-in_default : goal.returns-in_default
returns-in_default g c =
    let w = listed g.L.Listed.key g.L.Listed.element g.L.Listed.held c.args.system.now in
    walk_ends g.S.Store w tt (rw c.in_default.is at c.list.invariant.0)

pub returns-in_err-names : goal.returns-in_err-names
returns-in_err-names g c =
    let w = listed g.L.Listed.key g.L.Listed.element g.L.Listed.held c.args.system.now in
    asked_failed g.S.Store w c.in_err-names.field-0.0 _ c.from_residual-in_err-names.ensures.1
    (ahead_under g.S.Store w c.list.invariant.0) c.in_err-names.ensures.query c.in_err-names.ensures.takes_none

pub returns-in_err-write : goal.returns-in_err-write
returns-in_err-write g c =
    let w = listed g.L.Listed.key g.L.Listed.element g.L.Listed.held c.args.system.now in
    write_failed g.S.Store w _ c.from_residual-in_err-write.ensures.1 (behind_under g.S.Store w
    (named_writes g.S.Store g.L.Listed.tree g.L.Listed.element g.L.Listed.key g.L.Listed.held c.args.system.now c.in_ok-translated.translated
    c.in-Some.listed c.in_ok-names.names c.list.invariant.1 (rw c.in-Some.is at c.list.invariant.0) c.in_ok-names.ensures.query
    c.in_err-write.ensures.place c.in_err-write.ensures.wrote))
    c.in_err-write.ensures.outcome

pub returns-in_err-next-2 : goal.returns-in_err-next-2
returns-in_err-next-2 g c =
    let w = listed g.L.Listed.key g.L.Listed.element g.L.Listed.held c.args.system.now in
    asked_failed g.S.Store w c.in_err-next-2.field-0.0 _ c.from_residual-in_err-next-2.ensures.1 (behind_under g.S.Store w
    (named_writes g.S.Store g.L.Listed.tree g.L.Listed.element g.L.Listed.key g.L.Listed.held c.args.system.now c.in_ok-translated.translated
    c.in-Some.listed c.in_ok-names.names c.list.invariant.1 (rw c.in-Some.is at c.list.invariant.0) c.in_ok-names.ensures.query
    c.in_ok-write.ensures.place c.in_ok-write.ensures.wrote))
    c.in_err-next-2.ensures.query c.in_err-next-2.ensures.takes_none

pub list-smaller : goal.list-smaller
list-smaller g c =
    let more = grows (g.met.L.Listed.has_text c.args.system.now c.in-Some.listed c.in_ok-names.names) c.in_ok-write.ensures.wrote c.in_ok-write.ensures.outcome in
    omega (arith, more, c.list-test.true, c.count.ensures)

pub list-preserved : goal.list-preserved
list-preserved g c =
    let w = listed g.L.Listed.key g.L.Listed.element g.L.Listed.held c.args.system.now in (
      walk_goes g.S.Store w c.identifier-id.result.now c.in_ok-next-2.next c.in_ok-next-2.next
          (named_writes g.S.Store g.L.Listed.tree g.L.Listed.element g.L.Listed.key g.L.Listed.held c.args.system.now c.in_ok-translated.translated
          c.in-Some.listed c.in_ok-names.names c.list.invariant.1 (rw c.in-Some.is at c.list.invariant.0) c.in_ok-names.ensures.query
          c.in_ok-write.ensures.place c.in_ok-write.ensures.wrote)
          c.in_ok-next-2.ensures.query c.identifier-id.ensures (λ clean s at h. h),
      told_later g.S.Store c.list.invariant.1 (omega (arith, c.in_ok-names.ensures.query.clean, c.in_ok-next-2.ensures.query.clean)),
    )

pub returns : goal.returns
returns g c =
    let w = listed g.L.Listed.key g.L.Listed.element g.L.Listed.held c.args.system.now in
    walk_cut g.S.Store w c.list.invariant.0 (omega (arith, c.list-test.false, c.count.ensures))
