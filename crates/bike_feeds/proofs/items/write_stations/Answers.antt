use Rattle.std.proofs.Common.{refl, arith, ◌∙◌, true}
use Rattle.std.specs.Prelude.{None, Some, option_map}
use Rattle.bike_queries.specs.After.{station_of}
use Rattle.bike_queries.specs.Pages.{IsNamedStation}
use Rattle.bike_feeds.proofs.DeskLemmas.{stays_asked}
use Rattle.bike_feeds.proofs.Lists.{stations}
use Rattle.bike_feeds.proofs.NameLemmas.{told_begins, told_later, told_asked}
use Rattle.bike_feeds.proofs.WalkLemmas.{begins, begins_asked, walk_begins, walk_goes, walk_ends, walk_cut, asked_failed, write_failed, begun_under, behind_under}
use Rattle.bike_feeds.proofs.PageLemmas.{none_ahead, next_is, ahead_asked, still_ahead}
use Rattle.bike_feeds.proofs.StatusLemmas.{station_writes}
use Rattle.bike_feeds.proofs.items.write_stations.Goals as goal

pub returns-in_err-translated : goal.returns-in_err-translated
returns-in_err-translated g c =
    asked_failed g.S.Store (stations c.args.system.now) c.in_err-translated.field-0.0 _ c.from_residual.ensures.1
    (begun_under g.S.Store (stations c.args.system.now) (begins g.S.Store (stations c.args.system.now) c.requires.going c.requires.place.0 (λ s. refl)))
    c.in_err-translated.ensures.query c.in_err-translated.ensures.takes_none

pub returns-in_err-next : goal.returns-in_err-next
returns-in_err-next g c =
    asked_failed g.S.Store (stations c.args.system.now) c.in_err-next.field-0.0 _ c.from_residual-in_err-next.ensures.1
    (begun_under g.S.Store (stations c.args.system.now)
    (begins_asked g.S.Store (stations c.args.system.now) c.in_ok-translated.translated c.requires.going c.requires.place.0 (λ s. refl) c.in_ok-translated.ensures.query))
    c.in_err-next.ensures.query c.in_err-next.ensures.takes_none

pub stations-init : goal.stations-init
stations-init g c = (
  walk_begins g.S.Store (stations c.args.system.now) c.in_ok-next.next (option_map (λ x. station_of x.info) c.in_ok-next.next)
      (begins_asked g.S.Store (stations c.args.system.now) c.in_ok-translated.translated c.requires.going c.requires.place.0 (λ s. refl) c.in_ok-translated.ensures.query) c.in_ok-next.ensures.query
      (λ clean s at says. next_is (IsNamedStation true s) (λ x. station_of x.info) (λ e x is. is.0) s None _ _
      (says ((told_begins g.S.Store c.in_ok-translated.translated c.in_ok-translated.ensures.query c.in_ok-next.ensures.query).are clean s at)
      (none_ahead (IsNamedStation true s) s None _ c.new-page.ensures.items))),
  told_begins g.S.Store c.in_ok-translated.translated c.in_ok-translated.ensures.query c.in_ok-next.ensures.query,
  ahead_asked g.S.Store (IsNamedStation true) c.in_ok-next.next None _ _
      (stays_asked g.S.Store c.in_ok-translated.translated c.requires.going c.in_ok-translated.ensures.query) c.in_ok-next.ensures.query
      (λ clean s at says. says ((told_begins g.S.Store c.in_ok-translated.translated c.in_ok-translated.ensures.query c.in_ok-next.ensures.query).are clean s at)
      (none_ahead (IsNamedStation true s) s None _ c.new-page.ensures.items)),
)

pub returns-in_default : goal.returns-in_default
returns-in_default g c = walk_ends g.S.Store (stations c.args.system.now) tt (rw c.in_default.is at c.stations.invariant.0)

pub returns-in_err-write_named : goal.returns-in_err-write_named
returns-in_err-write_named g c =
    write_failed g.S.Store (stations c.args.system.now) _ c.from_residual-in_err-write_named.ensures.1 (behind_under g.S.Store (stations c.args.system.now)
    (station_writes g.S.Store c.args.system.now c.in-Some.named (rw c.in-Some.is at c.stations.invariant.0) (rw c.in-Some.is at c.stations.invariant.2)
    c.in_err-write_named.ensures.wrote c.in_err-write_named.ensures.place))
    c.in_err-write_named.ensures.outcome

pub returns-in_err-next-2 : goal.returns-in_err-next-2
returns-in_err-next-2 g c =
    asked_failed g.S.Store (stations c.args.system.now) c.in_err-next-2.field-0.0 _ c.from_residual-in_err-next-2.ensures.1 (behind_under g.S.Store (stations c.args.system.now)
    (station_writes g.S.Store c.args.system.now c.in-Some.named (rw c.in-Some.is at c.stations.invariant.0) (rw c.in-Some.is at c.stations.invariant.2)
    c.in_ok-write_named.ensures.wrote c.in_ok-write_named.ensures.place))
    c.in_err-next-2.ensures.query c.in_err-next-2.ensures.takes_none

pub stations-preserved : goal.stations-preserved
stations-preserved g c = (
  walk_goes g.S.Store (stations c.args.system.now) c.station_id-station.result.now c.in_ok-next-2.next (option_map (λ x. station_of x.info) c.in_ok-next-2.next)
      (station_writes g.S.Store c.args.system.now c.in-Some.named (rw c.in-Some.is at c.stations.invariant.0) (rw c.in-Some.is at c.stations.invariant.2)
      c.in_ok-write_named.ensures.wrote c.in_ok-write_named.ensures.place)
      c.in_ok-next-2.ensures.query c.station_id-station.ensures
      (λ clean s at says. next_is (IsNamedStation true s) (λ x. station_of x.info) (λ e x is. is.0) s (Some c.station_id-station.result.now) _ _
      (says (told_asked g.S.Store c.stations.invariant.1 c.in_ok-next-2.ensures.query clean s at) (still_ahead g.S.Store (IsNamedStation true) c.in-Some.named _ c.station_id-station.result.now
      (λ s e is. c.station_id-station.ensures ∙ is.0.1) (rw c.in-Some.is at c.stations.invariant.2) c.in_ok-next-2.ensures.query clean s at))),
  told_later g.S.Store c.stations.invariant.1 c.in_ok-next-2.ensures.query.clean,
  ahead_asked g.S.Store (IsNamedStation true) c.in_ok-next-2.next (Some c.station_id-station.result.now) _ _ c.stations.invariant.0.stays c.in_ok-next-2.ensures.query
      (λ clean s at says. says (told_asked g.S.Store c.stations.invariant.1 c.in_ok-next-2.ensures.query clean s at)
      (still_ahead g.S.Store (IsNamedStation true) c.in-Some.named _ c.station_id-station.result.now
      (λ s e is. c.station_id-station.ensures ∙ is.0.1) (rw c.in-Some.is at c.stations.invariant.2) c.in_ok-next-2.ensures.query clean s at)),
)

pub returns : goal.returns
returns g c = walk_cut g.S.Store (stations c.args.system.now) c.stations.invariant.0 (omega (arith, c.stations-test.false, c.count.ensures))
