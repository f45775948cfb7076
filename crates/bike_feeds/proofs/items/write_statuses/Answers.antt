use Rattle.std.proofs.Common.{refl, arith, ◌∙◌}
use Rattle.std.specs.Prelude.{None, Some, option_map}
use Rattle.bike_queries.specs.After.{station_of}
use Rattle.bike_queries.specs.Pages.{IsStatusOf}
use Rattle.bike_feeds.proofs.DeskLemmas.{stays_asked}
use Rattle.bike_feeds.proofs.Lists.{statuses}
use Rattle.bike_feeds.proofs.WalkLemmas.{begins, begins_asked, walk_begins, walk_goes, walk_ends, walk_cut, asked_failed, write_failed, begun_under, behind_under}
use Rattle.bike_feeds.proofs.PageLemmas.{none_ahead, next_is, ahead_asked, still_ahead}
use Rattle.bike_feeds.proofs.StatusLemmas.{types_asked, types_later, status_writes}
use Rattle.bike_feeds.proofs.items.write_statuses.Goals as goal

pub returns-in_err-type_ids : goal.returns-in_err-type_ids
returns-in_err-type_ids g c =
    asked_failed g.S.Store statuses c.in_err-type_ids.field-0.0 _ c.from_residual.ensures.1
    (begun_under g.S.Store statuses (begins g.S.Store statuses c.requires.going c.requires.place.0 (λ s. refl)))
    c.in_err-type_ids.ensures.query c.in_err-type_ids.ensures.takes_none

pub returns-in_err-next : goal.returns-in_err-next
returns-in_err-next g c =
    asked_failed g.S.Store statuses c.in_err-next.field-0.0 _ c.from_residual-in_err-next.ensures.1
    (begun_under g.S.Store statuses (begins_asked g.S.Store statuses c.in_ok-type_ids.type_ids c.requires.going c.requires.place.0 (λ s. refl) c.in_ok-type_ids.ensures.query))
    c.in_err-next.ensures.query c.in_err-next.ensures.takes_none

pub stations-init : goal.stations-init
stations-init g c = (
  walk_begins g.S.Store statuses c.in_ok-next.next (option_map (λ x. station_of x.info) c.in_ok-next.next)
      (begins_asked g.S.Store statuses c.in_ok-type_ids.type_ids c.requires.going c.requires.place.0 (λ s. refl) c.in_ok-type_ids.ensures.query)
      (rw c.as_slice.ensures.value at c.in_ok-next.ensures.query)
      (λ clean s at says. next_is (IsStatusOf s c.in_ok-type_ids.type_ids.items) (λ x. station_of x.info) (λ e x is. is.0) s None _ _
      (says (none_ahead (IsStatusOf s c.in_ok-type_ids.type_ids.items) s None _ c.new-page.ensures.items))),
  types_asked g.S.Store (λ ids. ids.items) c.in_ok-type_ids.type_ids _ c.in_ok-type_ids.ensures.query c.in_ok-next.ensures.query,
  ahead_asked g.S.Store (λ s. IsStatusOf s c.in_ok-type_ids.type_ids.items) c.in_ok-next.next None _ _
      (stays_asked g.S.Store c.in_ok-type_ids.type_ids c.requires.going c.in_ok-type_ids.ensures.query)
      (rw c.as_slice.ensures.value at c.in_ok-next.ensures.query)
      (λ clean s at says. says (none_ahead (IsStatusOf s c.in_ok-type_ids.type_ids.items) s None _ c.new-page.ensures.items)),
)

pub returns-in_default : goal.returns-in_default
returns-in_default g c = walk_ends g.S.Store statuses tt (rw c.in_default.is at c.stations.invariant.0)

pub returns-in_err-write_report : goal.returns-in_err-write_report
returns-in_err-write_report g c =
    write_failed g.S.Store statuses _ c.from_residual-in_err-write_report.ensures.1 (behind_under g.S.Store statuses
    (status_writes g.S.Store c.in-Some.status (rw c.in-Some.is at c.stations.invariant.0) c.stations.invariant.1 (rw c.in-Some.is at c.stations.invariant.2)
    c.in_err-write_report.ensures.wrote c.in_err-write_report.ensures.place))
    c.in_err-write_report.ensures.outcome

pub returns-in_err-next-2 : goal.returns-in_err-next-2
returns-in_err-next-2 g c =
    asked_failed g.S.Store statuses c.in_err-next-2.field-0.0 _ c.from_residual-in_err-next-2.ensures.1 (behind_under g.S.Store statuses
    (status_writes g.S.Store c.in-Some.status (rw c.in-Some.is at c.stations.invariant.0) c.stations.invariant.1 (rw c.in-Some.is at c.stations.invariant.2)
    c.in_ok-write_report.ensures.wrote c.in_ok-write_report.ensures.place))
    c.in_err-next-2.ensures.query c.in_err-next-2.ensures.takes_none

pub stations-preserved : goal.stations-preserved
stations-preserved g c = (
  walk_goes g.S.Store statuses c.station_id-station.result.now c.in_ok-next-2.next (option_map (λ x. station_of x.info) c.in_ok-next-2.next)
      (status_writes g.S.Store c.in-Some.status (rw c.in-Some.is at c.stations.invariant.0) c.stations.invariant.1 (rw c.in-Some.is at c.stations.invariant.2)
      c.in_ok-write_report.ensures.wrote c.in_ok-write_report.ensures.place)
      (rw c.as_slice-in-stations.ensures.value at c.in_ok-next-2.ensures.query) c.station_id-station.ensures
      (λ clean s at says. next_is (IsStatusOf s c.in_ok-type_ids.type_ids.items) (λ x. station_of x.info) (λ e x is. is.0) s (Some c.station_id-station.result.now) _ _
      (says (still_ahead g.S.Store (λ s. IsStatusOf s c.in_ok-type_ids.type_ids.items) c.in-Some.status _ c.station_id-station.result.now
      (λ s e is. c.station_id-station.ensures ∙ is.0.1) (rw c.in-Some.is at c.stations.invariant.2) c.in_ok-next-2.ensures.query clean s at))),
  types_later g.S.Store c.stations.invariant.1 c.in_ok-next-2.ensures.query.clean,
  ahead_asked g.S.Store (λ s. IsStatusOf s c.in_ok-type_ids.type_ids.items) c.in_ok-next-2.next (Some c.station_id-station.result.now) _ _ c.stations.invariant.0.stays
      (rw c.as_slice-in-stations.ensures.value at c.in_ok-next-2.ensures.query)
      (λ clean s at says. says (still_ahead g.S.Store (λ s. IsStatusOf s c.in_ok-type_ids.type_ids.items) c.in-Some.status _ c.station_id-station.result.now
      (λ s e is. c.station_id-station.ensures ∙ is.0.1) (rw c.in-Some.is at c.stations.invariant.2) c.in_ok-next-2.ensures.query clean s at)),
)

pub returns : goal.returns
returns g c = walk_cut g.S.Store statuses c.stations.invariant.0 (omega (arith, c.stations-test.false, c.count.ensures))
