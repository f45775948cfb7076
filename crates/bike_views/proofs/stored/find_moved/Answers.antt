use Rattle.std.proofs.Common.{rules, false, sym, subst, ◌∙◌}
use Rattle.bike_booking.specs.Stored.{IsMovedStored}
use Rattle.bike_views.proofs.OpenLaws.{open_as, open_failed, open_none, open_refused, open_then}
use Rattle.bike_views.proofs.StoredLemmas.{counts_stored, dock_stored, held_stored, types_stored}
use Rattle.bike_views.proofs.stored.find_moved.Goals as goal

pub returns-in-Away : goal.returns-in-Away
returns-in-Away g c = open_none _ (λ s m are. subst (IsMovedStored s m c.untouched.result) (sym c.in-Away.is) tt)

pub returns-in_err-counts-in-AtDock : goal.returns-in_err-counts-in-AtDock
returns-in_err-counts-in-AtDock g c = open_refused c.in_ok-numbers-in-AtDock.ensures (search rules)

pub returns-in_ok-counts-in-AtDock : goal.returns-in_ok-counts-in-AtDock
returns-in_ok-counts-in-AtDock g c = open_as c.in_ok-numbers-in-AtDock.ensures (λ s m it are.
    let numbers = c.in_ok-numbers-in-AtDock.numbers in
    let types = types_stored s m c.in-AtDock.at.station.now numbers (it are) in
    rw (c.stored_at.ensures, c.in-AtDock.is)
    (dock_stored s m c.in-AtDock.at.station.now numbers (it are) false, types, counts_stored s m c.in-AtDock.at _ _ c.counts_by_type.ensures.counts (c.as_slice.ensures.value ∙ types) c.in_ok-counts-in-AtDock.ensures))

pub returns-in_ok-numbers-in-AddDocks : goal.returns-in_ok-numbers-in-AddDocks
returns-in_ok-numbers-in-AddDocks g c = open_as c.in_ok-numbers-in-AddDocks.ensures (λ s m it are.
    rw (c.stored_at-in-AddDocks.ensures, c.in-AddDocks.is) (dock_stored s m c.in-AddDocks.station.now c.in_ok-numbers-in-AddDocks.numbers (it are) false))

pub returns-in_err-numbers-in-Marked : goal.returns-in_err-numbers-in-Marked
returns-in_err-numbers-in-Marked g c = open_failed (open_then c.in_ok-is_listed-in-Marked.ensures c.in_err-numbers-in-Marked.ensures) (search rules)

pub returns-in_err-counts-in-Marked : goal.returns-in_err-counts-in-Marked
returns-in_err-counts-in-Marked g c = open_refused (open_then c.in_ok-is_listed-in-Marked.ensures c.in_ok-numbers-in-Marked.ensures) (search rules)

pub returns-in_ok-counts-in-Marked : goal.returns-in_ok-counts-in-Marked
returns-in_ok-counts-in-Marked g c = open_as (open_then c.in_ok-is_listed-in-Marked.ensures c.in_ok-numbers-in-Marked.ensures) (λ s m it are.
    let numbers = c.in_ok-numbers-in-Marked.numbers in
    let at = c.in-Marked.at in
    let read = it.1 are in
    let types = types_stored s m at.station.now numbers read in
    rw (c.stored_at-in-Marked.ensures, c.in-Marked.is)
    (dock_stored s m at.station.now numbers read _, it.0 are, held_stored s m at c.in-Marked.held _ _ _ c.counts_by_type.ensures.counts types c.as_slice-in-Marked.ensures.value c.in_ok-counts-in-Marked.ensures))
