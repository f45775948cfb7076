-- A dock marked, with its station's report, as row changes.
use Rattle.std.proofs.Common.{◌≡◌, ℕ, ◌+◌, ◌≤◌, List, Bool, not, None, Some, refl, ap, arith}
use Rattle.std.proofs.lemmas.Int.{ints}
use Rattle.bike_operator.specs.declared.records.Bike.{Bike}
use Rattle.bike_operator.specs.Operator.{Operator}
use Rattle.bike_operator.specs.Counts.{is_broken, docked_at}
use Rattle.bike_operator.specs.Steps.{dock_marked}
use Rattle.bike_operator.specs.Sound.{AreBikesSound}
use Rattle.bike_laws.specs.SingleSteps.Laws.{one, IsMoved, dock_shares, MarkLaw, is_free}
use Rattle.bike_laws.proofs.SingleSteps.MarkLaw.{mark_law}
use Rattle.bike_book.specs.declared.by_type.TypeCounts.{TypeCounts}
use Rattle.bike_booking.specs.Facts.{DockTotals, HasDockTotals, HasBikeTotals}
use Rattle.bike_booking.specs.Put.{IsDockAt, moved_by, Adds, adds_marked, bikes_by, docks_marked_empty, docks_marked_held}
use Rattle.bike_booking.specs.PutLaws.{AtEachMoment, MarkedEmptyLaw, MarkedHeldLaw}
use Rattle.bike_booking.proofs.NumbersMove.{IsMarkedEmpty, IsMarkedHeld, BikesMove}
use Rattle.bike_booking.proofs.TotalsRows.{totals_at}
use Rattle.bike_booking.proofs.DockMarks.{broken_or_not, has_marked, available_held, disabled_held}
use Rattle.bike_booking.proofs.MarkBooks.{empty_books, held_books}
use Rattle.bike_booking.proofs.Ends.{left_is}
use Rattle.bike_booking.proofs.PutBooks.{moved_is}

module _ (s : Operator) (station : List ℕ) (dock : ℕ) (was broken : Bool) (d : DockTotals) (sound : AreBikesSound s) (found : IsDockAt s station dock was) (docks : HasDockTotals s station d) where
  abbrev next : Operator
  next = dock_marked station dock broken s

  law : MarkLaw s next station dock broken
  law = mark_law s next station dock broken (has_marked s station dock broken) sound

  -- a broken dock is counted
  broken_enough : one was ≤ d.broken + one broken
  broken_enough =
      let moved = law.broken_docks found.has.row.row.docks found.has.low found.has.high in
      let had = (totals_at s station d docks found.has.row found.has.found).1 in
      let mark = ap one found.mark in
      omega (arith, moved, had, mark)

  -- an empty dock that works is counted
  free_enough : docked_at s station dock ≡ None → one broken ≤ d.free + one was
  free_enough empty =
      let moved = law.free_docks found.has.row.row.docks found.has.low found.has.high in
      let had = (totals_at s station d docks found.has.row found.has.found).0 in
      let left = left_is s sound station found.has.row found.has.found in
      let free_was : one (is_free s station dock) ≡ one (not was) = (let mark = found.mark in rw (empty, mark) refl) in
      let free_is : one (is_free next station dock) ≡ one (not broken) = (let mark = law.mark in rw (empty, mark) refl) in
      let p = broken_or_not was in
      let q = broken_or_not broken in
      omega (arith, ints, moved, had, left, free_was, free_is, p, q)

  broken_moves : IsMoved d.broken (moved_by d.broken (one was) (one broken)) (one (is_broken s station dock)) (one broken)
  broken_moves = let mark = found.mark in rw mark (moved_is d.broken (one was) (one broken) broken_enough)

  is_empty : docked_at s station dock ≡ None → IsMarkedEmpty s station dock broken d (docks_marked_empty was broken d)
  is_empty empty = record {
    has = found.has;
    empty = empty;
    docks = docks;
    free_moves = (let mark = found.mark in rw mark (moved_is d.free (one broken) (one was) (free_enough empty)));
    broken_moves = broken_moves;
  }

  module _ (bike : ℕ) (b : Bike) (n : TypeCounts) (held : docked_at s station dock ≡ Some (bike, b)) (bikes : HasBikeTotals s station b.type_id n) where
    abbrev adds : Adds
    adds = adds_marked was broken b.state

    bikes_move : BikesMove n (bikes_by adds n) (dock_shares (is_broken s station dock) b.state) (dock_shares broken b.state)
    bikes_move =
        let a = available_held s station dock broken bike b sound held in
        let a_has = bikes.available in
        let z = disabled_held s station dock broken bike b sound held in
        let z_has = bikes.disabled in
        let mark = found.mark in
        let a_was : (dock_shares (is_broken s station dock) b.state).available ≡ adds.less.available = ap (λ (x : Bool). (dock_shares x b.state).available) mark in
        let z_was : (dock_shares (is_broken s station dock) b.state).disabled ≡ adds.less.disabled = ap (λ (x : Bool). (dock_shares x b.state).disabled) mark in
        let available = moved_is n.available adds.less.available adds.more.available (omega (arith, a, a_has, a_was)) in
        let disabled = moved_is n.disabled adds.less.disabled adds.more.disabled (omega (arith, z, z_has, z_was)) in
        record { available = omega (arith, available, a_was); disabled = omega (arith, disabled, z_was) }

    pub is_held : IsMarkedHeld s station dock broken bike b d (docks_marked_held was broken d) n (bikes_by adds n)
    is_held = record { has = found.has; held = held; docks = docks; bikes = bikes; free_stays = refl; broken_moves = broken_moves; bikes_move = bikes_move }

-- ---- the laws

pub marked_empty : AtEachMoment MarkedEmptyLaw
marked_empty s m now listing station dock was broken d sound found empty docks =
    let e = docks_marked_empty was broken d in
    empty_books s m listing sound station dock broken now d e (is_empty s station.now dock was broken d sound found docks empty)

pub marked_held : AtEachMoment MarkedHeldLaw
marked_held s m now listing station type_id dock was broken bike b d by_type n sound type_is found held docks types bikes =
    let e = docks_marked_held was broken d in
    let o = bikes_by (adds_marked was broken b.state) n in
    let h = is_held s station.now dock was broken d sound found docks bike b n held bikes in
    held_books s m listing sound station dock broken now type_id.now by_type.now bike b d e n o type_is types h
