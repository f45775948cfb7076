-- A bicycle's record put, with the report of its dock's station, as the rows that are written of it.
use Rattle.std.proofs.Common.{◌≡◌, ℕ, ◌+◌, ◌≤◌, List, [], ◌∷◌, Bool, true, false, not, Some, None, is_none, ◌&&◌, refl, sym, ap, ap₂, ◌∙◌, subst, arith}
use Rattle.std.specs.Ordering.{nat_cmp}
use Rattle.std.specs.FinMap as fin
use Rattle.std.specs.FinMap.{FinMap}
use Rattle.std.proofs.lemmas.Int.{ints}
use Rattle.bike_operator.specs.declared.records.BikeState.{BikeState}
use Rattle.bike_operator.specs.declared.records.Place.{Place}
use Rattle.bike_operator.specs.declared.records.Place.TheVariants as place
use Rattle.bike_operator.specs.declared.records.Bike.{Bike}
use Rattle.bike_operator.specs.declared.change.NewPlace.{NewPlace}
use Rattle.bike_operator.specs.Operator.{Operator}
use Rattle.bike_operator.specs.Counts.{is_broken, docked_at}
use Rattle.bike_operator.specs.Steps.{with_report, dock_marked}
use Rattle.bike_operator.specs.Changes.{place_of}
use Rattle.bike_operator.specs.Sound.{HasDock, AreBikesSound}
use Rattle.bike_laws.specs.SingleSteps.Laws.{one, IsMoved, place_shares, IsAway, IsMarkedAt, MarkLaw, is_free}
use Rattle.bike_laws.proofs.SingleSteps.MarkLaw.{mark_law}
use Rattle.bike_laws.proofs.SingleSteps.CatalogueLemmas.{same_docks}
use Rattle.bike_book.specs.declared.by_type.TypeCounts.{TypeCounts}
use Rattle.bike_book.specs.declared.by_type.CountedType.{CountedType}
use Rattle.bike_book.specs.declared.row_change.RowChange.TheVariants as row
use Rattle.bike_book.specs.ByType.{types_at, with_counts}
use Rattle.bike_book.specs.Stored.{Listed, IsListing}
use Rattle.bike_book.specs.Writes.{RowWrite, write_of}
use Rattle.bike_book.specs.Between.{tables_between, Leads, Books}
use Rattle.bike_book.proofs.ListingLemmas.{listing_same}
use Rattle.bike_booking.specs.Facts.{DockTotals, HasDockTotals, HasBikeTotals}
use Rattle.bike_booking.specs.Put.{standing, bike_put, IsNoOtherDock, IsPutAtDock, moved_by, Adds, adds_put, docks_by, bikes_by}
use Rattle.bike_booking.specs.PutLaws.{AtEachMoment, AwayLaw, AtDockLaw}
use Rattle.bike_booking.specs.Writes.{bikes_write}
use Rattle.bike_booking.proofs.NumbersMove.{DocksMove, BikesMove}
use Rattle.bike_booking.proofs.TotalsRows.{totals_at, types_elsewhere, types_here, types_set}
use Rattle.bike_booking.proofs.ReportBooks.{report_listed}
use Rattle.bike_booking.proofs.BikeMoves.{bike_changed, key_found, moves_by, MovesAt, bikes_set, docks_elsewhere, bikes_elsewhere, docks_here, available_here, disabled_here, before, after}
use Rattle.bike_booking.proofs.BikeMoves.{available_moves, disabled_moves}
use Rattle.bike_booking.proofs.BikeBooks.{away}
use Rattle.bike_booking.proofs.DockMarks.{has_marked}
use Rattle.bike_booking.proofs.Ends.{left_is}

-- ---- the numbers

pub moved_is : (number less more : ℕ) → less ≤ number + more → IsMoved number (moved_by number less more) less more
moved_is number less more enough = omega (arith, enough)

pub one_at_most : (b : Bool) → one b ≤ 1
one_at_most true = omega arith
one_at_most false = omega arith

-- a dock of a sound operator that is empty and works is counted
pub free_counted : (s : Operator) (at : List ℕ) (dock : ℕ) (d : DockTotals) → AreBikesSound s → HasDock s at dock → HasDockTotals s at d
    → docked_at s at dock ≡ None → is_broken s at dock ≡ false → 1 ≤ d.free
free_counted s at dock d sound has docks empty works =
    let law : MarkLaw s (dock_marked at dock true s) at dock true = mark_law s (dock_marked at dock true s) at dock true (has_marked s at dock true) sound in
    let moved = law.free_docks has.row.row.docks has.low has.high in
    let was : one (is_free s at dock) ≡ 1 = rw (empty, works) refl in
    let is : one (is_free (dock_marked at dock true s) at dock) ≡ 0 =
    ap (λ (b : Bool). one (is_none (docked_at (dock_marked at dock true s) at dock) && not b)) law.mark ∙ never (is_none (docked_at (dock_marked at dock true s) at dock)) in
    let left = left_is s sound at has.row has.found in
    let free = (totals_at s at d docks has.row has.found).0 in
    omega (arith, ints, moved, was, is, left, free)
  where
    never : (b : Bool) → one (b && not true) ≡ 0
    never true = refl
    never false = refl

-- ---- what a bicycle takes in its station's docks

module _ (broken : Bool) where
  at_most : (state : BikeState) (p : Place) → (place_shares broken state p).occupied ≤ one (not broken)
  at_most state (place.Dock station dock) = omega arith
  at_most state (place.Rental rental) = omega arith
  at_most state (place.Truck truck order) = omega arith
  at_most state place.Depot = omega arith

  -- where it leaves no dock, the one that it takes is free
  room : (free : ℕ) (was state : BikeState) (p q : Place) → (IsAway p → 1 ≤ free) → (place_shares broken state q).occupied ≤ free + (place_shares broken was p).occupied
  room free was state (place.Dock station dock) q enough = let most = at_most state q in omega (arith, most)
  room free was state (place.Rental rental) q enough = let most = at_most state q in let few = one_at_most (not broken) in let some = enough tt in omega (arith, most, few, some)
  room free was state (place.Truck truck order) q enough = let most = at_most state q in let few = one_at_most (not broken) in let some = enough tt in omega (arith, most, few, some)
  room free was state place.Depot q enough = let most = at_most state q in let few = one_at_most (not broken) in let some = enough tt in omega (arith, most, few, some)

-- no dock but one, so a dock of its station with its mark
pub marked_at : (s : Operator) (at : List ℕ) (dock : ℕ) (broken : Bool) → is_broken s at dock ≡ broken → (p : Place) → IsNoOtherDock at dock p → IsMarkedAt s at broken p
marked_at s at dock broken mark (place.Dock station n) h = (h.0, ap (is_broken s at) h.1 ∙ mark)
marked_at s at dock broken mark (place.Rental rental) h = tt
marked_at s at dock broken mark (place.Truck truck order) h = tt
marked_at s at dock broken mark place.Depot h = tt

-- ---- a record put is a record changed, where it is there

put_is : (s : Operator) (bike : ℕ) (b : Bike) (f : Bike → Bike) → fin.get s.bikes bike ≡ Some b → bike_changed bike f s ≡ bike_put bike (f b) s
put_is s bike b f found = ap (λ (z : FinMap nat_cmp Bike). record s { bikes = z }) (key_found s.bikes bike f b found)

-- ---- the laws

pub put_away : AtEachMoment AwayLaw
put_away s m now listing bike b state p found from_away to_away =
    let f : Bike → Bike = λ x. standing x state p in
    subst (λ (n : Operator). Books (row.SetBike bike state p ∷ []) s m n m) (put_is s bike b f found) (away s m listing bike f b state p found refl from_away to_away)

module _ (s : Operator) (m : Listed) (listing : IsListing s m) (bike : ℕ) (b : Bike) (state : BikeState) (p : NewPlace) (station type_id : List ℕ) (dock : ℕ) (broken : Bool) (d : DockTotals)
    (by_type : List CountedType) (n : TypeCounts) (sound : AreBikesSound s) (type_is : type_id ≡ b.type_id) (h : IsPutAtDock s station dock broken bike b (place_of p)) (docks : HasDockTotals s station d)
    (types : by_type ≡ types_at s station) (bikes : HasBikeTotals s station b.type_id n) where
  abbrev f : Bike → Bike
  f x = standing x state p

  abbrev next : Operator
  next = bike_changed bike f s

  abbrev adds : Adds
  adds = adds_put broken b state p

  moves : MovesAt s next bike b (f b) station broken broken
  moves = record {
    moves = moves_by s bike b f h.found;
    type_same = refl;
    from_is = marked_at s station dock broken h.at.mark b.place h.from_is;
    to_is = marked_at s station dock broken h.at.mark (place_of p) h.to_is;
  }

  docks_move : DocksMove d (docks_by adds d) adds.less adds.more
  docks_move = record { free = moved_is d.free adds.more.occupied adds.less.occupied (room broken d.free b.state state b.place (place_of p) enough); broken = refl } where
    enough : IsAway b.place → 1 ≤ d.free
    enough is_away = let free = h.free is_away in free_counted s station dock d sound h.at.has docks free.0 (h.at.mark ∙ free.1)

  bikes_move : BikesMove n (bikes_by adds n) adds.less adds.more
  bikes_move =
      let a = available_moves moves.moves station b.type_id in
      let a_was = (before moves).available in
      let a_is = (after moves).available in
      let a_has = bikes.available in
      let z = disabled_moves moves.moves station b.type_id in
      let z_was = (before moves).disabled in
      let z_is = (after moves).disabled in
      let z_has = bikes.disabled in
      record {
        available = moved_is n.available adds.less.available adds.more.available (omega (arith, a, a_was, a_is, a_has));
        disabled = moved_is n.disabled adds.less.disabled adds.more.disabled (omega (arith, z, z_was, z_is, z_has));
      }

  -- its row, and that of the station
  abbrev pub put_writes : ℕ → List RowWrite
  put_writes now = write_of (row.SetBike bike state p) ∷ bikes_write now station (docks_by adds d) (with_counts type_id (bikes_by adds n) by_type) ∷ []

  changed : (now : ℕ) → Leads (put_writes now) s m (with_report station now next) m
  changed now =
      let o = bikes_by adds n in
      let rows = bikes_set s.bikes bike f b state (place_of p) h.found refl in
      let others = bikes_elsewhere moves in
      let here = types_here s next station b.type_id others o (available_here moves n o bikes bikes_move) (disabled_here moves n o bikes bikes_move)
      ∙ ap₂ (λ t by. with_counts t o by) (sym type_is) (sym types) in
      let stations = types_set s next station (docks_by adds d) now (docks_elsewhere moves) (types_elsewhere s next station b.type_id others)
      (docks_here moves d (docks_by adds d) docks docks_move) (with_counts type_id o by_type) here in
      record {
        leads = λ i. record (tables_between s m) { bikes = rows i; stations = stations i };
        listing = report_listed next m now station (listing_same s next m (same_docks s next refl) refl refl refl listing);
      }

  pub put : (now : ℕ) → Leads (put_writes now) s m (with_report station now (bike_put bike (standing b state p) s)) m
  put now = subst (λ (n : Operator). Leads (put_writes now) s m (with_report station now n) m) (put_is s bike b f h.found) (changed now)

pub put_at_dock : AtEachMoment AtDockLaw
put_at_dock s m now listing bike b state p station type_id dock broken d by_type n sound type_is h docks types bikes =
    put s m listing bike b state p station.now type_id.now dock broken d by_type.now n sound type_is h docks types bikes now
