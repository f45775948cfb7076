-- A dock marked as broken or as working: the numbers of stations after it.
use Rattle.std.proofs.Common.{◌≡◌, ◌≢◌, ℕ, pos, ◌+◌, ◌≤◌, ◌+ℤ◌, List, Bool, true, false, not, cond, ◌&&◌, ◌||◌, Option, Some, None, option_map, refl, sym, ap, ◌∙◌, subst, arith}
use Rattle.std.specs.Ordering.{eq_by_cmp}
use Rattle.std.specs.FinMap as fin
use Rattle.std.specs.FinSet as set
use Rattle.std.specs.FinSet.{FinSet}
use Rattle.std.proofs.lemmas.Int.{ints}
use Rattle.bike_operator.specs.declared.records.Place.{Place}
use Rattle.bike_operator.specs.declared.records.Place.TheVariants as place
use Rattle.bike_operator.specs.declared.records.Bike.{Bike}
use Rattle.bike_operator.specs.Operator.{Operator, Station, DockKey, texts_cmp}
use Rattle.bike_operator.specs.Counts.{is_dock, is_broken, docked_at, available_of, docks_broken}
use Rattle.bike_operator.specs.Steps.{dock_marked}
use Rattle.bike_operator.specs.Sound.{HasDock, AreBikesSound}
use Rattle.bike_laws.proofs.SingleSteps.CountLemmas.{found_by}
use Rattle.bike_laws.proofs.SingleSteps.MapLemmas.{number_order, texts_order}
use Rattle.bike_laws.specs.SingleSteps.Numbers.{disabled_of, occupied_docks}
use Rattle.bike_laws.specs.SingleSteps.Laws.{one, IsMoved, available_share, disabled_share, occupied_share, Shares, dock_shares, place_shares, IsMarkedAt, ShareLaw, docked_bike, HasMarked, MarkLaw}
use Rattle.bike_laws.proofs.SingleSteps.DockLaw.{dock_is}
use Rattle.bike_laws.proofs.SingleSteps.ShareLaw.{share_law}
use Rattle.bike_laws.proofs.SingleSteps.MarkLaw.{mark_law}
use Rattle.bike_book.specs.declared.by_type.TypeCounts.{TypeCounts}
use Rattle.bike_book.specs.ByType.{IsSameCount}
use Rattle.bike_book.specs.Between.{docks_left}
use Rattle.bike_booking.specs.Facts.{DockTotals}
use Rattle.bike_booking.proofs.NumbersMove.{IsMarkedEmpty, IsMarkedHeld}
use Rattle.bike_booking.proofs.TotalsRows.{HasTotalsAt, totals_at, SameDocks, SameBikesElsewhere}

-- a dock is broken or works
pub broken_or_not : (b : Bool) → one (not b) + one b ≡ 1
broken_or_not true = refl
broken_or_not false = refl

-- other docks are marked as before
pub marks_elsewhere : (broken : FinSet texts_cmp) (k : DockKey) (mark : Bool) (key : DockKey) → eq_by_cmp texts_cmp key k ≡ false
    → set.contains (cond mark (set.insert broken k) (set.remove broken k)) key ≡ set.contains broken key
marks_elsewhere broken k true key apart = set.contains-insert texts_order.total broken k key ∙ ap (λ (b : Bool). b || set.contains broken key) apart
marks_elsewhere broken k false key apart = set.contains-remove texts_order.total broken k key ∙ ap (λ (b : Bool). not b && set.contains broken key) apart

pub has_marked : (s : Operator) (at : List ℕ) (dock : ℕ) (mark : Bool) → HasMarked s (dock_marked at dock mark s) at dock mark
has_marked s at dock mark = record { bikes = refl; marks = refl }

-- ---- by what the bicycle in the dock, if any, adds before and after

module _ {s n : Operator} {at : List ℕ} {dock : ℕ} {mark : Bool} (law : MarkLaw s n at dock mark) (o : Option Bike) (here : docked_bike s at dock ≡ o) where
  available_moves : (station kind : List ℕ) → IsMoved (available_of s station kind) (available_of n station kind) (available_share s station kind o) (available_share n station kind o)
  available_moves station kind =
      subst (λ (z : Option Bike). IsMoved (available_of s station kind) (available_of n station kind) (available_share s station kind z) (available_share n station kind z)) here
      (law.available station kind)

  disabled_moves : (station kind : List ℕ) → IsMoved (disabled_of s station kind) (disabled_of n station kind) (disabled_share s station kind o) (disabled_share n station kind o)
  disabled_moves station kind =
      subst (λ (z : Option Bike). IsMoved (disabled_of s station kind) (disabled_of n station kind) (disabled_share s station kind z) (disabled_share n station kind z)) here
      (law.disabled station kind)

  occupied_moves : (station : List ℕ) → IsMoved (occupied_docks s station) (occupied_docks n station) (occupied_share s station o) (occupied_share n station o)
  occupied_moves station =
      subst (λ (z : Option Bike). IsMoved (occupied_docks s station) (occupied_docks n station) (occupied_share s station z) (occupied_share n station z)) here (law.occupied station)

  docks_elsewhere : ((station : List ℕ) → station ≢ at → occupied_share s station o ≡ occupied_share n station o) → (station : List ℕ) → station ≢ at → SameDocks s n station
  docks_elsewhere same station apart docks =
      let taken = occupied_moves station in
      let as_before = same station apart in
      let broken = (law.other_docks station docks apart).1 in
      (omega (arith, ints, taken, as_before, broken), sym broken)

  -- at the station, where the bicycle and the mark take docks
  module _ (has : HasDock s at dock) (x : Station) (found : fin.get s.stations at ≡ Some x) where
    broken_here : IsMoved (docks_broken s at x.row.docks) (docks_broken n at x.row.docks) (one (is_broken s at dock)) (one mark)
    broken_here =
        let row : has.row ≡ x = (let same : ◌≡◌ {A = Option Station} (Some has.row) (Some x) = sym has.found ∙ found in cc) in
        law.broken_docks x.row.docks has.low (subst (λ (z : Station). dock ≤ z.row.docks) row has.high)

    left_here : docks_left n at x.row.docks +ℤ pos (occupied_share n at o) +ℤ pos (one mark) ≡ docks_left s at x.row.docks +ℤ pos (occupied_share s at o) +ℤ pos (one (is_broken s at dock))
    left_here = let taken = occupied_moves at in let broken = broken_here in omega (arith, ints, taken, broken)

-- ---- an empty dock

module _ (s : Operator) (at : List ℕ) (dock : ℕ) (mark : Bool) (sound : AreBikesSound s) (empty : docked_at s at dock ≡ None) where
  abbrev empty_next : Operator
  empty_next = dock_marked at dock mark s

  empty_law : MarkLaw s empty_next at dock mark
  empty_law = mark_law s empty_next at dock mark (has_marked s at dock mark) sound

  no_bike : docked_bike s at dock ≡ None
  no_bike = ap (option_map (λ (b : ℕ × Bike). b.1)) empty

  pub empty_bikes : (station kind : List ℕ) → IsSameCount s empty_next station kind
  empty_bikes station kind = let a = available_moves empty_law None no_bike station kind in let n = disabled_moves empty_law None no_bike station kind in (omega (arith, a), omega (arith, n))

  pub empty_elsewhere : (station : List ℕ) → station ≢ at → SameDocks s empty_next station
  empty_elsewhere = docks_elsewhere empty_law None no_bike (λ station apart. refl)

pub empty_here : {s : Operator} {at : List ℕ} {dock : ℕ} {mark : Bool} {d e : DockTotals} → AreBikesSound s → IsMarkedEmpty s at dock mark d e → (x : Station) → fin.get s.stations at ≡ Some x
    → HasTotalsAt (dock_marked at dock mark s) at x e
empty_here {s} {at} {dock} {mark} {d} {e} sound h x found =
    let had = totals_at s at d h.docks x found in
    let free = had.0 in
    let broken = had.1 in
    let law = empty_law s at dock mark sound h.empty in
    let here = no_bike s at dock mark sound h.empty in
    let left = left_here law None here h.has x found in
    let marked = broken_here law None here h.has x found in
    let by_free = h.free_moves in
    let by_broken = h.broken_moves in
    (omega (arith, ints, free, left, by_free), omega (arith, broken, marked, by_broken))

-- ---- a dock with a bicycle in it

module _ (s : Operator) (at : List ℕ) (dock : ℕ) (mark : Bool) (bike : ℕ) (b : Bike) (sound : AreBikesSound s) (held : docked_at s at dock ≡ Some (bike, b)) where
  abbrev held_next : Operator
  held_next = dock_marked at dock mark s

  held_law : MarkLaw s held_next at dock mark
  held_law = mark_law s held_next at dock mark (has_marked s at dock mark) sound

  a_bike : docked_bike s at dock ≡ Some b
  a_bike = ap (option_map (λ (x : ℕ × Bike). x.1)) held

  in_dock : b.place ≡ place.Dock at dock
  in_dock = dock_is at dock b.place (found_by number_order (λ (y : Bike). is_dock at dock y.place) s.bikes (bike, b) held).1

  before : ShareLaw s at (is_broken s at dock) b
  before = share_law s at (is_broken s at dock) b (subst (IsMarkedAt s at (is_broken s at dock)) (sym in_dock) (refl, refl))

  after : ShareLaw held_next at mark b
  after = share_law held_next at mark b (subst (IsMarkedAt held_next at mark) (sym in_dock) (refl, held_law.mark))

  -- what it adds in the dock
  in_shares : (part : Shares → ℕ) (broken : Bool) → part (place_shares broken b.state b.place) ≡ part (dock_shares broken b.state)
  in_shares part broken = ap (λ (p : Place). part (place_shares broken b.state p)) in_dock

  pub held_bikes : SameBikesElsewhere s held_next at b.type_id
  held_bikes station kind apart =
      let a = available_moves held_law (Some b) a_bike station kind in
      let n = disabled_moves held_law (Some b) a_bike station kind in
      let p = before.not_available station kind apart in
      let q = after.not_available station kind apart in
      let u = before.not_disabled station kind apart in
      let v = after.not_disabled station kind apart in
      (omega (arith, a, p, q), omega (arith, n, u, v))

  pub held_elsewhere : (station : List ℕ) → station ≢ at → SameDocks s held_next station
  held_elsewhere = docks_elsewhere held_law (Some b) a_bike (λ station apart. before.not_occupied station apart ∙ sym (after.not_occupied station apart))

  -- the counts of its type
  pub available_held : IsMoved (available_of s at b.type_id) (available_of held_next at b.type_id) (dock_shares (is_broken s at dock) b.state).available (dock_shares mark b.state).available
  available_held =
      let moved = available_moves held_law (Some b) a_bike at b.type_id in
      let p = before.available ∙ in_shares (λ z. z.available) (is_broken s at dock) in
      let q = after.available ∙ in_shares (λ z. z.available) mark in
      omega (arith, moved, p, q)

  pub disabled_held : IsMoved (disabled_of s at b.type_id) (disabled_of held_next at b.type_id) (dock_shares (is_broken s at dock) b.state).disabled (dock_shares mark b.state).disabled
  disabled_held =
      let moved = disabled_moves held_law (Some b) a_bike at b.type_id in
      let p = before.disabled ∙ in_shares (λ z. z.disabled) (is_broken s at dock) in
      let q = after.disabled ∙ in_shares (λ z. z.disabled) mark in
      omega (arith, moved, p, q)

-- with the numbers before and after
module _ {s : Operator} {at : List ℕ} {dock : ℕ} {mark : Bool} {bike : ℕ} {b : Bike} {d e : DockTotals} {n o : TypeCounts} (sound : AreBikesSound s)
    (h : IsMarkedHeld s at dock mark bike b d e n o) where
  pub held_here : (x : Station) → fin.get s.stations at ≡ Some x → HasTotalsAt (dock_marked at dock mark s) at x e
  held_here x found =
      let had = totals_at s at d h.docks x found in
      let free = had.0 in
      let broken = had.1 in
      let law = held_law s at dock mark bike b sound h.held in
      let here = a_bike s at dock mark bike b sound h.held in
      let left = left_here law (Some b) here h.has x found in
      let marked = broken_here law (Some b) here h.has x found in
      let taken_before = (before s at dock mark bike b sound h.held).occupied ∙ in_shares s at dock mark bike b sound h.held (λ z. z.occupied) (is_broken s at dock) in
      let taken_after = (after s at dock mark bike b sound h.held).occupied ∙ in_shares s at dock mark bike b sound h.held (λ z. z.occupied) mark in
      let p = broken_or_not (is_broken s at dock) in
      let q = broken_or_not mark in
      let free_stays = h.free_stays in
      let by_broken = h.broken_moves in
      (omega (arith, ints, free, left, taken_before, taken_after, p, q, free_stays), omega (arith, broken, marked, by_broken))

  pub held_available : available_of (dock_marked at dock mark s) at b.type_id ≡ o.available
  held_available = let moved = available_held s at dock mark bike b sound h.held in let had = h.bikes.available in let by = h.bikes_move.available in omega (arith, moved, had, by)

  pub held_disabled : disabled_of (dock_marked at dock mark s) at b.type_id ≡ o.disabled
  held_disabled = let moved = disabled_held s at dock mark bike b sound h.held in let had = h.bikes.disabled in let by = h.bikes_move.disabled in omega (arith, moved, had, by)
