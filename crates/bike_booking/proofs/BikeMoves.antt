-- A bicycle that is put in another place, or where it is in another state: its row, and the numbers of stations after it.
use Rattle.std.proofs.Common.{◌≡◌, ◌≢◌, ℕ, pos, ◌+◌, ◌+ℤ◌, List, [], ◌∷◌, Bool, Option, Some, refl, sym, ap, ◌∙◌, arith}
use Rattle.std.specs.Prelude.{map}
use Rattle.std.specs.Ordering.{nat_cmp}
use Rattle.std.specs.FinMap as fin
use Rattle.std.specs.FinMap.{FinMap}
use Rattle.std.proofs.lemmas.Int.{ints}
use Rattle.sqlite_value.specs.declared.value.Value.{Value}
use Rattle.sqlite_value.specs.declared.value.Value.TheVariants.{Null, Int, Text}
use Rattle.bike_sql.specs.View.{rows_after_update, with_values}
use Rattle.bike_operator.specs.declared.records.BikeState.{BikeState}
use Rattle.bike_operator.specs.declared.records.Place.{Place}
use Rattle.bike_operator.specs.declared.records.Place.TheVariants as place
use Rattle.bike_operator.specs.declared.records.Bike.{Bike}
use Rattle.bike_operator.specs.Operator.{Operator, Station}
use Rattle.bike_operator.specs.Counts.{available_of}
use Rattle.bike_operator.specs.Steps.{found_changed, key_changed}
use Rattle.bike_laws.specs.SingleSteps.Numbers.{disabled_of, occupied_docks}
use Rattle.bike_laws.specs.SingleSteps.Laws.{IsMoved, available_share, disabled_share, occupied_share, place_shares, IsAway, IsMarkedAt, ShareLaw, HasPut, PutLaw}
use Rattle.bike_laws.proofs.SingleSteps.PutLaw.{put_law}
use Rattle.bike_laws.proofs.SingleSteps.ShareLaw.{away_at, no_occupied, no_available, no_disabled, share_law}
use Rattle.bike_book.specs.declared.by_type.TypeCounts.{TypeCounts}
use Rattle.bike_book.specs.ByType.{IsSameCount}
use Rattle.bike_book.specs.Rows.{number_value, state_number, place_columns, bike_row}
use Rattle.bike_book.specs.Stored.{stored_bike}
use Rattle.bike_book.specs.Writes.{Columns, columns_from}
use Rattle.bike_book.specs.Between.{docks_left}
use Rattle.bike_book.proofs.MapRows.{set_entries}
use Rattle.bike_book.proofs.Keys.{numbers}
use Rattle.bike_booking.specs.Facts.{DockTotals, HasDockTotals, HasBikeTotals}
use Rattle.bike_booking.proofs.NumbersMove.{DocksMove, BikesMove}
use Rattle.bike_booking.proofs.TotalsRows.{HasTotalsAt, totals_at, SameDocks, SameBikesElsewhere}

-- ---- the bicycle's own row

-- the columns that a bicycle's state and place are set by
abbrev pub bike_columns : BikeState → Place → Columns
bike_columns state p = (2, Int (state_number state)) ∷ columns_from 3 (place_columns p)

module _ (bike : ℕ) (type_id : List ℕ) (old state : BikeState) where
  -- whatever stood in the columns of the place
  over : (u v w x y : Value) (p : Place) → with_values (bike_columns state p) (number_value bike ∷ Text type_id ∷ Int (state_number old) ∷ u ∷ v ∷ w ∷ x ∷ y ∷ [])
      ≡ bike_row bike (record { type_id = type_id; state = state; place = p })
  over u v w x y (place.Dock station dock) = refl
  over u v w x y (place.Rental rental) = refl
  over u v w x y (place.Truck truck order) = refl
  over u v w x y place.Depot = refl

  row_turned : (p q : Place) → with_values (bike_columns state q) (bike_row bike (record { type_id = type_id; state = old; place = p }))
      ≡ bike_row bike (record { type_id = type_id; state = state; place = q })
  row_turned (place.Dock station dock) q = over (Text station) (number_value dock) Null Null Null q
  row_turned (place.Rental rental) q = over Null Null (number_value rental) Null Null q
  row_turned (place.Truck truck order) q = over Null Null Null (number_value truck) (number_value order) q
  row_turned place.Depot q = over Null Null Null Null Null q

pub key_found : (m : FinMap nat_cmp Bike) (bike : ℕ) (f : Bike → Bike) (b : Bike) → fin.get m bike ≡ Some b → key_changed m bike f ≡ fin.insert m bike (f b)
key_found m bike f b found = ap (found_changed m bike f) found

pub bikes_set : (m : FinMap nat_cmp Bike) (bike : ℕ) (f : Bike → Bike) (b : Bike) (state : BikeState) (p : Place) → fin.get m bike ≡ Some b → record b { state = state; place = p } ≡ f b
    → rows_after_update 1 (number_value bike ∷ []) (with_values (bike_columns state p)) (map stored_bike (fin.entries m)) ≡ map stored_bike (fin.entries (key_changed m bike f))
bikes_set m bike f b state p found is =
    set_entries numbers stored_bike stored_bike (λ x. refl) (λ x. refl) m bike tt (with_values (bike_columns state p)) b (f b) found
    (row_turned bike b.type_id b.state state b.place p ∙ ap (bike_row bike) is) (λ q y there. (tt, λ apart. refl))
    ∙ ap (λ (z : FinMap nat_cmp Bike). map stored_bike (fin.entries z)) (sym (key_found m bike f b found))

-- ---- what the numbers become

-- In the next operator a bicycle that is there has this record.
pub record BikeMoves (s n : Operator) (bike : ℕ) (b x : Bike) : Type 0 where
  pub found : fin.get s.bikes bike ≡ Some b
  pub put : HasPut s n bike x

-- the operator with one bicycle's record changed
abbrev pub bike_changed : ℕ → (Bike → Bike) → Operator → Operator
bike_changed bike f s = record s { bikes = key_changed s.bikes bike f }

pub moves_by : (s : Operator) (bike : ℕ) (b : Bike) (f : Bike → Bike) → fin.get s.bikes bike ≡ Some b → BikeMoves s (bike_changed bike f s) bike b (f b)
moves_by s bike b f found = record { found = found; put = record { bikes = key_found s.bikes bike f b found; broken = refl } }

module _ {s n : Operator} {bike : ℕ} {b x : Bike} (h : BikeMoves s n bike b x) where
  law : PutLaw s n bike x
  law = put_law s n bike x h.put

  pub available_moves : (station kind : List ℕ) → IsMoved (available_of s station kind) (available_of n station kind) (available_share s station kind (Some b))
      (available_share s station kind (Some x))
  available_moves station kind = ap (λ (o : Option Bike). available_of n station kind + available_share s station kind o) (sym h.found) ∙ law.available station kind

  pub disabled_moves : (station kind : List ℕ) → IsMoved (disabled_of s station kind) (disabled_of n station kind) (disabled_share s station kind (Some b)) (disabled_share s station kind (Some x))
  disabled_moves station kind = ap (λ (o : Option Bike). disabled_of n station kind + disabled_share s station kind o) (sym h.found) ∙ law.disabled station kind

  left_moves : (station : List ℕ) (docks : ℕ) → docks_left n station docks +ℤ pos (occupied_share s station (Some x)) ≡ docks_left s station docks +ℤ pos (occupied_share s station (Some b))
  left_moves station docks =
      let taken : IsMoved (occupied_docks s station) (occupied_docks n station) (occupied_share s station (Some b)) (occupied_share s station (Some x)) =
      ap (λ (o : Option Bike). occupied_docks n station + occupied_share s station o) (sym h.found) ∙ law.occupied station in
      let broken = law.broken station docks in
      omega (arith, ints, taken, broken)

  -- where it adds as much as before
  docks_stay : (station : List ℕ) → occupied_share s station (Some b) ≡ occupied_share s station (Some x) → SameDocks s n station
  docks_stay station same docks = let left = left_moves station docks in (omega (arith, ints, left, same), sym (law.broken station docks))

  bikes_stay : (station kind : List ℕ) → available_share s station kind (Some b) ≡ available_share s station kind (Some x)
      → disabled_share s station kind (Some b) ≡ disabled_share s station kind (Some x)
      → IsSameCount s n station kind
  bikes_stay station kind same also = let a = available_moves station kind in let d = disabled_moves station kind in (omega (arith, a, same), omega (arith, d, also))

  -- in no dock before, and in none now
  module _ (from_away : IsAway b.place) (to_away : IsAway x.place) where
    pub docks_away : (station : List ℕ) → SameDocks s n station
    docks_away station = docks_stay station (no_occupied s station b (away_at station b.place from_away) ∙ sym (no_occupied s station x (away_at station x.place to_away)))

    pub bikes_away : (station kind : List ℕ) → IsSameCount s n station kind
    bikes_away station kind =
        bikes_stay station kind (no_available s station b (away_at station b.place from_away) kind ∙ sym (no_available s station x (away_at station x.place to_away) kind))
        (no_disabled s station b (away_at station b.place from_away) kind ∙ sym (no_disabled s station x (away_at station x.place to_away) kind))

-- The bicycle is in no dock but of one station, before and now.
pub record MovesAt (s n : Operator) (bike : ℕ) (b x : Bike) (at : List ℕ) (from_broken to_broken : Bool) : Type 0 where
  pub moves : BikeMoves s n bike b x
  pub type_same : x.type_id ≡ b.type_id
  pub from_is : IsMarkedAt s at from_broken b.place
  pub to_is : IsMarkedAt s at to_broken x.place

module _ {s n : Operator} {bike : ℕ} {b x : Bike} {at : List ℕ} {from_broken to_broken : Bool} (h : MovesAt s n bike b x at from_broken to_broken) where
  pub before : ShareLaw s at from_broken b
  before = share_law s at from_broken b h.from_is

  pub after : ShareLaw s at to_broken x
  after = share_law s at to_broken x h.to_is

  pub docks_elsewhere : (station : List ℕ) → station ≢ at → SameDocks s n station
  docks_elsewhere station apart = docks_stay h.moves station (before.not_occupied station apart ∙ sym (after.not_occupied station apart))

  pub bikes_elsewhere : SameBikesElsewhere s n at b.type_id
  bikes_elsewhere station kind apart =
      let other : station ≡ at → kind ≢ x.type_id = (λ same kinds. apart same (kinds ∙ h.type_same)) in
      bikes_stay h.moves station kind (before.not_available station kind apart ∙ sym (after.not_available station kind other))
      (before.not_disabled station kind apart ∙ sym (after.not_disabled station kind other))

  pub docks_here : (d e : DockTotals) → HasDockTotals s at d → DocksMove d e (place_shares from_broken b.state b.place) (place_shares to_broken x.state x.place)
      → (y : Station) → fin.get s.stations at ≡ Some y → HasTotalsAt n at y e
  docks_here d e has moves y there =
      let had = totals_at s at d has y there in
      let free = had.0 in
      let left = left_moves h.moves at y.row.docks in
      let was = before.occupied in
      let is = after.occupied in
      let by = moves.free in
      (omega (arith, ints, free, left, was, is, by), (law h.moves).broken at y.row.docks ∙ had.1 ∙ sym moves.broken)

  -- the counts of its type
  module _ (k o : TypeCounts) (has : HasBikeTotals s at b.type_id k) (moves : BikesMove k o (place_shares from_broken b.state b.place) (place_shares to_broken x.state x.place)) where
    pub available_here : available_of n at b.type_id ≡ o.available
    available_here =
        let moved = available_moves h.moves at b.type_id in
        let kind : available_share s at b.type_id (Some x) ≡ available_share s at x.type_id (Some x) = ap (λ (t : List ℕ). available_share s at t (Some x)) (sym h.type_same) in
        let was = before.available in
        let is = after.available in
        let had = has.available in
        let by = moves.available in
        omega (arith, moved, kind, was, is, had, by)

    pub disabled_here : disabled_of n at b.type_id ≡ o.disabled
    disabled_here =
        let moved = disabled_moves h.moves at b.type_id in
        let kind : disabled_share s at b.type_id (Some x) ≡ disabled_share s at x.type_id (Some x) = ap (λ (t : List ℕ). disabled_share s at t (Some x)) (sym h.type_same) in
        let was = before.disabled in
        let is = after.disabled in
        let had = has.disabled in
        let by = moves.disabled in
        omega (arith, moved, kind, was, is, had, by)
