-- What is stored of a dock and of its station's bicycles, from the numbers that were read.
use Rattle.std.proofs.Common.{◌≡◌, ℕ, List, Bool, Option, Some, None, option_map, sym, ap, subst, ◌∙◌}
use Rattle.std.specs.Prelude.{IfSome}
use Rattle.std.specs.FinMap as map
use Rattle.bike_operator.specs.Operator.{Operator, Station}
use Rattle.bike_book.specs.declared.by_type.CountedType.{CountedType}
use Rattle.bike_book.specs.ByType.{CountsLaw, counts_of, types_at}
use Rattle.bike_book.specs.Stored.{Listed}
use Rattle.bike_accepted.specs.declared.movement.DockAt.{DockAt}
use Rattle.bike_accepted.specs.declared.movement.DockOccupant.{DockOccupant}
use Rattle.bike_accepted.specs.declared.movement.Movement.{Movement}
use Rattle.bike_booking.specs.declared.stored.Stored.{Stored}
use Rattle.bike_booking.specs.declared.stored.StoredCounts.{StoredCounts}
use Rattle.bike_booking.specs.Stored.{AreCountsStored, AreHeldStored, AreTypesStored, IsDockStored, IsMovedStored}
use Rattle.bike_fleet_reads.specs.declared.stations.DockNumbers.{DockNumbers}
use Rattle.bike_fleet_reads.specs.declared.stations.StationNumbers.{StationNumbers}
use Rattle.bike_fleet_reads.specs.Fleet.{AreNumbersAt, dock_numbers_of, numbers_pair}
use Rattle.bike_views.specs.StoredParts.{counts_read, dock_read}

module _ (s : Operator) (m : Listed) (station : List ℕ) (n : StationNumbers) where
  -- a station has these numbers
  numbers_of : (o : Option Station) → option_map numbers_pair (Some n) ≡ option_map (λ x. (dock_numbers_of s station x, types_at s station)) o
      → (x : Station) → o ≡ Some x → numbers_pair n ≡ (dock_numbers_of s station x, types_at s station)
  numbers_of None read x there = absurd cc
  numbers_of (Some y) read x there = let same : y ≡ x = cc in let pair : numbers_pair n ≡ (dock_numbers_of s station y, types_at s station) = cc in
      pair ∙ ap (λ (z : Station). (dock_numbers_of s station z, types_at s station)) same

  types_of : (o : Option Station) → option_map numbers_pair (Some n) ≡ option_map (λ x. (dock_numbers_of s station x, types_at s station)) o → n.by_type.items ≡ types_at s station
  types_of None read = absurd cc
  types_of (Some y) read =
      let pair : numbers_pair n ≡ (dock_numbers_of s station y, types_at s station) = cc in ap (λ (p : DockNumbers × List CountedType). p.1) pair

  module _ (read : AreNumbersAt s station (Some n)) where
    pub dock_stored : (listed : Bool) → IsDockStored s m station (dock_read n.docks listed)
    dock_stored listed =
        let found = λ (x : Station) (there : map.get s.stations station ≡ Some x). ap (λ (p : DockNumbers × List CountedType). p.0) (numbers_of (map.get s.stations station) read x there) in
        record { free = λ x there. ap (λ (d : DockNumbers). d.free) (found x there); broken = λ x there. ap (λ (d : DockNumbers). d.broken) (found x there) }

    pub types_stored : AreTypesStored s m station n.by_type.items
    types_stored = types_of (map.get s.stations station) read

pub counts_stored : (s : Operator) (m : Listed) (at : DockAt) (type_id : List ℕ) (by_type : List CountedType) {c : StoredCounts} → CountsLaw → AreTypesStored s m at.station.now by_type
    → c ≡ counts_read (counts_of type_id by_type) → AreCountsStored s m at type_id c
counts_stored s m at type_id by_type law types is =
    let counted = ap (counts_of type_id) types ∙ law s at.station.now type_id in
    record {
      available = ap (λ (k : StoredCounts). k.available) is ∙ ap (λ k. k.available) counted;
      disabled = ap (λ (k : StoredCounts). k.disabled) is ∙ ap (λ k. k.disabled) counted;
    }

pub held_stored : (s : Operator) (m : Listed) (at : DockAt) (held : Option DockOccupant) (by_type read : List CountedType) (c : StoredCounts) → CountsLaw → AreTypesStored s m at.station.now by_type
    → read ≡ by_type → IfSome held (λ h. c ≡ counts_read (counts_of h.type_id.now read)) → AreHeldStored s m at held by_type c
held_stored s m at None by_type read c law types same is = tt
held_stored s m at (Some h) by_type read c law types same is = (types, counts_stored s m at h.type_id.now read law (same ∙ types) is)

pub moved_stored : (s : Operator) (m : Listed) {n told : Stored} {moved one : Movement} → n ≡ told → moved ≡ one → IsMovedStored s m told one → IsMovedStored s m n moved
moved_stored s m {n = n} {one = one} same is it = subst (IsMovedStored s m n) (sym is) (subst (λ k. IsMovedStored s m k one) (sym same) it)
