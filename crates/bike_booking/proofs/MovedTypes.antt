-- Stations that aren't there have no bicycles after something is put or marked.
use Rattle.std.proofs.Common.{◌≡◌, ◌≢◌, ℕ, List, Option, Some, None, is_some, refl, sym, ap, ◌∙◌}
use Rattle.std.specs.Prelude.{IfSome}
use Rattle.std.specs.FinMap as fin
use Rattle.std.specs.FinMap.{FinMap}
use Rattle.bike_operator.specs.Operator.{Operator, Station, text_cmp}
use Rattle.bike_operator.specs.Steps.{key_changed}
use Rattle.bike_operator.specs.Changes.{place_of}
use Rattle.bike_operator.specs.Sound.{IsSound, AreBikesSound, HasDock}
use Rattle.bike_catalogue.specs.Rows.{more_docks}
use Rattle.bike_laws.proofs.SingleSteps.MapLemmas.{text_order, known_changed}
use Rattle.bike_laws.proofs.SingleSteps.Moment.{reports}
use Rattle.bike_book.specs.NotThere.{NoTypesYet}
use Rattle.bike_book.proofs.SoundNumbers.{no_types_yet}
use Rattle.bike_book.proofs.TypeLaws.{types_same}
use Rattle.bike_booking.proofs.TotalsRows.{SameTypes, types_elsewhere}
use Rattle.bike_booking.proofs.BikeMoves.{BikeMoves, MovesAt, bikes_away, bikes_elsewhere}
use Rattle.bike_booking.proofs.DockMarks.{empty_bikes, held_bikes}
use Rattle.bike_booking.proofs.PutBooks.{marked_at}
use Rattle.bike_accepted.specs.declared.movement.Movement.{Movement}
use Rattle.bike_accepted.specs.declared.movement.Movement.TheVariants as moved
use Rattle.bike_accepted.specs.Effects.{bike_in, after_moved, where_moved}
use Rattle.bike_accepted.specs.Found.{held_bike, IsMovedFound}

-- what isn't there after a change of another record wasn't there before
absent_before : (m : FinMap text_cmp Station) (at : List ℕ) (f : Station → Station) (station : List ℕ) → fin.get (key_changed m at f) station ≡ None → fin.get m station ≡ None
absent_before m at f station none = go (fin.get m station) refl where
  go : (o : Option Station) → fin.get m station ≡ o → o ≡ None
  go None is = refl
  go (Some x) is =
      let there = known_changed text_order m at f station (ap (λ (o : Option Station). is_some o) is) in
      let not_there = ap (λ (o : Option Station). is_some o) none in
      absurd cc

-- the station of a dock is there
apart_from : (s : Operator) (at : List ℕ) (dock : ℕ) → HasDock s at dock → (station : List ℕ) → fin.get s.stations station ≡ None → station ≢ at
apart_from s at dock has station none same =
    let both : ◌≡◌ {A = Option Station} None (Some has.row) = sym none ∙ ap (fin.get s.stations) same ∙ has.found in absurd cc

absent : (now : ℕ) (mo : Movement) (s : Operator) (station : List ℕ) → fin.get (after_moved now mo s).stations station ≡ None → fin.get s.stations station ≡ None
absent now (moved.Away bike type_id was becomes) s station none = none
absent now (moved.AtDock at bike type_id was becomes) s station none = absent_before s.stations at.station.now (reports now) station none
absent now (moved.AddDocks at was count) s station none = absent_before s.stations at.now (λ x. record x { row = more_docks count.now x.row }) station none
absent now (moved.Marked at held broken) s station none = absent_before s.stations at.station.now (reports now) station none

types_stay : (now : ℕ) (mo : Movement) (s : Operator) → AreBikesSound s → IsMovedFound s mo → (station : List ℕ) → fin.get s.stations station ≡ None → SameTypes s (after_moved now mo s) station
types_stay now (moved.Away bike type_id was becomes) s sound found station none =
    let n = after_moved now (moved.Away bike type_id was becomes) s in
    let moves : BikeMoves s n bike (bike_in type_id was) (bike_in type_id becomes) = record { found = found.found; put = record { bikes = refl; broken = refl } } in
    types_same s n station (bikes_away moves found.from_away found.to_away station)
types_stay now (moved.AtDock at bike type_id was becomes) s sound found station none =
    let n = after_moved now (moved.AtDock at bike type_id was becomes) s in
    let moves : MovesAt s n bike (bike_in type_id was) (bike_in type_id becomes) at.station.now at.is_broken at.is_broken = record {
      moves = record { found = found.found; put = record { bikes = refl; broken = refl } };
      type_same = refl;
      from_is = marked_at s at.station.now at.dock at.is_broken found.dock.mark (place_of was.place) found.from_is;
      to_is = marked_at s at.station.now at.dock at.is_broken found.dock.mark (place_of becomes.place) found.to_is;
    } in
    types_elsewhere s n at.station.now type_id.now (bikes_elsewhere moves) station (apart_from s at.station.now at.dock found.dock.has station none)
types_stay now (moved.AddDocks at was count) s sound found station none = refl
types_stay now (moved.Marked at None broken) s sound found station none =
    types_same s (after_moved now (moved.Marked at None broken) s) station (empty_bikes s at.station.now at.dock broken sound found.held_is station)
types_stay now (moved.Marked at (Some h) broken) s sound found station none =
    let b = held_bike at h in
    types_elsewhere s (after_moved now (moved.Marked at (Some h) broken) s) at.station.now h.type_id.now (held_bikes s at.station.now at.dock broken b.0 b.1 sound found.held_is) station
    (apart_from s at.station.now at.dock found.dock.has station none)

pub no_types_left : (now : ℕ) (mo : Option Movement) (s : Operator) → IsSound s → IfSome mo (IsMovedFound s) → NoTypesYet (where_moved now mo s)
no_types_left now None s sound found station none = no_types_yet s sound station none
no_types_left now (Some mo) s sound found station none =
    let before = absent now mo s station none in types_stay now mo s sound.bikes found station before ∙ no_types_yet s sound station before
