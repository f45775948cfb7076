-- A bicycle that is put from where it stands, and a dock that is marked.
use Rattle.std.proofs.Common.{◌≡◌, ◌≤◌, ℕ, List, Bool, Option, Some, None, option_map, refl, sym, ap, ◌∙◌, subst}
use Rattle.std.specs.Borrow.{Bor}
use Rattle.std.specs.FinMap as map
use Rattle.bike_catalogue.specs.Rows.{TypeRow}
use Rattle.bike_operator.specs.declared.change.NewPlace.{NewPlace}
use Rattle.bike_operator.specs.declared.change.NewPlace.TheVariants as new
use Rattle.bike_operator.specs.declared.records.BikeState.{BikeState}
use Rattle.bike_operator.specs.declared.records.Place.{Place}
use Rattle.bike_operator.specs.declared.records.Place.TheVariants as place
use Rattle.bike_operator.specs.declared.records.Bike.{Bike}
use Rattle.bike_operator.specs.declared.view.StationView.{StationView}
use Rattle.bike_operator.specs.declared.view.DockedBike.{DockedBike}
use Rattle.bike_operator.specs.Operator.{Operator, Station}
use Rattle.bike_operator.specs.Counts.{is_dock, docked_at}
use Rattle.bike_operator.specs.View.{is_broken_dock, station_view, typed_bike, docked_view}
use Rattle.bike_operator.specs.Steps.{place_reported}
use Rattle.bike_operator.specs.Changes.{place_of}
use Rattle.bike_operator.specs.Sound.{HasDock, IsPlace, AreBikesSound}
use Rattle.bike_laws.specs.SingleSteps.Laws.{IsAway}
use Rattle.bike_laws.proofs.SingleSteps.MapLemmas.{number_order}
use Rattle.bike_laws.proofs.SingleSteps.CountLemmas.{found_by}
use Rattle.bike_laws.proofs.SingleSteps.DockLaw.{dock_is}
use Rattle.bike_accepted.specs.declared.movement.BikeStatus.{BikeStatus}
use Rattle.bike_accepted.specs.declared.movement.DockAt.{DockAt}
use Rattle.bike_accepted.specs.declared.movement.DockOccupant.{DockOccupant}
use Rattle.bike_accepted.specs.Effects.{bike_in, bike_put, after_moved}
use Rattle.bike_accepted.specs.Found.{IsStationFound, IsNoOtherDock, held_bike, IsMovedFound}
use Rattle.bike_accepted.specs.Moves.{IsShown, put_from, IsHeldShown}
use Rattle.bike_core.proofs.Views.{shown_bike, empty_dock}

-- ---- a bicycle put from where it stands

-- the station at which it stood reports
pub after_put : (now : ℕ) (s : Operator) (p : NewPlace) (bike : ℕ) (type_id : Bor (List ℕ)) (was becomes : BikeStatus) (broken : Bool)
    → after_moved now (put_from p bike type_id was becomes broken) s ≡ place_reported (place_of p) now (bike_put bike (bike_in type_id becomes) s)
after_put now s (new.Dock station dock) bike type_id was becomes broken = refl
after_put now s (new.Rental rental) bike type_id was becomes broken = refl
after_put now s (new.Truck truck order) bike type_id was becomes broken = refl
after_put now s new.Depot bike type_id was becomes broken = refl

pub no_dock : (at : DockAt) (p : Place) → IsAway p → IsNoOtherDock at p
no_dock at (place.Dock station dock) away = absurd away
no_dock at (place.Rental rental) away = tt
no_dock at (place.Truck truck order) away = tt
no_dock at place.Depot away = tt

-- it comes into no dock in which it wasn't
pub record IsInReach (was becomes : Place) : Type 0 where
  pub from_away : IsAway was → IsAway becomes
  pub from_dock : (at : DockAt) → IsNoOtherDock at was → IsNoOtherDock at becomes

pub away_reach : (was becomes : Place) → IsAway becomes → IsInReach was becomes
away_reach was becomes away = record { from_away = λ h. away; from_dock = λ at h. no_dock at becomes away }

pub same_reach : (p : Place) → IsInReach p p
same_reach p = record { from_away = λ h. h; from_dock = λ at h. h }

module _ (s : Operator) (bike : ℕ) (b : Bike) (type_id : Bor (List ℕ)) (was becomes : BikeStatus) (broken : Bool) (sound : AreBikesSound s) (found : map.get s.bikes bike ≡ Some b)
    (shown : IsShown b type_id was) (mark : is_broken_dock s b.place ≡ broken) (reach : IsInReach (place_of was.place) (place_of becomes.place)) where
  was_there : map.get s.bikes bike ≡ Some (bike_in type_id was)
  was_there = found ∙ ap (λ (x : Bike). Some x) (sym (shown_bike b type_id was shown))

  pub put_found : (p : NewPlace) → place_of was.place ≡ place_of p → IsMovedFound s (put_from p bike type_id was becomes broken)
  put_found (new.Dock station dock) is =
      let here : b.place ≡ place.Dock station.now dock = sym shown.place_is ∙ is in
      let at : DockAt = record { station = station; dock = dock; is_broken = broken } in
      let from : IsNoOtherDock at (place_of was.place) = subst (IsNoOtherDock at) (sym is) (refl, refl) in
      record {
        found = was_there;
        dock = record { has = subst (IsPlace s bike b.type_id) here (sound.bikes bike b found).placed; mark = ap (is_broken_dock s) (sym here) ∙ mark };
        from_is = from;
        to_is = reach.from_dock at from;
        free = λ is_away. absurd (subst IsAway is is_away);
      }
  put_found (new.Rental rental) is = let away = subst IsAway (sym is) tt in record { found = was_there; from_away = away; to_away = reach.from_away away }
  put_found (new.Truck truck order) is = let away = subst IsAway (sym is) tt in record { found = was_there; from_away = away; to_away = reach.from_away away }
  put_found new.Depot is = let away = subst IsAway (sym is) tt in record { found = was_there; from_away = away; to_away = reach.from_away away }

-- ---- a dock

-- the station that a view shows has a dock of this number
-- a station that the view shows
pub station_shown : (s : Operator) (station : List ℕ) (o : Option Station) (x : StationView) → map.get s.stations station ≡ o → station_view o ≡ Some x → IsStationFound s station x.docks
station_shown s station None x e shown = absurd cc
station_shown s station (Some y) x e shown = record { row = y; found = e; docks_are = ap docks_in shown } where
  docks_in : Option StationView → ℕ
  docks_in None = 0
  docks_in (Some v) = v.docks

pub dock_shown : (s : Operator) (station : List ℕ) (dock : ℕ) (o : Option Station) (x : StationView) → map.get s.stations station ≡ o → station_view o ≡ Some x → 1 ≤ dock → dock ≤ x.docks
    → HasDock s station dock
dock_shown s station dock None x e shown low high = absurd cc
dock_shown s station dock (Some y) x e shown low high =
    record { row = y; found = e; low = low; high = (let docks : y.row.docks ≡ x.docks = docks_same y x shown in subst (λ (n : ℕ). dock ≤ n) (sym docks) high) } where
      docks_in : Option StationView → ℕ
      docks_in None = 0
      docks_in (Some v) = v.docks

      docks_same : (y : Station) (x : StationView) → station_view (Some y) ≡ Some x → y.row.docks ≡ x.docks
      docks_same y x shown = ap docks_in shown

-- the bicycle in a dock, as the view shows it
pub record IsDockedRow (s : Operator) (station : List ℕ) (dock : ℕ) (d : DockedBike) : Type 0 where
  pub row : Bike
  pub docked_is : docked_at s station dock ≡ Some (d.bike, row)
  pub found : map.get s.bikes d.bike ≡ Some row
  pub type_is : row.type_id ≡ d.type_id
  pub state_is : row.state ≡ d.state
  pub place_is : row.place ≡ place.Dock station dock

pub docked_row : (s : Operator) (station : List ℕ) (dock : ℕ) (d : DockedBike) → docked_view s (docked_at s station dock) ≡ Some d → IsDockedRow s station dock d
docked_row s station dock d h = go (docked_at s station dock) refl h where
  bike_of : Option DockedBike → ℕ
  bike_of None = 0
  bike_of (Some x) = x.bike

  type_of : Option DockedBike → List ℕ
  type_of None = d.type_id
  type_of (Some x) = x.type_id

  state_of : Option DockedBike → BikeState
  state_of None = d.state
  state_of (Some x) = x.state

  typed : (b : ℕ × Bike) → docked_at s station dock ≡ Some b → (t : Option TypeRow) → typed_bike b t ≡ Some d → IsDockedRow s station dock d
  typed b e None h = absurd cc
  typed b e (Some t) h =
      let f = found_by number_order (λ (y : Bike). is_dock station dock y.place) s.bikes b e in
      let bike_is : b.0 ≡ d.bike = ap bike_of h in
      record {
        row = b.1;
        docked_is = subst (λ (n : ℕ). docked_at s station dock ≡ Some (n, b.1)) bike_is e;
        found = subst (λ (n : ℕ). map.get s.bikes n ≡ Some b.1) bike_is f.0;
        type_is = ap type_of h;
        state_is = ap state_of h;
        place_is = dock_is station dock b.1.place f.1;
      }

  go : (o : Option (ℕ × Bike)) → docked_at s station dock ≡ o → docked_view s o ≡ Some d → IsDockedRow s station dock d
  go None e h = absurd cc
  go (Some b) e h = typed b e (map.get s.types b.1.type_id) h

-- what a mark of the dock holds is what is in it
pub held_found : (s : Operator) (at : DockAt) (o : Option DockedBike) (held : Option DockOccupant) → AreBikesSound s → docked_view s (docked_at s at.station.now at.dock) ≡ o → IsHeldShown o held
    → docked_at s at.station.now at.dock ≡ option_map (held_bike at) held
held_found s at None None sound is shown = empty_dock s at.station.now at.dock sound is
held_found s at None (Some h) sound is shown = absurd shown
held_found s at (Some d) None sound is shown = absurd shown
held_found s at (Some d) (Some h) sound is shown =
    let r = docked_row s at.station.now at.dock d is in
    let same : r.row ≡ (held_bike at h).1 = (λ i. record { type_id = (r.type_is ∙ sym shown.1) i; state = (r.state_is ∙ sym shown.2) i; place = r.place_is i }) in
    subst (λ (b : Bike). docked_at s at.station.now at.dock ≡ Some (h.bike, b)) same (subst (λ (n : ℕ). docked_at s at.station.now at.dock ≡ Some (n, r.row)) (sym shown.0) r.docked_is)
