-- A dock or a bicycle that is marked: what was found for it.
use Rattle.std.proofs.Common.{◌≡◌, ◌≤◌, ℕ, List, Bool, Option, Some, None, refl, sym, ap, ◌∙◌}
use Rattle.std.specs.Borrow.{Bor}
use Rattle.std.specs.FinMap as map
use Rattle.bike_commands.specs.declared.command.Command.TheVariants as command
use Rattle.bike_commands.specs.declared.reply.Reply.TheVariants.{Done}
use Rattle.bike_operator.specs.declared.records.BikeState.{BikeState}
use Rattle.bike_operator.specs.declared.records.Bike.{Bike}
use Rattle.bike_operator.specs.declared.view.StationView.{StationView}
use Rattle.bike_operator.specs.declared.view.View.{View}
use Rattle.bike_operator.specs.Operator.{Operator}
use Rattle.bike_operator.specs.View.{view_of, is_in_broken_dock, is_broken_dock}
use Rattle.bike_operator.specs.Changes.{place_of}
use Rattle.bike_operator.specs.Sound.{IsSound}
use Rattle.bike_accepted.specs.declared.movement.BikeStatus.{BikeStatus}
use Rattle.bike_accepted.specs.declared.movement.DockAt.{DockAt}
use Rattle.bike_accepted.specs.declared.movement.DockOccupant.{DockOccupant}
use Rattle.bike_accepted.specs.declared.movement.Movement.TheVariants as moved
use Rattle.bike_accepted.specs.Found.{AreFound}
use Rattle.bike_accepted.specs.Moves.{IsShown, put_from, IsHeldShown}
use Rattle.bike_core.proofs.Moves.{same_reach, put_found, dock_shown, held_found}

pub dock_mark_found : (v : View) (station : Bor (List ℕ)) (dock : ℕ) (broken : Bool) (held : Option DockOccupant) (x : StationView) (s : Operator) (now : ℕ) → IsSound s
    → v ≡ view_of s (command.MarkDock station.now dock broken) → v.station ≡ Some x → 1 ≤ dock → dock ≤ x.docks → IsHeldShown v.docked held
    → AreFound now s (record { reply = Done; moved = Some (moved.Marked (record { station = station; dock = dock; is_broken = v.is_dock_broken }) held broken); change = None; entry = None })
dock_mark_found v station dock broken held x s now sound e station_is low high shown =
    let at : DockAt = record { station = station; dock = dock; is_broken = v.is_dock_broken } in
    record {
      moved = record {
        dock = record {
          has = dock_shown s station.now dock (map.get s.stations station.now) x refl (ap (λ (w : View). w.station) (sym e) ∙ station_is) low high;
          mark = ap (λ (w : View). w.is_dock_broken) (sym e);
        };
        held_is = held_found s at v.docked held sound.bikes (ap (λ (w : View). w.docked) (sym e)) shown;
      };
      change = tt;
      entry = tt;
    }

pub bike_mark_found : (v : View) (bike : ℕ) (disabled : Bool) (state : BikeState) (b : Bike) (type_id : Bor (List ℕ)) (was : BikeStatus) (s : Operator) (now : ℕ) → IsSound s
    → v ≡ view_of s (command.MarkBike bike disabled) → v.bike ≡ Some b → IsShown b type_id was
    → AreFound now s (record { reply = Done; moved = Some (put_from was.place bike type_id was (record { state = state; place = was.place }) v.is_dock_broken); change = None; entry = None })
bike_mark_found v bike disabled state b type_id was s now sound e bike_is shown =
    let found : map.get s.bikes bike ≡ Some b = ap (λ (w : View). w.bike) (sym e) ∙ bike_is in
    let mark : is_broken_dock s b.place ≡ v.is_dock_broken = ap (is_in_broken_dock s) (sym found) ∙ ap (λ (w : View). w.is_dock_broken) (sym e) in
    record {
      moved = put_found s bike b type_id was (record { state = state; place = was.place }) v.is_dock_broken sound.bikes found shown mark (same_reach (place_of was.place)) was.place refl;
      change = tt;
      entry = tt;
    }
