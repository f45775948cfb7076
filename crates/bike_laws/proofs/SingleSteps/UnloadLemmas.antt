-- What the tests of an unloading say.
use Rattle.std.proofs.Common.{◌≡◌, ℕ, ◌≤◌, true, false, not, ◌&&◌, ◌==◌, Option, Some, None, is_some, is_none, refl, subst, arith}
use Rattle.std.specs.FinMap as map
use Rattle.std.proofs.lemmas.Bool.Decides.{nat_tests}
use Rattle.bike_texts.specs.declared.ends.OrderEnd.{OrderEnd}
use Rattle.bike_texts.specs.declared.ends.OrderEnd.TheVariants as end
use Rattle.bike_texts.specs.declared.ends.Side.{Side}
use Rattle.bike_texts.specs.declared.ends.Side.TheVariants.{From, To}
use Rattle.bike_commands.specs.declared.command.Command.TheVariants as command
use Rattle.bike_operator.specs.declared.records.Bike.{Bike}
use Rattle.bike_operator.specs.declared.records.Order.{Order}
use Rattle.bike_operator.specs.declared.view.View.{View}
use Rattle.bike_operator.specs.Operator.{Operator, Station, item_numbered}
use Rattle.bike_operator.specs.Counts.{is_on_truck, is_for_order, docked_at}
use Rattle.bike_operator.specs.View.{station_view, truck_at, docked_view, empty_view, end_view, side_view, end_at, has_end}
use Rattle.bike_operator.specs.Steps.{tests, first, ends_apart, has_no_dock, refusal_of}
use Rattle.bike_operator.specs.Sound.{HasDock, IsOrderAt, AreOrdersSound}
use Rattle.bike_laws.proofs.SingleSteps.TestLemmas.{NoneHolds, none_holds, dock_of, on_row, both_hold, neither, holds, same_number}

-- the end takes a bicycle: the depot does, and a station in a dock that it has and that is empty
abbrev pub TakesBike : Operator → OrderEnd → ℕ → Type 0
TakesBike s end.Depot dock = Unit {0}
TakesBike s (end.Station station) dock = HasDock s station dock × (is_some (docked_view s (docked_at s station dock)) ≡ false)

-- the order is there, the bicycle on its truck for it, and the end takes it
pub record IsUnloaded (s : Operator) (truck order bike : ℕ) (side : Side) (dock : ℕ) (x : Order) : Type 0 where
  pub not_closed : x.is_open ≡ true
  pub truck_is : x.truck ≡ truck
  pub there : is_none (map.get s.bikes bike) ≡ false
  pub loaded : (b : Bike) → map.get s.bikes bike ≡ Some b → (is_on_truck truck b.place ≡ true) × (is_for_order order b.place ≡ true)
  pub takes : TakesBike s (end_at side x) dock

known_station : (o : Option Station) → is_some o ≡ true → is_none (station_view o) ≡ false
known_station None e = absurd cc
known_station (Some x) e = refl

end_known : (s : Operator) (side : Side) (order : ℕ) (x : Order) → IsOrderAt s order x → has_end s (end_at side x) ≡ true
end_known s From order x h = h.from_is
end_known s To order x h = h.to_is

-- the view of an unloading, beside what is at the dock
abbrev seen : Operator → ℕ → ℕ → Option Order → View → View
seen s truck bike o v = record v { truck = truck_at s truck; order = o; bike = map.get s.bikes bike }

module _ (s : Operator) (truck order bike : ℕ) (side : Side) (dock : ℕ) (x : Order) where
  at_the_end : (e : OrderEnd) → end_at side x ≡ e → has_end s e ≡ true → NoneHolds (tests (seen s truck bike (Some x) (end_view s e dock)) (command.Unload truck order bike side dock))
      → IsUnloaded s truck order bike side dock x
  at_the_end end.Depot e known tested = record {
    not_closed = holds x.is_open tested.1.1.0;
    truck_is = same_number x.truck truck (holds (x.truck == truck) tested.1.1.1.0);
    there = tested.1.1.1.1.0;
    loaded = λ b found. both_hold (is_on_truck truck b.place) (is_for_order order b.place)
        (on_row (λ (b : Bike). not (is_on_truck truck b.place && is_for_order order b.place)) (map.get s.bikes bike) b found tested.1.1.1.1.1.0);
    takes = rw e tt;
  }
  at_the_end (end.Station station) e known tested = record {
    not_closed = holds x.is_open tested.1.1.0;
    truck_is = same_number x.truck truck (holds (x.truck == truck) tested.1.1.1.0);
    there = tested.1.1.1.1.0;
    loaded = λ b found. both_hold (is_on_truck truck b.place) (is_for_order order b.place)
        (on_row (λ (b : Bike). not (is_on_truck truck b.place && is_for_order order b.place)) (map.get s.bikes bike) b found tested.1.1.1.1.1.0);
    takes = rw e (dock_of s station dock (map.get s.stations station) refl (known_station (map.get s.stations station) known) apart.1 (low apart.0), tested.1.1.1.1.1.1.1.1.0);
  }
    where
      apart : ((dock == 0) ≡ false) × (has_no_dock dock (station_view (map.get s.stations station)) ≡ false)
      apart = neither (dock == 0) (has_no_dock dock (station_view (map.get s.stations station)))
          (subst (λ (z : OrderEnd). ends_apart z (station_view (map.get s.stations station)) dock ≡ false) e tested.1.1.1.1.1.1.0)

      low : (dock == 0) ≡ false → 1 ≤ dock
      low f = grind (arith, nat_tests, f)

-- an unloading that isn't refused
pub unloaded_of : (s : Operator) (truck order bike : ℕ) (side : Side) (dock : ℕ) → AreOrdersSound s → refusal_of s (command.Unload truck order bike side dock) ≡ None
    → (x : Order) × (item_numbered order s.orders ≡ Some x) × IsUnloaded s truck order bike side dock x
unloaded_of s truck order bike side dock h free = go (item_numbered order s.orders) refl free where
  go : (o : Option Order) → item_numbered order s.orders ≡ o → first (tests (seen s truck bike o (side_view s o side dock)) (command.Unload truck order bike side dock)) ≡ None
      → (x : Order) × (item_numbered order s.orders ≡ Some x) × IsUnloaded s truck order bike side dock x
  go None e free = let tested = none_holds (tests (seen s truck bike None empty_view) (command.Unload truck order bike side dock)) free in absurd (let f = tested.1.0 in cc)
  go (Some x) e free =
      let tested = none_holds (tests (seen s truck bike (Some x) (end_view s (end_at side x) dock)) (command.Unload truck order bike side dock)) free in
      (x, e, at_the_end s truck order bike side dock x (end_at side x) refl (end_known s side order x (h.orders order x e)) tested)
