-- Orders that are opened, bicycles that are loaded and unloaded: their decisions, and what was found for them.
use Rattle.std.proofs.Common.{◌≡◌, ◌≤◌, ◌+◌, ◌-◌, ◌==◌, ℕ, zero, suc, List, [], ◌∷◌, true, false, not, ◌&&◌, Option, Some, None, is_some, is_none, Ok, refl, sym, ap, ◌∙◌, subst, arith}
use Rattle.std.specs.Prelude.{IfSome}
use Rattle.std.specs.Borrow.{Bor}
use Rattle.std.specs.FinMap as map
use Rattle.std.proofs.lemmas.Bool.Decides.{nat_tests}
use Rattle.bike_texts.specs.declared.ends.OrderEnd.{OrderEnd}
use Rattle.bike_texts.specs.declared.ends.OrderEnd.TheVariants as end
use Rattle.bike_texts.specs.declared.ends.Side.{Side}
use Rattle.bike_texts.specs.declared.ends.Side.TheVariants.{From, To}
use Rattle.bike_commands.specs.declared.command.Command.{Command}
use Rattle.bike_commands.specs.declared.command.Command.TheVariants as command
use Rattle.bike_commands.specs.declared.reply.Reply.TheVariants.{Done, Ordered}
use Rattle.bike_operator.specs.declared.change.NewPlace.TheVariants as new
use Rattle.bike_operator.specs.declared.records.Place.{Place}
use Rattle.bike_operator.specs.declared.records.Place.TheVariants as place
use Rattle.bike_operator.specs.declared.records.Bike.{Bike}
use Rattle.bike_operator.specs.declared.records.Order.{Order}
use Rattle.bike_operator.specs.declared.view.View.{View}
use Rattle.bike_operator.specs.Operator.{Operator, Station, item_at, item_in, item_numbered, item_changed, changed_in}
use Rattle.bike_operator.specs.Counts.{is_on_truck, is_for_order, is_broken, docked_at}
use Rattle.bike_operator.specs.View.{view_of, station_view, truck_at, docked_view, end_view, side_view, end_at, has_end, is_in_broken_dock, is_broken_dock}
use Rattle.bike_operator.specs.Steps.{first, tests, has_no_dock, ends_apart, order_changed, with_delivery, placed_at_end, after_unload}
use Rattle.bike_operator.specs.Changes.{place_of}
use Rattle.bike_operator.specs.Sound.{HasDock, IsOrderAt, IsSound}
use Rattle.bike_laws.specs.SingleSteps.Laws.{IsAway}
use Rattle.bike_laws.proofs.SingleSteps.TestLemmas.{NoneHolds, none_holds, none_of, on_row, both_hold, neither, dock_of}
use Rattle.bike_accepted.specs.declared.movement.BikeStatus.{BikeStatus}
use Rattle.bike_accepted.specs.declared.movement.DockAt.{DockAt}
use Rattle.bike_accepted.specs.declared.movement.Movement.{Movement}
use Rattle.bike_accepted.specs.declared.movement.Movement.TheVariants as moved
use Rattle.bike_accepted.specs.declared.change.Change.{Change}
use Rattle.bike_accepted.specs.declared.change.Change.TheVariants as change
use Rattle.bike_accepted.specs.declared.accepted.Accepted.{Accepted}
use Rattle.bike_accepted.specs.Effects.{after_moved, where_changed, Decides}
use Rattle.bike_accepted.specs.Found.{IsMovedFound, IsFound, AreFound}
use Rattle.bike_accepted.specs.Moves.{IsShown, put_from, IsPutAtEnd}
use Rattle.bike_core.proofs.Moves.{after_put, away_reach, put_found, no_dock}
use Rattle.bike_core.proofs.Views.{refused_as, shown_bike, empty_dock}

known_station : (o : Option Station) → is_some o ≡ true → is_none (station_view o) ≡ false
known_station None e = absurd cc
known_station (Some x) e = refl

end_known : (s : Operator) (side : Side) (order : ℕ) (x : Order) → IsOrderAt s order x → has_end s (end_at side x) ≡ true
end_known s From order x h = h.from_is
end_known s To order x h = h.to_is

above_zero : (n : ℕ) → (n == 0) ≡ false → 1 ≤ n
above_zero n f = grind (arith, nat_tests, f)

-- ---- a bicycle that is loaded

module _ (v : View) (now truck order bike : ℕ) where
  abbrev load : Command
  load = command.Load truck order bike

  module _ (b : Bike) (type_id : Bor (List ℕ)) (was : BikeStatus) (shown : IsShown b type_id was) (passes : None ≡ first (tests v load)) (bike_is : v.bike ≡ Some b) where
    abbrev becomes : BikeStatus
    becomes = record { state = b.state; place = new.Truck truck order }

    abbrev loaded : Accepted
    loaded = record { reply = Done; moved = Some (put_from was.place bike type_id was becomes v.is_dock_broken); change = None; entry = None }

    module _ (s : Operator) (e : v ≡ view_of s load) where
      found : map.get s.bikes bike ≡ Some b
      found = ap (λ (w : View). w.bike) (sym e) ∙ bike_is

      pub load_decided : Decides s now load (Ok loaded)
      load_decided =
          let type_is = shown.type_is in
          let place_is = shown.place_is in
          (refused_as s v load None e passes, refl, after_put now s was.place bike type_id was becomes v.is_dock_broken ∙ rw (found, type_is, place_is) refl)

      pub load_found : IsSound s → AreFound now s loaded
      load_found sound =
          let mark : is_broken_dock s b.place ≡ v.is_dock_broken = ap (is_in_broken_dock s) (sym found) ∙ ap (λ (w : View). w.is_dock_broken) (sym e) in
          record {
            moved = put_found s bike b type_id was becomes v.is_dock_broken sound.bikes found shown mark (away_reach (place_of was.place) (place.Truck truck order) tt) was.place refl;
            change = tt;
            entry = tt;
          }

-- ---- an order that is opened

pub open_order_decided : (s : Operator) (v : View) (now truck count : ℕ) (from to : Bor OrderEnd) (type_id : Bor (List ℕ)) → v ≡ view_of s (command.OpenOrder truck from.now to.now type_id.now count)
    → None ≡ first (tests v (command.OpenOrder truck from.now to.now type_id.now count))
    → Decides s now (command.OpenOrder truck from.now to.now type_id.now count)
    (Ok (record { reply = Ordered (v.orders + 1); moved = None; change = Some (change.AddOrder (v.orders + 1) truck from to type_id count); entry = None }))
open_order_decided s v now truck count from to type_id e none =
    (refused_as s v (command.OpenOrder truck from.now to.now type_id.now count) None e none, ap (λ (w : View). Ordered (w.orders + 1)) e, refl)

-- ---- an order that is closed

item_as : {A : Type 0} (n : ℕ) (f g : A → A) (xs : List A) (x : A) → item_at n xs ≡ Some x → f x ≡ g x → item_changed n f xs ≡ item_changed n g xs
item_as n f g [] x there same = absurd cc
item_as zero f g (y ∷ ys) x there same = let is : y ≡ x = cc in ap (λ z. z ∷ ys) (ap f is ∙ same ∙ sym (ap g is))
item_as (suc n) f g (y ∷ ys) x there same = ap (λ zs. y ∷ zs) (item_as n f g ys x there same)

in_as : {A : Type 0} (n : ℕ) (f g : A → A) (xs : List A) (x : A) → item_in n xs ≡ Some x → f x ≡ g x → changed_in n f xs ≡ changed_in n g xs
in_as zero f g xs x there same = refl
in_as (suc n) f g xs x there same = item_as n f g xs x there same

-- an order that is there, changed by two functions that make the same of it
pub order_as : (order : ℕ) (f g : Order → Order) (o : Order) (s : Operator) → item_numbered order s.orders ≡ Some o → f o ≡ g o → order_changed order f s ≡ order_changed order g s
order_as order f g o s there same =
    ap (λ (os : List Order). record s { orders = record s.orders { items = os } }) (in_as (order - s.orders.archived) f g s.orders.items o there same)

pub close_order_decided : (v : View) (order : ℕ) (o : Order) (s : Operator) (now : ℕ) → v ≡ view_of s (command.CloseOrder order) → v.order ≡ Some o → o.is_open ≡ true → v.on_truck ≤ 0
    → Decides s now (command.CloseOrder order) (Ok (record { reply = Done; moved = None; change = Some (change.SetOrder order o.delivered false); entry = None }))
close_order_decided v order o s now e order_is is_open few =
    let empty : v.on_truck ≡ 0 = omega (arith, few) in
    let none : None ≡ first (tests v (command.CloseOrder order)) = rw (order_is, is_open, empty) refl in
    let there = ap (λ (w : View). w.order) (sym e) ∙ order_is in
    (refused_as s v (command.CloseOrder order) None e none, refl, order_as order (λ x. record x { delivered = o.delivered; is_open = false }) (λ x. record x { is_open = false }) o s there refl)

-- ---- a bicycle that is unloaded

-- one more is delivered at the end to which the order brings bicycles
abbrev pub IsDelivery : Side → ℕ → Order → Option Change → Type 0
IsDelivery From order o c = c ≡ None
IsDelivery To order o c = c ≡ Some (change.SetOrder order (o.delivered + 1) o.is_open)

after_delivery : (side : Side) (order : ℕ) (o : Order) (co : Option Change) (s : Operator) → item_numbered order s.orders ≡ Some o → IsDelivery side order o co
    → where_changed co s ≡ with_delivery order side s
after_delivery From order o co s there made = rw made refl
after_delivery To order o co s there made =
    rw made (order_as order (λ x. record x { delivered = o.delivered + 1; is_open = o.is_open }) (λ x. record x { delivered = x.delivered + 1 }) o s there refl)

orders_left : (now order : ℕ) (m : Movement) (s : Operator) → item_numbered order (after_moved now m s).orders ≡ item_numbered order s.orders
orders_left now order (moved.Away bike type_id was next) s = refl
orders_left now order (moved.AtDock at bike type_id was next) s = refl
orders_left now order (moved.AddDocks station was count) s = refl
orders_left now order (moved.Marked at held broken) s = refl

-- put at an end
after_end_put : (e : OrderEnd) (now bike dock : ℕ) (b : Bike) (type_id : Bor (List ℕ)) (was : BikeStatus) (m : Movement) (s : Operator) → map.get s.bikes bike ≡ Some b → IsShown b type_id was
    → IsPutAtEnd e bike type_id was dock m
    → after_moved now m s ≡ placed_at_end bike e dock now s
after_end_put end.Depot now bike dock b type_id was m s found shown made = let type_is = shown.type_is in let state_is = shown.state_is in rw (made, found, type_is, state_is) refl
after_end_put (end.Station station) now bike dock b type_id was m s found shown made =
    let type_is = shown.type_is in
    let state_is = shown.state_is in
    let put = made.2 in
    let same = made.1 in
    rw (put, found, type_is, state_is, same) refl

-- the bicycle is on a truck
on_truck_away : (truck : ℕ) (p : Place) → is_on_truck truck p ≡ true → IsAway p
on_truck_away truck (place.Dock station dock) h = absurd cc
on_truck_away truck (place.Rental rental) h = tt
on_truck_away truck (place.Truck on order) h = tt
on_truck_away truck place.Depot h = tt

-- what the tests of an end say: the depot has none, and a station's dock is there, works and is empty
abbrev pub TakesAt : Operator → OrderEnd → ℕ → Type 0
TakesAt s end.Depot dock = Unit {0}
TakesAt s (end.Station station) dock = HasDock s station dock × (is_broken s station dock ≡ false) × (docked_at s station dock ≡ None)

end_found : (e : OrderEnd) (bike dock : ℕ) (b : Bike) (type_id : Bor (List ℕ)) (was : BikeStatus) (m : Movement) (s : Operator) → map.get s.bikes bike ≡ Some b → IsShown b type_id was → IsAway b.place
    → TakesAt s e dock
    → IsPutAtEnd e bike type_id was dock m → IsMovedFound s m
end_found end.Depot bike dock b type_id was m s found shown away takes made =
    let from = subst IsAway (sym shown.place_is) away in
    subst (IsMovedFound s) (sym made) (record { found = found ∙ ap (λ (x : Bike). Some x) (sym (shown_bike b type_id was shown)); from_away = from; to_away = tt })
end_found (end.Station station) bike dock b type_id was m s found shown away takes made =
    let x = made.0 in
    let at : DockAt = record { station = x; dock = dock; is_broken = false } in
    let here = subst (λ (id : List ℕ). HasDock s id dock × (is_broken s id dock ≡ false) × (docked_at s id dock ≡ None)) (sym made.1) takes in
    let from = subst IsAway (sym shown.place_is) away in
    subst (IsMovedFound s) (sym made.2) (record {
      found = found ∙ ap (λ (y : Bike). Some y) (sym (shown_bike b type_id was shown));
      dock = record { has = here.0; mark = here.1 };
      from_is = no_dock at (place_of was.place) from;
      to_is = (refl, refl);
      free = λ is_away. (here.2, refl);
    })

module _ (v : View) (now truck order bike : ℕ) (side : Side) (dock : ℕ) where
  abbrev unload : Command
  unload = command.Unload truck order bike side dock

  module _ (b : Bike) (o : Order) (type_id : Bor (List ℕ)) (was : BikeStatus) (m : Movement) (co : Option Change) (shown : IsShown b type_id was) (passes : None ≡ first (tests v unload))
      (bike_is : v.bike ≡ Some b)
      (order_is : v.order ≡ Some o) (put : IsPutAtEnd (end_at side o) bike type_id was dock m) (delivery : IsDelivery side order o co) where
    abbrev unloaded : Accepted
    unloaded = record { reply = Done; moved = Some m; change = co; entry = None }

    module _ (s : Operator) (e : v ≡ view_of s unload) where
      bike_there : map.get s.bikes bike ≡ Some b
      bike_there = ap (λ (w : View). w.bike) (sym e) ∙ bike_is

      order_there : item_numbered order s.orders ≡ Some o
      order_there = ap (λ (w : View). w.order) (sym e) ∙ order_is

      pub unload_decided : Decides s now unload (Ok unloaded)
      unload_decided =
          let placed = after_end_put (end_at side o) now bike dock b type_id was m s bike_there shown put in (
            refused_as s v unload None e passes,
            refl,
            after_delivery side order o co (after_moved now m s) (orders_left now order m s ∙ order_there) delivery ∙ ap (with_delivery order side) placed
                ∙ sym (ap (λ (z : Option Order). after_unload order bike side dock now z s) order_there),
          )

      -- what is known of the end, by its tests
      takes : IsSound s → (at : OrderEnd) → end_at side o ≡ at → has_end s at ≡ true
          → NoneHolds (tests (record (end_view s at dock) { truck = truck_at s truck; order = Some o; bike = map.get s.bikes bike }) unload) → TakesAt s at dock
      takes sound end.Depot is known tested = tt
      takes sound (end.Station station) is known tested =
          let apart = neither (dock == 0) (has_no_dock dock (station_view (map.get s.stations station)))
          (subst (λ (z : OrderEnd). ends_apart z (station_view (map.get s.stations station)) dock ≡ false) is tested.1.1.1.1.1.1.0) in (
            dock_of s station dock (map.get s.stations station) refl (known_station (map.get s.stations station) known) apart.1 (above_zero dock apart.0),
            tested.1.1.1.1.1.1.1.0,
            empty_dock s station dock sound.bikes (none_of (docked_view s (docked_at s station dock)) tested.1.1.1.1.1.1.1.1.0),
          )

      pub unload_found : IsSound s → AreFound now s unloaded
      unload_found sound =
          let refused = refused_as s v unload None e passes in
          let tested = none_holds (tests (record (end_view s (end_at side o) dock) { truck = truck_at s truck; order = Some o; bike = map.get s.bikes bike }) unload)
          (subst (λ (z : Option Order). first (tests (record (side_view s z side dock) { truck = truck_at s truck; order = z; bike = map.get s.bikes bike }) unload) ≡ None) order_there refused) in
          let on = both_hold (is_on_truck truck b.place) (is_for_order order b.place)
          (on_row (λ (x : Bike). not (is_on_truck truck x.place && is_for_order order x.place)) (map.get s.bikes bike) b bike_there tested.1.1.1.1.1.0) in
          let at = takes sound (end_at side o) refl (end_known s side order o (sound.orders.orders order o order_there)) tested in
          record {
            moved = end_found (end_at side o) bike dock b type_id was m s bike_there shown (on_truck_away truck b.place on.0) at put;
            change = delivered side delivery;
            entry = tt;
          }
        where
          delivered : (d : Side) → IsDelivery d order o co → IfSome co (IsFound (after_moved now m s))
          delivered From made = subst (λ (z : Option Change). IfSome z (IsFound (after_moved now m s))) (sym made) tt
          delivered To made = subst (λ (z : Option Change). IfSome z (IsFound (after_moved now m s))) (sym made) tt
