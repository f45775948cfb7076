-- Rentals that start, end and are recovered, refunds and top-ups: their decisions, and what was found for them.
use Rattle.std.proofs.Common.{◌≡◌, ℕ, ℤ, pos, ◌+◌, ◌≤◌, ◌+ℤ◌, List, Bool, true, false, not, cond, Option, Some, None, is_none, Ok, refl, sym, ap, ◌∙◌, subst}
use Rattle.std.specs.Prelude.{IfSome}
use Rattle.std.specs.Ordering.{nat_cmp, eq_by_cmp}
use Rattle.std.specs.Cmp.{nat_cmp_total}
use Rattle.std.proofs.lemmas.Cmp.{eq_by_cmp_equiv}
use Rattle.std.specs.Borrow.{Bor}
use Rattle.std.specs.FinMap as map
use Rattle.std.specs.FinMap.{FinMap}
use Rattle.bike_ledger.specs.Entries.{Entry}
use Rattle.bike_ledger.specs.declared.entry.EntryKind.TheVariants as kind
use Rattle.bike_ledger.specs.Ledger.{credit}
use Rattle.bike_commands.specs.declared.command.Command.{Command}
use Rattle.bike_commands.specs.declared.command.Command.TheVariants as command
use Rattle.bike_commands.specs.declared.reply.Reply.TheVariants.{Balance, Started, Ended}
use Rattle.bike_operator.specs.declared.change.NewPlace.TheVariants as new
use Rattle.bike_operator.specs.declared.records.BikeState.TheVariants.{Disabled}
use Rattle.bike_operator.specs.declared.records.Place.TheVariants as place
use Rattle.bike_operator.specs.declared.records.Bike.{Bike}
use Rattle.bike_operator.specs.declared.records.Closing.{Closing}
use Rattle.bike_operator.specs.declared.records.Rental.{Rental}
use Rattle.bike_operator.specs.declared.view.DockedBike.{DockedBike}
use Rattle.bike_operator.specs.declared.view.RentalView.{RentalView}
use Rattle.bike_operator.specs.declared.view.RiderView.{RiderView}
use Rattle.bike_operator.specs.declared.view.View.{View}
use Rattle.bike_operator.specs.Operator.{Operator, item_numbered, last_number}
use Rattle.bike_operator.specs.Counts.{is_open, docked_at}
use Rattle.bike_operator.specs.View.{view_of, docked_view, rental_of, rental_view, bike_of, rider_view, rider_balance}
use Rattle.bike_operator.specs.Steps.{first, tests, fare_now, effect, reply_of, found_changed, key_changed, with_fare, plan_for}
use Rattle.bike_operator.specs.Changes.{place_of, entry_added}
use Rattle.bike_operator.specs.Sound.{IsSound, IsOut, IsOpenOrClosed}
use Rattle.bike_laws.specs.SingleSteps.Laws.{IsAway}
use Rattle.bike_laws.proofs.SingleSteps.FoundLemmas.{ridden_in, IsRentalRow, rental_row}
use Rattle.bike_laws.proofs.SingleSteps.TestLemmas.{NoneHolds, none_holds, none_of, same_some, on_row, holds, dock_of}
use Rattle.bike_accepted.specs.declared.movement.BikeStatus.{BikeStatus}
use Rattle.bike_accepted.specs.declared.movement.Movement.{Movement}
use Rattle.bike_accepted.specs.declared.movement.Movement.TheVariants as moved
use Rattle.bike_accepted.specs.declared.change.Change.TheVariants as change
use Rattle.bike_accepted.specs.declared.accepted.BookedEntry.{BookedEntry}
use Rattle.bike_accepted.specs.declared.accepted.Accepted.{Accepted}
use Rattle.bike_accepted.specs.Effects.{bike_in, effect_of, Decides}
use Rattle.bike_accepted.specs.Found.{IsMovedFound, IsNoOtherDock, IsAtDockFound, IsBookedFound, AreFound}
use Rattle.bike_accepted.specs.Moves.{IsShown}
use Rattle.bike_core.specs.Recovered.{IsRecovered}
use Rattle.bike_core.proofs.Moves.{IsDockedRow, docked_row}
use Rattle.bike_core.proofs.Views.{refused_as, shown_bike, empty_dock, balance_after_entry, rental_balance, bike_balance, rental_refunds, row_balance, row_plan}

abbrev pub fare_entry : ℕ → RentalView → ℕ → Entry
fare_entry number r now = record { number = number; kind = kind.Fare; rider = r.rental.rider; rental = r.number; amount = fare_now r now; at = now }

abbrev pub refund_entry : ℕ → RentalView → ℕ → ℕ → Entry
refund_entry number r amount now = record { number = number; kind = kind.Refund; rider = r.rental.rider; rental = r.number; amount = pos amount; at = now }

abbrev pub top_up_entry : ℕ → ℕ → ℕ → ℕ → Entry
top_up_entry number rider amount now = record { number = number; kind = kind.TopUp; rider = rider; rental = 0; amount = pos amount; at = now }

-- the bicycle of an open rental is in it
open_out : (s : Operator) (number : ℕ) (r : Rental) (o : Option Closing) → r.closing ≡ o → is_open r ≡ true → IsOpenOrClosed s number r r.closing → IsOut s number r.bike
open_out s number r None is not_closed h = subst (IsOpenOrClosed s number r) is h
open_out s number r (Some c) is not_closed h = absurd (let no : is_none r.closing ≡ false = ap is_none is in cc)

-- a bicycle's record put twice is put once
put_twice : {X : Type 0} (m : FinMap nat_cmp X) (k : ℕ) (a b : X) → map.insert (map.insert m k a) k b ≡ map.insert m k b
put_twice {X} m k a b = map.same_map nat_cmp_total map.nat_cmp-IsAntisymmetric _ _ (λ q.
    map.get-insert nat_cmp_total (map.insert m k a) k b q ∙ ap (cond (eq_by_cmp nat_cmp q k) (Some b)) (map.get-insert nat_cmp_total m k a q) ∙ go (eq_by_cmp nat_cmp q k) (map.get m q)
    ∙ sym (map.get-insert nat_cmp_total m k b q))
  where
    go : (e : Bool) (o : Option X) → cond e (Some b) (cond e (Some a) o) ≡ cond e (Some b) o
    go true o = refl
    go false o = refl

put_there : {X : Type 0} (m : FinMap nat_cmp X) (k : ℕ) (a : X) → map.get (map.insert m k a) k ≡ Some a
put_there m k a = map.get-insert nat_cmp_total m k a k ∙ ap (λ (e : Bool). cond e (Some a) (map.get m k)) ((eq_by_cmp_equiv nat_cmp_total).refl k)

recovered_bikes : (m : FinMap nat_cmp Bike) (bike : ℕ) (b : Bike) → map.get m bike ≡ Some b
    → key_changed (key_changed m bike (λ x. record x { place = place.Depot })) bike (λ x. record x { state = Disabled })
    ≡ map.insert m bike (record { type_id = b.type_id; state = Disabled; place = place.Depot })
recovered_bikes m bike b found =
    let one_put = ap (found_changed m bike (λ x. record x { place = place.Depot })) found in
    let put : Bike = record b { place = place.Depot } in
    ap (λ (z : FinMap nat_cmp Bike). key_changed z bike (λ x. record x { state = Disabled })) one_put
    ∙ ap (found_changed (map.insert m bike put) bike (λ x. record x { state = Disabled })) (put_there m bike put)
    ∙ put_twice m bike put (record { type_id = b.type_id; state = Disabled; place = place.Depot })

-- the fare that is booked
pub record IsFareBooked (entries now : ℕ) (r : RentalView) (b : BookedEntry) : Type 0 where
  pub entry_is : b.entry ≡ fare_entry (entries + 1) r now
  pub balance_is : b.balance ≡ r.balance +ℤ credit kind.Fare (fare_now r now)
  pub refunded_is : b.refunded ≡ None

module _ (v : View) (now bike dock : ℕ) (station : Bor (List ℕ)) where
  abbrev end : Command
  end = command.End bike station.now dock

  module _ (b : Bike) (r : RentalView) (type_id : Bor (List ℕ)) (was : BikeStatus) (booked : BookedEntry) (shown : IsShown b type_id was) (fare : IsFareBooked v.entries now r booked)
      (passes : None ≡ first (tests v end)) (bike_is : v.bike ≡ Some b) (rental_is : v.rental ≡ Some r) where
    abbrev becomes : BikeStatus
    becomes = record { state = was.state; place = new.Dock station dock }

    abbrev ended : Accepted
    ended = record {
      reply = Ended booked.entry.amount booked.balance;
      moved = Some (moved.AtDock (record { station = station; dock = dock; is_broken = false }) bike type_id was becomes);
      change = Some (change.CloseRental r.number (Some station) booked.entry.at booked.entry.amount);
      entry = Some booked;
    }

    module _ (s : Operator) (e : v ≡ view_of s end) where
      found : map.get s.bikes bike ≡ Some b
      found = ap (λ (w : View). w.bike) (sym e) ∙ bike_is

      rental : rental_of s (map.get s.bikes bike) ≡ Some r
      rental = ap (λ (w : View). w.rental) (sym e) ∙ rental_is

      count : v.entries ≡ last_number s.entries
      count = ap (λ (w : View). w.entries) e

      pub end_decided : Decides s now end (Ok ended)
      end_decided =
          let balance = balance_after_entry s (fare_entry (last_number s.entries + 1) r now) r.balance (bike_balance s (map.get s.bikes bike) r rental) in
          let entry = fare.entry_is in
          let after = fare.balance_is in
          let type_is = shown.type_is in
          let state_is = shown.state_is in
          (refused_as s v end None e passes, rw (entry, after, rental) (ap (Ended (fare_now r now)) (sym balance)), rw (entry, rental, found, count, type_is, state_is) refl)

      module _ (sound : IsSound s) (low : 1 ≤ dock) where
        none : NoneHolds (tests (view_of s end) end)
        none = none_holds (tests (view_of s end) end) (refused_as s v end None e passes)

        -- the bicycle is in its rental
        away : IsNoOtherDock (record { station = station; dock = dock; is_broken = false }) (place_of was.place)
        away =
            let ridden = ridden_in s bike r rental in
            let same = same_some ridden.row b (sym ridden.found ∙ found) in
            let in_rental : place_of was.place ≡ place.Rental r.number = shown.place_is ∙ ap (λ (x : Bike). x.place) (sym same) ∙ ridden.placed in
            subst (IsNoOtherDock (record { station = station; dock = dock; is_broken = false })) (sym in_rental) tt

        at_dock : IsAtDockFound s (record { station = station; dock = dock; is_broken = false }) bike type_id was becomes
        at_dock = record {
          found = found ∙ ap (λ (x : Bike). Some x) (sym (shown_bike b type_id was shown));
          dock = record { has = dock_of s station.now dock (map.get s.stations station.now) refl none.1.1.0 none.1.1.1.0 low; mark = none.1.1.1.1.1.0 };
          from_is = away;
          to_is = (refl, refl);
          free = λ is_away. (empty_dock s station.now dock sound.bikes (none_of (docked_view s (docked_at s station.now dock)) none.1.1.1.1.1.1.0), refl);
        }

        entry_found : IsBookedFound s booked
        entry_found =
            let entry = fare.entry_is in
            let balance = bike_balance s (map.get s.bikes bike) r rental in
            record {
              number_is = ap (λ (x : Entry). x.number) entry ∙ ap (λ (n : ℕ). n + 1) count;
              balance_is = fare.balance_is ∙ rw entry (ap (λ (z : ℤ). z +ℤ credit kind.Fare (fare_now r now)) (sym balance));
              refunded_is = (let none = fare.refunded_is in rw (none, entry) refl);
            }

        pub end_found : AreFound now s ended
        end_found = record { moved = at_dock; change = tt; entry = entry_found }

-- ---- a start

module _ (v : View) (now rider dock : ℕ) (station plan type_id : Bor (List ℕ)) where
  abbrev start : Command
  start = command.Start rider station.now dock

  module _ (row : RiderView) (d : DockedBike) (passes : None ≡ first (tests v start)) (rider_is : v.rider ≡ Some row) (docked_is : v.docked ≡ Some d) (plan_is : plan.now ≡ plan_for row.plan d.plan)
      (type_is : type_id.now ≡ d.type_id) where
    abbrev stood : BikeStatus
    stood = record { state = d.state; place = new.Dock station dock }

    abbrev rides : BikeStatus
    rides = record { state = d.state; place = new.Rental (v.rentals + 1) }

    abbrev started : Accepted
    started = record {
      reply = Started (v.rentals + 1) d.bike;
      moved = Some (moved.AtDock (record { station = station; dock = dock; is_broken = false }) d.bike type_id stood rides);
      change = Some (change.AddRental (v.rentals + 1) rider d.bike plan station now);
      entry = None;
    }

    module _ (s : Operator) (e : v ≡ view_of s start) where
      docked : docked_view s (docked_at s station.now dock) ≡ Some d
      docked = ap (λ (w : View). w.docked) (sym e) ∙ docked_is

      in_dock : IsDockedRow s station.now dock d
      in_dock = docked_row s station.now dock d docked

      rider_row : rider_view s rider (map.get s.riders rider) ≡ Some row
      rider_row = ap (λ (w : View). w.rider) (sym e) ∙ rider_is

      pub start_decided : Decides s now start (Ok started)
      start_decided =
          let count : v.rentals ≡ last_number s.rentals = ap (λ (w : View). w.rentals) e in
          let found = in_dock.found in
          let row_type = in_dock.type_is in
          let row_state = in_dock.state_is in
          let own = row_plan s rider (map.get s.riders rider) row rider_row in
          (refused_as s v start None e passes, rw (docked, count) refl, rw (docked, count, plan_is, own, type_is, found, row_type, row_state) refl)

      pub start_found : IsSound s → 1 ≤ dock → AreFound now s started
      start_found sound low =
          let none = none_holds (tests (view_of s start) start) (refused_as s v start None e passes) in
          let same : in_dock.row ≡ bike_in type_id stood = (λ i. record { type_id = (in_dock.type_is ∙ sym type_is) i; state = in_dock.state_is i; place = in_dock.place_is i }) in
          record {
            moved = record {
              found = in_dock.found ∙ ap (λ (x : Bike). Some x) same;
              dock = record { has = dock_of s station.now dock (map.get s.stations station.now) refl none.1.1.1.1.0 none.1.1.1.1.1.0 low; mark = none.1.1.1.1.1.1.1.0 };
              from_is = (refl, refl);
              to_is = tt;
              free = λ is_away. absurd is_away;
            };
            change = ap (λ (w : View). w.rentals + 1) e;
            entry = tt;
          }

-- ---- a recovery

module _ (v : View) (now rental : ℕ) (r : RentalView) (booked : BookedEntry) (fare : IsFareBooked v.entries now r booked) (passes : None ≡ first (tests v (command.Recover rental)))
    (rental_is : v.rental ≡ Some r)
    (mo : Option Movement) (recovered : IsRecovered r.rental.bike v.bike mo) where
  abbrev recovery : Command
  recovery = command.Recover rental

  abbrev closed : Accepted
  closed = record { reply = Ended booked.entry.amount booked.balance; moved = mo; change = Some (change.CloseRental r.number None booked.entry.at booked.entry.amount); entry = Some booked }

  module _ (s : Operator) (e : v ≡ view_of s recovery) where
    shown : rental_view s rental (item_numbered rental s.rentals) ≡ Some r
    shown = ap (λ (w : View). w.rental) (sym e) ∙ rental_is

    row : IsRentalRow s rental r
    row = rental_row s rental r shown

    bike_there : v.bike ≡ map.get s.bikes r.rental.bike
    bike_there = ap (λ (w : View). w.bike) e ∙ ap (bike_of s) row.found

    entries_are : v.entries ≡ last_number s.entries
    entries_are = ap (λ (w : View). w.entries) e

    made : IsRecovered r.rental.bike (map.get s.bikes r.rental.bike) mo
    made = subst (λ (o : Option Bike). IsRecovered r.rental.bike o mo) bike_there recovered

    after : (o : Option Bike) → map.get s.bikes r.rental.bike ≡ o → IsRecovered r.rental.bike o mo → effect_of now closed s ≡ effect s now recovery
    after None absent m = let entry = fare.entry_is in rw (m, entry, shown, entries_are, absent, absent) refl
    after (Some b) there m =
        let entry = fare.entry_is in
        let type_is = m.2.type_is in
        let put = m.3 in
        rw (put, entry, shown, entries_are, type_is) (ap (λ (z : FinMap nat_cmp Bike). record (with_fare r None now s) { bikes = z }) (sym (recovered_bikes s.bikes r.rental.bike b there)))

    pub recover_decided : Decides s now recovery (Ok closed)
    recover_decided =
        let balance = balance_after_entry s (fare_entry (last_number s.entries + 1) r now) r.balance (rental_balance s rental (item_numbered rental s.rentals) r shown) in
        let entry = fare.entry_is in
        let balance_is = fare.balance_is in
        (refused_as s v recovery None e passes, rw (entry, balance_is, shown) (ap (Ended (fare_now r now)) (sym balance)), after (map.get s.bikes r.rental.bike) refl made)

    -- the bicycle is in its rental, which is open
    put_away : IsSound s → (o : Option Bike) → map.get s.bikes r.rental.bike ≡ o → IsRecovered r.rental.bike o mo → IfSome mo (IsMovedFound s)
    put_away sound None absent m = subst (λ (z : Option Movement). IfSome z (IsMovedFound s)) (sym m) tt
    put_away sound (Some b) there m =
        let type_id = m.0 in
        let was = m.1 in
        let shown_so = m.2 in
        let tested = none_holds (tests (view_of s recovery) recovery) (refused_as s v recovery None e passes) in
        let not_closed = holds (is_open r.rental) (on_row (λ (x : RentalView). not (is_open x.rental)) (rental_view s rental (item_numbered rental s.rentals)) r shown tested.1.0) in
        let out : IsOut s rental r.rental.bike = open_out s rental r.rental r.rental.closing refl not_closed (sound.rentals.rentals rental r.rental row.found).closing in
        let same = same_some out.row b (sym out.found ∙ there) in
        let in_rental : place_of was.place ≡ place.Rental rental = shown_so.place_is ∙ ap (λ (x : Bike). x.place) (sym same) ∙ out.place_is in
        subst (λ (z : Option Movement). IfSome z (IsMovedFound s)) (sym m.3)
        (record { found = there ∙ ap (λ (x : Bike). Some x) (sym (shown_bike b type_id was shown_so)); from_away = subst IsAway (sym in_rental) tt; to_away = tt })

    pub recover_found : IsSound s → AreFound now s closed
    recover_found sound =
        let entry = fare.entry_is in
        let balance = rental_balance s rental (item_numbered rental s.rentals) r shown in
        record {
          moved = put_away sound (map.get s.bikes r.rental.bike) refl made;
          change = tt;
          entry = record {
            number_is = ap (λ (x : Entry). x.number) entry ∙ ap (λ (n : ℕ). n + 1) entries_are;
            balance_is = fare.balance_is ∙ rw entry (ap (λ (z : ℤ). z +ℤ credit kind.Fare (fare_now r now)) (sym balance));
            refunded_is = (let none = fare.refunded_is in rw (none, entry) refl);
          };
        }

-- ---- a refund

module _ (v : View) (now rental amount : ℕ) (r : RentalView) (booked : BookedEntry) (passes : None ≡ first (tests v (command.Refund rental amount))) (rental_is : v.rental ≡ Some r)
    (entry_is : booked.entry ≡ refund_entry (v.entries + 1) r amount now) (balance_is : booked.balance ≡ r.balance +ℤ pos amount)
    (refunded_is : booked.refunded ≡ Some (r.refunded +ℤ pos amount)) where
  abbrev refund : Command
  refund = command.Refund rental amount

  abbrev given : Accepted
  given = record { reply = Balance booked.balance; moved = None; change = None; entry = Some booked }

  module _ (s : Operator) (e : v ≡ view_of s refund) where
    of : rental_view s rental (item_numbered rental s.rentals) ≡ Some r
    of = ap (λ (w : View). w.rental) (sym e) ∙ rental_is

    so_many : v.entries ≡ last_number s.entries
    so_many = ap (λ (w : View). w.entries) e

    pub refund_decided : Decides s now refund (Ok given)
    refund_decided =
        let balance = balance_after_entry s (refund_entry (last_number s.entries + 1) r amount now) r.balance (rental_balance s rental (item_numbered rental s.rentals) r of) in
        (refused_as s v refund None e passes, rw (balance_is, of) (ap Balance (sym balance)), rw (entry_is, of, so_many) refl)

    pub refund_found : AreFound now s given
    refund_found =
        let balance = rental_balance s rental (item_numbered rental s.rentals) r of in
        let refunds = rental_refunds s rental (item_numbered rental s.rentals) r of in
        record {
          moved = tt;
          change = tt;
          entry = record {
            number_is = ap (λ (x : Entry). x.number) entry_is ∙ ap (λ (n : ℕ). n + 1) so_many;
            balance_is = balance_is ∙ rw entry_is (ap (λ (z : ℤ). z +ℤ pos amount) (sym balance));
            refunded_is = rw (refunded_is, entry_is) (ap (λ (z : ℤ). z +ℤ pos amount) (sym refunds));
          };
        }

-- ---- a top-up

module _ (v : View) (now rider amount : ℕ) (row : RiderView) (booked : BookedEntry) (rider_is : v.rider ≡ Some row) (room : v.is_ledger_full ≡ false)
    (entry_is : booked.entry ≡ top_up_entry (v.entries + 1) rider amount now) (balance_is : booked.balance ≡ row.balance +ℤ pos amount) (refunded_is : booked.refunded ≡ None) where
  abbrev top_up : Command
  top_up = command.TopUp rider amount

  abbrev paid : Accepted
  paid = record { reply = Balance booked.balance; moved = None; change = None; entry = Some booked }

  module _ (s : Operator) (e : v ≡ view_of s top_up) where
    known : rider_view s rider (map.get s.riders rider) ≡ Some row
    known = ap (λ (w : View). w.rider) (sym e) ∙ rider_is

    numbered : v.entries ≡ last_number s.entries
    numbered = ap (λ (w : View). w.entries) e

    pub top_up_decided : Decides s now top_up (Ok paid)
    top_up_decided =
        let none : None ≡ first (tests v top_up) = rw (rider_is, room) refl in
        let balance = balance_after_entry s (top_up_entry (last_number s.entries + 1) rider amount now) row.balance (row_balance s rider (map.get s.riders rider) row known) in
        (refused_as s v top_up None e none, balance_is_reply balance, rw (entry_is, numbered) refl)
      where
        balance_is_reply : rider_balance (entry_added (Some (top_up_entry (last_number s.entries + 1) rider amount now)) s) rider ≡ row.balance +ℤ pos amount
            → Balance booked.balance ≡ reply_of s now top_up
        balance_is_reply b = ap Balance (balance_is ∙ sym b)

    pub top_up_found : AreFound now s paid
    top_up_found =
        let balance = row_balance s rider (map.get s.riders rider) row known in
        record {
          moved = tt;
          change = tt;
          entry = record {
            number_is = ap (λ (x : Entry). x.number) entry_is ∙ ap (λ (n : ℕ). n + 1) numbered;
            balance_is = balance_is ∙ rw entry_is (ap (λ (z : ℤ). z +ℤ pos amount) (sym balance));
            refunded_is = rw (refunded_is, entry_is) refl;
          };
        }
