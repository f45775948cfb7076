-- The numbers of a view are bounded.
use Rattle.std.proofs.Common.{◌≡◌, ℕ, ℤ, ◌+◌, ◌+ℤ◌, ◌<◌, ◌≤◌, ◌≤ℤ◌, pos, length, true, false, Option, Some, None, refl, sym, ap, subst, arith}
use Rattle.std.specs.Prelude.{IfSome, IfNone, is_none}
use Rattle.std.specs.FinMap as finmap
use Rattle.bike_ledger.specs.Ledger.{balance_of, refunded_of, IsBalance}
use Rattle.std.proofs.lemmas.Int.{ints}
use Rattle.bike_texts.specs.declared.ends.OrderEnd.{OrderEnd}
use Rattle.bike_texts.specs.declared.ends.OrderEnd.TheVariants as end
use Rattle.bike_texts.specs.declared.ends.Side.{Side}
use Rattle.bike_commands.specs.declared.command.Command.{Command}
use Rattle.bike_commands.specs.declared.command.Command.TheVariants as command
use Rattle.bike_operator.specs.declared.limits.TheConstants.{MOST_ENTRIES}
use Rattle.bike_operator.specs.declared.records.Closing.{Closing}
use Rattle.bike_operator.specs.declared.records.Order.{Order}
use Rattle.bike_operator.specs.declared.view.RentalView.{RentalView}
use Rattle.bike_operator.specs.declared.view.StationView.{StationView}
use Rattle.bike_operator.specs.declared.view.View.{View}
use Rattle.bike_operator.specs.Operator.{Operator, Rider, item_numbered, last_number}
use Rattle.bike_operator.specs.Counts.{order_load, open_rentals, is_open}
use Rattle.bike_operator.specs.View.{before_of, rider_balance, has_full_ledger, station_at, rider_view, rental_at, rental_of, end_at, end_view, side_view, view_of}
use Rattle.bike_operator.specs.Sound.{IsSound, most_refunded}
use Rattle.bike_operator.specs.Bounds.{IsChargeable, IsRefundable, IsBounded}
use Rattle.bike_laws.proofs.NumberLemmas.{count_some}
use Rattle.bike_laws.proofs.EntryLemmas.{amounts_of, refunded_low, balance_within, both_sums}
use Rattle.bike_laws.proofs.ReplyLemmas.{before_within}
use Rattle.bike_laws.proofs.FoundLemmas.{each_some, below_of, IsViewOf, view_is, rental_is}

-- ---- room

room_of : (s : Operator) → has_full_ledger s ≡ false → last_number s.entries + open_rentals s < MOST_ENTRIES
room_of s room = below_of MOST_ENTRIES (last_number s.entries + open_rentals s) room

-- where there is room for an entry, each balance takes one more
balance_bounded : (s : Operator) (rider : ℕ) → IsSound s → last_number s.entries < MOST_ENTRIES → IsBalance (rider_balance s rider)
balance_bounded s rider sound room =
    let within = both_sums s.entries.archived (length s.entries.items) (before_of (finmap.get s.riders rider)) (balance_of rider s.entries.items)
    (before_within s rider (finmap.get s.riders rider) refl sound.ledger) (balance_within s.entries.items rider (amounts_of s sound.ledger)) in
    let low = within.low in
    let high = within.high in
    record { low = omega (arith, ints, room, low); high = omega (arith, ints, room, high) }

rentals_bounded : (s : Operator) → IsSound s → has_full_ledger s ≡ false → last_number s.rentals < MOST_ENTRIES
rentals_bounded s sound room =
    let left = room_of s room in
    let few = sound.rentals.few_rentals in
    omega (arith, left, few)

rider_bounded : (s : Operator) (rider : ℕ) (o : Option Rider) → finmap.get s.riders rider ≡ o → IsSound s → has_full_ledger s ≡ false → IfSome (rider_view s rider o) (λ r. IsBalance r.balance)
rider_bounded s rider None e sound room = tt
rider_bounded s rider (Some r) e sound room =
    let left = room_of s room in
    subst (λ (o : Option Rider). IsBalance (before_of o +ℤ balance_of rider s.entries.items)) e (balance_bounded s rider sound (omega (arith, left)))

-- ---- rentals

viewed_bounded : (s : Operator) (r : RentalView) → IsSound s → IsViewOf s r → last_number s.entries < MOST_ENTRIES → IsBalance r.balance
viewed_bounded s r sound v room = subst IsBalance (sym v.balance_is) (balance_bounded s r.rental.rider sound room)

charge_bounded : (s : Operator) (now : ℕ) (r : RentalView) → IsSound s → s.now ≤ now → IsViewOf s r → (o : Option Closing) → r.rental.closing ≡ o → IfNone o (IsChargeable (last_number s.entries) now r)
charge_bounded s now r sound later v None is =
    let began = (sound.rentals.rentals r.number r.rental v.found).by_now in
    let one : 1 ≤ open_rentals s = count_some (λ x. is_open x) r.number s.rentals r.rental v.found (ap (λ (c : Option Closing). is_none c) is) in
    let few = sound.ledger.few_entries in
    let room : last_number s.entries < MOST_ENTRIES = omega (arith, one, few) in
    record { began = omega (arith, began, later); room = room; balance = viewed_bounded s r sound v room }
charge_bounded s now r sound later v (Some c) is = tt

refund_bounded : (s : Operator) (r : RentalView) → IsSound s → IsViewOf s r → (o : Option Closing) → r.rental.closing ≡ o → IfSome o (λ c. IsRefundable (last_number s.entries) r c.fare)
refund_bounded s r sound v None is = tt
refund_bounded s r sound v (Some c) is =
    let at = sound.rentals.rentals r.number r.rental v.found in
    let low : pos 0 ≤ℤ refunded_of r.number s.entries.items = refunded_low s.entries.items r.number (amounts_of s sound.ledger) in
    let high : refunded_of r.number s.entries.items ≤ℤ c.fare = subst (λ (o : Option Closing). refunded_of r.number s.entries.items ≤ℤ most_refunded o) is at.refunded in
    record {
      low = subst (λ (z : ℤ). pos 0 ≤ℤ z) (sym v.refunded_is) low;
      high = subst (λ (z : ℤ). z ≤ℤ c.fare) (sym v.refunded_is) high;
      balance = λ room. viewed_bounded s r sound v room;
    }

-- a rental in a view: what is booked of it is bounded
charges_bounded : (s : Operator) (now : ℕ) (o : Option RentalView) → IsSound s → s.now ≤ now → ((r : RentalView) → o ≡ Some r → IsViewOf s r)
    → IfSome o (λ r. IfNone r.rental.closing (IsChargeable (last_number s.entries) now r))
charges_bounded s now o sound later viewed =
    each_some o (λ r. IfNone r.rental.closing (IsChargeable (last_number s.entries) now r)) (λ r i. charge_bounded s now r sound later (viewed r i) r.rental.closing refl)

refunds_bounded : (s : Operator) (o : Option RentalView) → IsSound s → ((r : RentalView) → o ≡ Some r → IsViewOf s r)
    → IfSome o (λ r. IfSome r.rental.closing (λ c. IsRefundable (last_number s.entries) r c.fare))
refunds_bounded s o sound viewed =
    each_some o (λ r. IfSome r.rental.closing (λ c. IsRefundable (last_number s.entries) r c.fare)) (λ r i. refund_bounded s r sound (viewed r i) r.rental.closing refl)

-- the rental that ends at a station is open
ends_open : (s : Operator) (bike : ℕ) (at : Option StationView) → IsSound s → IfSome at (λ x. IfSome (rental_of s (finmap.get s.bikes bike)) (λ r. is_open r.rental ≡ true))
ends_open s bike at sound =
    each_some at (λ x. IfSome (rental_of s (finmap.get s.bikes bike)) (λ r. is_open r.rental ≡ true))
    (λ x i. each_some (rental_of s (finmap.get s.bikes bike)) (λ r. is_open r.rental ≡ true) (λ r j. (rental_is s bike (finmap.get s.bikes bike) r sound.bikes refl j).not_closed))

-- where no rental is viewed, none ends
none_ends : (at : Option StationView) → IfSome at (λ x. Unit {0})
none_ends None = tt
none_ends (Some x) = tt

-- ---- orders

order_filled : (s : Operator) (number : ℕ) → IsSound s → IfSome (item_numbered number s.orders) (λ o. o.delivered + order_load s number ≤ o.count)
order_filled s number sound = each_some (item_numbered number s.orders) (λ o. o.delivered + order_load s number ≤ o.count) (λ o i. (sound.orders.orders number o i).filled)

order_delivered : (s : Operator) (number on : ℕ) → IsSound s → on ≡ 0 → IfSome (item_numbered number s.orders) (λ o. o.delivered + on ≤ o.count)
order_delivered s number on sound none =
    each_some (item_numbered number s.orders) (λ o. o.delivered + on ≤ o.count) (λ o i. let filled = (sound.orders.orders number o i).filled in omega (arith, filled, none))

-- ---- views

-- the view has neither rider nor rental, and counts nothing
record IsBare (v : View) : Type 0 where
  rider : v.rider ≡ None
  rental : v.rental ≡ None
  rentals : v.rentals ≡ 0
  on_truck : v.on_truck ≡ 0

bare_bounded : (now : ℕ) (v : View) → IsBare v → IfSome v.order (λ o. o.delivered + v.on_truck ≤ o.count) → IsBounded v now
bare_bounded now v bare filled =
    let few = bare.rentals in
    record {
      few_rentals = λ room. omega (arith, few);
      rider = λ room. rw bare.rider tt;
      charge = rw bare.rental tt;
      refund = rw bare.rental tt;
      ends = rw bare.rental (none_ends v.station);
      filled = filled;
    }

-- a view in which no order stands either
plain_bounded : (now : ℕ) (v : View) → v.rider ≡ None → v.rental ≡ None → v.rentals ≡ 0 → v.on_truck ≡ 0 → v.order ≡ None → IsBounded v now
plain_bounded now v rider rental rentals on_truck order = bare_bounded now v (record { rider = rider; rental = rental; rentals = rentals; on_truck = on_truck }) (rw order tt)

end_bare : (s : Operator) (e : OrderEnd) (dock : ℕ) → IsBare (end_view s e dock)
end_bare s end.Depot dock = record { rider = refl; rental = refl; rentals = refl; on_truck = refl }
end_bare s (end.Station station) dock = record { rider = refl; rental = refl; rentals = refl; on_truck = refl }

side_bare : (s : Operator) (o : Option Order) (side : Side) (dock : ℕ) → IsBare (side_view s o side dock)
side_bare s None side dock = record { rider = refl; rental = refl; rentals = refl; on_truck = refl }
side_bare s (Some o) side dock = end_bare s (end_at side o) dock

rental_viewed : (s : Operator) (number : ℕ) (r : RentalView) → rental_at s number ≡ Some r → IsViewOf s r
rental_viewed s number r is = view_is s number (item_numbered number s.rentals) r refl is

bike_viewed : (s : Operator) (bike : ℕ) → IsSound s → (r : RentalView) → rental_of s (finmap.get s.bikes bike) ≡ Some r → IsViewOf s r
bike_viewed s bike sound r is = (rental_is s bike (finmap.get s.bikes bike) r sound.bikes refl is).view

pub view_bounded : (s : Operator) (now : ℕ) (c : Command) → IsSound s → s.now ≤ now → IsBounded (view_of s c) now
view_bounded s now (command.TopUp rider amount) sound later = record {
  few_rentals = λ room. omega arith;
  rider = λ room. rider_bounded s rider (finmap.get s.riders rider) refl sound room;
  charge = tt;
  refund = tt;
  ends = tt;
  filled = tt;
}
view_bounded s now (command.Start rider station dock) sound later = record {
  few_rentals = λ room. rentals_bounded s sound room;
  rider = λ room. rider_bounded s rider (finmap.get s.riders rider) refl sound room;
  charge = tt;
  refund = tt;
  ends = none_ends (station_at s station);
  filled = tt;
}
view_bounded s now (command.End bike station dock) sound later = record {
  few_rentals = λ room. omega arith;
  rider = λ room. tt;
  charge = charges_bounded s now (rental_of s (finmap.get s.bikes bike)) sound later (bike_viewed s bike sound);
  refund = refunds_bounded s (rental_of s (finmap.get s.bikes bike)) sound (bike_viewed s bike sound);
  ends = ends_open s bike (station_at s station) sound;
  filled = tt;
}
view_bounded s now (command.Recover rental) sound later = record {
  few_rentals = λ room. omega arith;
  rider = λ room. tt;
  charge = charges_bounded s now (rental_at s rental) sound later (rental_viewed s rental);
  refund = refunds_bounded s (rental_at s rental) sound (rental_viewed s rental);
  ends = tt;
  filled = tt;
}
view_bounded s now (command.Refund rental amount) sound later = record {
  few_rentals = λ room. omega arith;
  rider = λ room. tt;
  charge = charges_bounded s now (rental_at s rental) sound later (rental_viewed s rental);
  refund = refunds_bounded s (rental_at s rental) sound (rental_viewed s rental);
  ends = tt;
  filled = tt;
}
view_bounded s now (command.Load truck order bike) sound later = record {
  few_rentals = λ room. omega arith;
  rider = λ room. tt;
  charge = tt;
  refund = tt;
  ends = tt;
  filled = order_filled s order sound;
}
view_bounded s now (command.Unload truck order bike side dock) sound later =
    let bare = side_bare s (item_numbered order s.orders) side dock in
    bare_bounded now (view_of s (command.Unload truck order bike side dock)) (record { rider = bare.rider; rental = bare.rental; rentals = bare.rentals; on_truck = bare.on_truck })
    (order_delivered s order (side_view s (item_numbered order s.orders) side dock).on_truck sound bare.on_truck)
view_bounded s now (command.CloseOrder order) sound later = record {
  few_rentals = λ room. omega arith;
  rider = λ room. tt;
  charge = tt;
  refund = tt;
  ends = tt;
  filled = order_filled s order sound;
}
view_bounded s now c sound later = plain_bounded now (view_of s c) refl refl refl refl refl
