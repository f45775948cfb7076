-- Rentals stay sound.
use Rattle.std.proofs.Common.{◌≡◌, ℕ, ℤ, ◌+◌, ◌≤◌, ◌+ℤ◌, ◌-ℤ◌, ◌≤ℤ◌, pos, List, Bool, true, false, cond, eqb, Option, Some, None, refl, sym, ap, ◌∙◌, subst}
use Rattle.std.proofs.Common.{arith}
use Rattle.std.specs.Prelude.{is_none, ◌&&◌, int_lt}
use Rattle.std.specs.FinMap as finmap
use Rattle.std.proofs.lemmas.Option.{same_Some}
use Rattle.std.proofs.lemmas.Int.{ints}
use Rattle.bike_ledger.specs.Entries.{Entry}
use Rattle.bike_ledger.specs.declared.entry.EntryKind.TheVariants.{TopUp, Refund}
use Rattle.bike_ledger.specs.Ledger.{given_back_of, refunded_of}
use Rattle.bike_operator.specs.declared.records.Rental.{Rental}
use Rattle.bike_operator.specs.declared.records.Closing.{Closing}
use Rattle.bike_operator.specs.declared.view.RentalView.{RentalView}
use Rattle.bike_operator.specs.Operator.{Operator, AcceptedRequest, Numbered, item_numbered, last_number, with_item}
use Rattle.bike_laws.proofs.SingleSteps.ItemLemmas.{last_added}
use Rattle.bike_operator.specs.Counts.{count, open_rentals, is_open}
use Rattle.bike_operator.specs.Steps.{on, with_entry, refunded_by}
use Rattle.bike_operator.specs.Sound.{IsOut, IsStop, IsOpenOrClosed, is_fare, fares_of, most_refunded, IsRentalAt, AreRentalsSound, IsSound}
use Rattle.bike_laws.proofs.SingleSteps.Moment.{at_moment}
use Rattle.bike_laws.proofs.EntryLemmas.{refunded_added, fares_apart, same_either, other_number}
use Rattle.bike_laws.proofs.FoundLemmas.{IsViewOf}
use Rattle.bike_laws.proofs.NameLemmas.{Either, either}
use Rattle.bike_laws.proofs.NameLemmas.Either.{Same, Other}
use Rattle.bike_laws.proofs.QuietLemmas.{IsQuiet, quiet_fields}

-- ---- rentals that go on standing

-- no name is gone, and it isn't earlier
pub record KeepsNames (s next : Operator) : Type 0 where
  pub riders : (id : ℕ) → finmap.contains_key s.riders id ≡ true → finmap.contains_key next.riders id ≡ true
  pub bikes : (id : ℕ) → finmap.contains_key s.bikes id ≡ true → finmap.contains_key next.bikes id ≡ true
  pub plans : (id : List ℕ) → finmap.contains_key s.plans id ≡ true → finmap.contains_key next.plans id ≡ true
  pub stations : (id : List ℕ) → finmap.contains_key s.stations id ≡ true → finmap.contains_key next.stations id ≡ true
  pub later : s.now ≤ next.now

stop_stands : (s next : Operator) (o : Option (List ℕ)) → KeepsNames s next → IsStop s o → IsStop next o
stop_stands s next None k is = tt
stop_stands s next (Some station) k is = k.stations station is

closing_stands : (s next : Operator) (number : ℕ) (x : Rental) (o : Option Closing) → KeepsNames s next → (IsOut s number x.bike → IsOut next number x.bike) → IsOpenOrClosed s number x o
    → IsOpenOrClosed next number x o
closing_stands s next number x None k out is = out is
closing_stands s next number x (Some c) k out is =
    let by_now = is.by_now in
    let later = k.later in
    record { stop = stop_stands s next c.to_station k is.stop; after = is.after; by_now = omega (arith, by_now, later); low = is.low; high = is.high }

pub rental_stands : (s next : Operator) (number : ℕ) (x : Rental) → KeepsNames s next → (IsOut s number x.bike → IsOut next number x.bike) → fares_of number next.entries.items ≡ fares_of number s.entries.items
    → refunded_of number next.entries.items ≤ℤ most_refunded x.closing → IsRentalAt s number x → IsRentalAt next number x
rental_stands s next number x k out fares refunded at =
    let by_now = at.by_now in
    let later = k.later in
    record {
      rider_is = k.riders x.rider at.rider_is;
      bike_is = k.bikes x.bike at.bike_is;
      plan_is = k.plans x.plan at.plan_is;
      from_is = k.stations x.from_station at.from_is;
      by_now = omega (arith, by_now, later);
      closing = closing_stands s next number x x.closing k out at.closing;
      booked = fares ∙ at.booked;
      refunded = refunded;
    }

-- what was refunded before still is
pub as_refunded : (number : ℕ) (es fs : List Entry) (z : ℤ) → refunded_of number fs ≡ refunded_of number es → refunded_of number es ≤ℤ z → refunded_of number fs ≤ℤ z
as_refunded number es fs z same high = subst (λ (y : ℤ). y ≤ℤ z) (sym same) high

pub out_settled : (s x : Operator) (now : ℕ) (history : Numbered AcceptedRequest) (number bike : ℕ) → IsOut x number bike → IsOut (at_moment x now history) number bike
out_settled s x now history number bike o = record { row = o.row; found = o.found; place_is = o.place_is }

-- ---- quiet commands

pub rentals_quiet : (s x : Operator) (now : ℕ) (history : Numbered AcceptedRequest) → IsSound s → s.now ≤ now → IsQuiet s x → AreRentalsSound (at_moment x now history)
rentals_quiet s x now history order later q =
    let few = order.rentals.few_rentals in
    let count_rentals : last_number x.rentals ≡ last_number s.rentals = ap (λ (rs : Numbered Rental). last_number rs) q.rentals in
    let count_entries : last_number x.entries ≡ last_number s.entries = ap (λ (es : Numbered Entry). last_number es) q.entries in
    let count_open : open_rentals x ≡ open_rentals s = ap (λ (rs : Numbered Rental). count is_open rs.items) q.rentals in
    record {
      rentals = λ number r i.
          let at = order.rentals.rentals number r (before number r i) in
          rental_stands s (at_moment x now history) number r (record { riders = q.riders; bikes = q.bikes; plans = q.plans; stations = q.stations; later = later })
          (λ o. out_settled s x now history number r.bike (q.out number r.bike o)) (ap (λ (es : Numbered Entry). fares_of number es.items) q.entries)
          (as_refunded number s.entries.items x.entries.items (most_refunded r.closing) (ap (λ (es : Numbered Entry). refunded_of number es.items) q.entries) at.refunded) at;
      riding = λ a b y z i j. order.rentals.riding a b y z (before a y i) (before b z j);
      few_rentals = omega (arith, few, count_rentals, count_entries, count_open);
    }
  where
    before : (number : ℕ) (r : Rental) → item_numbered number x.rentals ≡ Some r → item_numbered number s.rentals ≡ Some r
    before number r i = ap (λ (rs : Numbered Rental). item_numbered number rs) (sym q.rentals) ∙ i

pub rentals_untouched : (s : Operator) (now : ℕ) (history : Numbered AcceptedRequest) → IsSound s → s.now ≤ now → AreRentalsSound (at_moment s now history)
rentals_untouched s now history order later = rentals_quiet s s now history order later (quiet_fields s s refl refl refl refl refl refl refl)

-- ---- payments

-- an entry that is no fare
rentals_paid : (s : Operator) (now : ℕ) (history : Numbered AcceptedRequest) (e : Entry) → IsSound s → s.now ≤ now → is_fare e.kind ≡ false
    → ((number : ℕ) (x : Rental) → item_numbered number s.rentals ≡ Some x → (refunded_of number s.entries.items +ℤ given_back_of number e) ≤ℤ most_refunded x.closing)
    → AreRentalsSound (at_moment (record s { entries = with_item e s.entries }) now history)
rentals_paid s now history e order later no_fare refunded =
    let few = order.rentals.few_rentals in
    let more = last_added s.entries e in
    record {
      rentals = λ number r i.
          rental_stands s (at_moment (record s { entries = with_item e s.entries }) now history) number r
          (record { riders = λ id h. h; bikes = λ id h. h; plans = λ id h. h; stations = λ id h. h; later = later })
          (λ o. record { row = o.row; found = o.found; place_is = o.place_is })
          (fares_apart number s.entries.items e (ap (λ (b : Bool). b && eqb e.rental number) no_fare))
          (subst (λ (z : ℤ). z ≤ℤ most_refunded r.closing) (sym (refunded_added number s.entries.items e)) (refunded number r i))
          (order.rentals.rentals number r i);
      riding = order.rentals.riding;
      few_rentals = omega (arith, few, more);
    }

pub rentals_topped_up : (s : Operator) (now : ℕ) (history : Numbered AcceptedRequest) (rider amount : ℕ) → IsSound s → s.now ≤ now
    → AreRentalsSound (at_moment (with_entry TopUp rider 0 (pos amount) now s) now history)
rentals_topped_up s now history rider amount order later =
    rentals_paid s now history (record { number = last_number s.entries + 1; kind = TopUp; rider = rider; rental = 0; amount = pos amount; at = now }) order later refl
    (λ number x i.
    let none : cond (eqb 0 number) (pos 0) (pos 0) ≡ pos 0 = same_either (eqb 0 number) (pos 0) refl in
    let high = (order.rentals.rentals number x i).refunded in
    omega (arith, ints, none, high))

not_more : (fare refunded amount : ℤ) → int_lt (fare -ℤ refunded) amount ≡ false → (refunded +ℤ amount) ≤ℤ fare
not_more fare refunded amount e = grind (arith, ints)

pub rentals_refunded : (s : Operator) (now : ℕ) (history : Numbered AcceptedRequest) (amount : ℕ) (o : Option RentalView) → IsSound s → s.now ≤ now
    → ((r : RentalView) → o ≡ Some r → IsViewOf s r × (on r.rental.closing (λ c. int_lt (c.fare -ℤ r.refunded) (pos amount)) ≡ false) × (is_open r.rental ≡ false))
    → AreRentalsSound (at_moment (refunded_by amount now o s) now history)
rentals_refunded s now history amount None order later is = rentals_untouched s now history order later
rentals_refunded s now history amount (Some r) order later is =
    let facts = is r refl in
    rentals_paid s now history (record { number = last_number s.entries + 1; kind = Refund; rider = r.rental.rider; rental = r.number; amount = pos amount; at = now }) order later refl
    (λ number x i. within facts.0 facts.1 facts.2 number x i (either number r.number))
  where
    enough : (c : Option Closing) → on c (λ d. int_lt (d.fare -ℤ r.refunded) (pos amount)) ≡ false → is_none c ≡ false → (r.refunded +ℤ pos amount) ≤ℤ most_refunded c
    enough None e shut = absurd cc
    enough (Some d) e shut = not_more d.fare r.refunded (pos amount) e

    at_most : (b : Bool) (z y : ℤ) → (z +ℤ pos amount) ≤ℤ y → (z +ℤ cond b (pos amount) (pos 0)) ≤ℤ y
    at_most true z y h = h
    at_most false z y h = omega (arith, ints, h)

    within : IsViewOf s r → on r.rental.closing (λ c. int_lt (c.fare -ℤ r.refunded) (pos amount)) ≡ false → is_open r.rental ≡ false → (number : ℕ) (x : Rental)
        → item_numbered number s.rentals ≡ Some x → Either number r.number
        → (refunded_of number s.entries.items +ℤ cond (eqb r.number number) (pos amount) (pos 0)) ≤ℤ most_refunded x.closing
    within v e shut number x i (Same same) =
        let is_row : r.rental ≡ x = same_Some r.rental x (sym v.found ∙ ap (λ (n : ℕ). item_numbered n s.rentals) (sym same) ∙ i) in
        let total : r.refunded ≡ refunded_of number s.entries.items = v.refunded_is ∙ ap (λ (n : ℕ). refunded_of n s.entries.items) (sym same) in
        at_most (eqb r.number number) (refunded_of number s.entries.items) (most_refunded x.closing)
        (subst (λ (z : ℤ). (z +ℤ pos amount) ≤ℤ most_refunded x.closing) total (subst (λ (y : Rental). (r.refunded +ℤ pos amount) ≤ℤ most_refunded y.closing) is_row (enough r.rental.closing e shut)))
    within v e shut number x i (Other apart) =
        let none : cond (eqb r.number number) (pos amount) (pos 0) ≡ pos 0 = ap (λ (b : Bool). cond b (pos amount) (pos 0)) (other_number r.number number apart) in
        let high = (order.rentals.rentals number x i).refunded in
        omega (arith, ints, none, high)
