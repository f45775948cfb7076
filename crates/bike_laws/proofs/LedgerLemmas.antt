-- The ledger stays sound.
use Rattle.std.proofs.Common.{◌≡◌, ℕ, ℤ, ◌+◌, ◌≤◌, pos, List, true, false, Option, Some, None, refl, sym, ap, ◌∙◌, subst, arith, inl, inr}
use Rattle.std.proofs.lemmas.Int.{ints}
use Rattle.std.specs.Prelude.{is_none}
use Rattle.std.specs.FinMap as finmap
use Rattle.std.proofs.lemmas.Option.{same_Some}
use Rattle.bike_ledger.specs.Entries.{Entry}
use Rattle.bike_ledger.specs.declared.entry.EntryKind.{EntryKind}
use Rattle.bike_ledger.specs.declared.entry.EntryKind.TheVariants.{TopUp, Fare, Refund, Withdrawal, Charge, Credit}
use Rattle.bike_operator.specs.declared.records.Rental.{Rental}
use Rattle.bike_operator.specs.declared.records.Closing.{Closing}
use Rattle.bike_operator.specs.declared.view.RentalView.{RentalView}
use Rattle.bike_operator.specs.declared.view.DockedBike.{DockedBike}
use Rattle.bike_operator.specs.Operator.{Operator, Rider, AcceptedRequest, Numbered, Past, item_numbered, number_changed, last_number, with_item}
use Rattle.bike_operator.specs.Counts.{count, open_rentals, is_open}
use Rattle.bike_operator.specs.declared.limits.TheConstants.{MOST_RIDERS, MOST_ENTRIES}
use Rattle.bike_operator.specs.Steps.{fare_now, with_entry, with_fare, plan_for, own_plan, after_start, after_end, after_recovery, refunded_by}
use Rattle.bike_operator.specs.Sound.{IsPayment, IsPlanOrNone, IsSumOf, IsRiderAt, IsPast, befores, IsOfRental, IsBooking, IsEntryAt, IsLedgerSound, IsSound}
use Rattle.bike_laws.proofs.SingleSteps.ItemLemmas.{number_stays, number_or_last, number_apart, last_added}
use Rattle.bike_laws.proofs.SingleSteps.Moment.{at_moment}
use Rattle.bike_laws.proofs.NumberLemmas.{number_same, count_added, count_changed}
use Rattle.bike_laws.proofs.FoundLemmas.{IsViewOf, IsRentalOf, closing_now, closed_by}
use Rattle.bike_laws.proofs.NameLemmas.{get_inserted, get_other, Either, either}
use Rattle.bike_laws.proofs.NameLemmas.Either.{Same, Other}
use Rattle.bike_laws.proofs.ReplyLemmas.{IsPaid, fare_amount, HasRoom}
use Rattle.bike_laws.proofs.QuietLemmas.{IsQuiet, quiet_fields}

-- ---- entries that go on standing

-- riders and plans stay, closed rentals stay as they are, and nothing more is archived
pub record KeepsBooked (s next : Operator) : Type 0 where
  pub riders : (id : ℕ) → finmap.contains_key s.riders id ≡ true → finmap.contains_key next.riders id ≡ true
  pub plans : (id : List ℕ) → finmap.contains_key s.plans id ≡ true → finmap.contains_key next.plans id ≡ true
  pub old_rentals : next.rentals.archived ≡ s.rentals.archived
  pub old_entries : next.entries.archived ≡ s.entries.archived
  pub past : next.past ≡ s.past
  pub closed : (n : ℕ) (x : Rental) (c : Closing) → item_numbered n s.rentals ≡ Some x → x.closing ≡ Some c → item_numbered n next.rentals ≡ Some x
  pub later : s.now ≤ next.now

of_rental_stands : (s next : Operator) (e : Entry) → KeepsBooked s next → IsOfRental s e → IsOfRental next e
of_rental_stands s next e k (inl old) =
    let low = old.low in
    let high = old.high in
    let same = k.old_rentals in
    inl (record { low = low; high = omega (arith, high, same) })
of_rental_stands s next e k (inr o) = inr (record { row = o.row; closing = o.closing; found = k.closed e.rental o.row o.closing o.found o.closed; closed = o.closed; rider_is = o.rider_is })

booking_stands : (s next : Operator) (e : Entry) (kind : EntryKind) → KeepsBooked s next → IsBooking s e kind → IsBooking next e kind
booking_stands s next e TopUp k b = b
booking_stands s next e Fare k b = (of_rental_stands s next e k b.0, b.1, b.2)
booking_stands s next e Refund k b = (of_rental_stands s next e k b.0, b.1)
booking_stands s next e Withdrawal k b = b
booking_stands s next e Charge k b = b
booking_stands s next e Credit k b = b

entry_stands : (s next : Operator) (number : ℕ) (e : Entry) → KeepsBooked s next → IsEntryAt s number e → IsEntryAt next number e
entry_stands s next number e k at =
    let by_now = at.by_now in
    let later = k.later in
    record { number_is = at.number_is; rider_is = k.riders e.rider at.rider_is; booking = booking_stands s next e e.kind k at.booking; by_now = omega (arith, by_now, later) }

-- a rider goes on standing
sum_stands : (m n : ℕ) (z : ℤ) → n ≡ m → IsSumOf m z → IsSumOf n z
sum_stands m n z same is = subst (λ (k : ℕ). IsSumOf k z) (sym same) is

plan_stands : (s next : Operator) (o : Option (List ℕ)) → KeepsBooked s next → IsPlanOrNone s o → IsPlanOrNone next o
plan_stands s next None k is = tt
plan_stands s next (Some plan) k is = k.plans plan is

rider_stands : (s next : Operator) (number : ℕ) (r : Rider) → KeepsBooked s next → IsRiderAt s number r → IsRiderAt next number r
rider_stands s next number r k at = record {
  low = at.low;
  high = at.high;
  plan = plan_stands s next r.plan k at.plan;
  before = sum_stands s.entries.archived next.entries.archived r.before k.old_entries at.before;
}

-- and so do the sums of what was archived, where riders have what they had of it
past_stands : (s next : Operator) → KeepsBooked s next → befores (finmap.entries next.riders) ≡ befores (finmap.entries s.riders) → IsPast s → IsPast next
past_stands s next k same is =
    let had = is.conserved in
    let cash : next.past.cash ≡ s.past.cash = ap (λ (p : Past). p.cash) k.past in
    let revenue : next.past.revenue ≡ s.past.revenue = ap (λ (p : Past). p.revenue) k.past in
    record {
      cash = sum_stands s.entries.archived next.entries.archived next.past.cash k.old_entries (subst (IsSumOf s.entries.archived) (sym cash) is.cash);
      revenue = sum_stands s.entries.archived next.entries.archived next.past.revenue k.old_entries (subst (IsSumOf s.entries.archived) (sym revenue) is.revenue);
      conserved = omega (arith, ints, had, cash, revenue, same);
    }

-- no entry is added, and riders stay as they are
ledger_same : (s next : Operator) → IsLedgerSound s → KeepsBooked s next → next.riders ≡ s.riders → next.entries ≡ s.entries → open_rentals next ≡ open_rentals s → IsLedgerSound next
ledger_same s next ledger k riders entries ongoing =
    let few_riders = ledger.few_riders in
    let few_entries = ledger.few_entries in
    let count_riders : finmap.len next.riders ≡ finmap.len s.riders = ap (λ m. finmap.len m) riders in
    let count_entries : last_number next.entries ≡ last_number s.entries = ap (λ (es : Numbered Entry). last_number es) entries in
    record {
      riders = λ number r i. rider_stands s next number r k (ledger.riders number r (ap (λ m. finmap.get m number) (sym riders) ∙ i));
      past = past_stands s next k (ap (λ m. befores (finmap.entries m)) riders) ledger.past;
      entries = λ number e i. entry_stands s next number e k (ledger.entries number e (ap (λ (es : Numbered Entry). item_numbered number es) (sym entries) ∙ i));
      few_riders = omega (arith, few_riders, count_riders);
      few_entries = omega (arith, few_entries, count_entries, ongoing);
    }

-- an entry is added
ledger_booked : (s next : Operator) (e : Entry) → IsLedgerSound s → KeepsBooked s next → next.riders ≡ s.riders → next.entries ≡ with_item e s.entries → IsEntryAt next (last_number s.entries + 1) e
    → last_number s.entries + 1 + open_rentals next ≤ MOST_ENTRIES → IsLedgerSound next
ledger_booked s next e ledger k riders entries last few =
    let few_riders = ledger.few_riders in
    let count_riders : finmap.len next.riders ≡ finmap.len s.riders = ap (λ m. finmap.len m) riders in
    let count_entries : last_number next.entries ≡ last_number s.entries + 1 = ap (λ (es : Numbered Entry). last_number es) entries ∙ last_added s.entries e in
    record {
      riders = λ number r i. rider_stands s next number r k (ledger.riders number r (ap (λ m. finmap.get m number) (sym riders) ∙ i));
      past = past_stands s next k (ap (λ m. befores (finmap.entries m)) riders) ledger.past;
      entries = λ number x i. each number x (ap (λ (es : Numbered Entry). item_numbered number es) (sym entries) ∙ i);
      few_riders = omega (arith, few_riders, count_riders);
      few_entries = omega (arith, few, count_entries);
    }
  where
    each : (number : ℕ) (x : Entry) → item_numbered number (with_item e s.entries) ≡ Some x → IsEntryAt next number x
    each number x i = elim (number_or_last number s.entries e x i) [
      | inl w ↦ entry_stands s next number x k (ledger.entries number x w)
      | inr w ↦ subst (λ (y : Entry). IsEntryAt next number y) (sym w.1) (subst (λ (n : ℕ). IsEntryAt next n e) (sym w.0) last)
    ]

-- ---- quiet commands

quiet_keeps : (s x : Operator) (now : ℕ) (history : Numbered AcceptedRequest) → s.now ≤ now → IsQuiet s x → KeepsBooked s (at_moment x now history)
quiet_keeps s x now history later q = record {
  riders = q.riders;
  plans = q.plans;
  old_rentals = ap (λ (rs : Numbered Rental). rs.archived) q.rentals;
  old_entries = ap (λ (es : Numbered Entry). es.archived) q.entries;
  past = q.past;
  closed = λ n y c found closed. ap (λ (rs : Numbered Rental). item_numbered n rs) q.rentals ∙ found;
  later = later;
}

pub ledger_quiet : (s x : Operator) (now : ℕ) (history : Numbered AcceptedRequest) → IsLedgerSound s → s.now ≤ now → IsQuiet s x → x.riders ≡ s.riders → IsLedgerSound (at_moment x now history)
ledger_quiet s x now history ledger later q riders =
    ledger_same s (at_moment x now history) ledger (quiet_keeps s x now history later q) riders q.entries (ap (λ (rs : Numbered Rental). count is_open rs.items) q.rentals)

-- a rider is added or changed, with as much of what was archived as before
pub ledger_rider : (s : Operator) (now : ℕ) (history : Numbered AcceptedRequest) (rider : ℕ) (r : Rider) → IsLedgerSound s → s.now ≤ now → IsRiderAt s rider r
    → befores (finmap.entries (finmap.insert s.riders rider r)) ≡ befores (finmap.entries s.riders) → finmap.len (finmap.insert s.riders rider r) ≤ MOST_RIDERS
    → IsQuiet s (record s { riders = finmap.insert s.riders rider r }) → IsLedgerSound (at_moment (record s { riders = finmap.insert s.riders rider r }) now history)
ledger_rider s now history rider r ledger later good same few q = record {
  riders = λ number x i. rider_stands s next number x keeps (each number x i (either number rider));
  past = past_stands s next keeps same ledger.past;
  entries = λ number e i. entry_stands s next number e keeps (ledger.entries number e i);
  few_riders = few;
  few_entries = ledger.few_entries;
} where
  next : Operator
  next = at_moment (record s { riders = finmap.insert s.riders rider r }) now history

  keeps : KeepsBooked s next
  keeps = quiet_keeps s (record s { riders = finmap.insert s.riders rider r }) now history later q

  each : (number : ℕ) (x : Rider) → finmap.get (finmap.insert s.riders rider r) number ≡ Some x → Either number rider → IsRiderAt s number x
  each number x i (Same e) =
      let own : r ≡ x = same_Some r x (sym (get_inserted s.riders rider r) ∙ ap (finmap.get (finmap.insert s.riders rider r)) (sym e) ∙ i) in
      subst (λ (y : Rider). IsRiderAt s number y) own (subst (λ (n : ℕ). IsRiderAt s n r) (sym e) good)
  each number x i (Other apart) = ledger.riders number x (sym (get_other s.riders rider r number apart) ∙ i)

-- ---- rentals that begin and end

open_apart : (x y : Rental) (c : Closing) → x ≡ y → x.closing ≡ Some c → is_open y ≡ true → ⊥
open_apart x y c same closed ongoing =
    let none : is_none (Some c) ≡ true = ap (λ (o : Option Closing). is_none o) (sym closed) ∙ ap (λ (z : Rental). is_open z) same ∙ ongoing in
    absurd cc

-- the rental is closed and its fare is booked
pub ledger_charged : (s x : Operator) (now : ℕ) (history : Numbered AcceptedRequest) (r : RentalView) (to_station : Option (List ℕ)) → IsSound s → s.now ≤ now → IsViewOf s r → is_open r.rental ≡ true
    → x.riders ≡ s.riders → x.plans ≡ s.plans → x.past ≡ s.past → x.rentals ≡ (with_fare r to_station now s).rentals → x.entries ≡ (with_fare r to_station now s).entries
    → IsLedgerSound (at_moment x now history)
ledger_charged s x now history r to_station order later v ongoing riders plans past rentals entries =
    ledger_booked s (at_moment x now history) _ order.ledger keeps riders entries last few
  where
    c : Closing
    c = closing_now r to_station now

    changed : x.rentals ≡ number_changed r.number (closed_by c) s.rentals
    changed = rentals

    keeps : KeepsBooked s (at_moment x now history)
    keeps = record {
      riders = λ id h. ap (λ m. finmap.contains_key m id) riders ∙ h;
      plans = λ id h. ap (λ m. finmap.contains_key m id) plans ∙ h;
      old_rentals = ap (λ (rs : Numbered Rental). rs.archived) changed;
      old_entries = ap (λ (es : Numbered Entry). es.archived) entries;
      past = past;
      closed = λ n y d found closed.
          ap (λ (rs : Numbered Rental). item_numbered n rs) changed
          ∙ number_apart r.number (closed_by c) s.rentals n (λ same. open_apart y r.rental d
          (same_Some y r.rental (sym found ∙ ap (λ (m : ℕ). item_numbered m s.rentals) same ∙ v.found)) closed ongoing)
          ∙ found;
      later = later;
    }

    last : IsEntryAt (at_moment x now history) (last_number s.entries + 1) (record { number = last_number s.entries + 1; kind = Fare; rider = r.rental.rider; rental = r.number; amount = fare_now r now; at = now })
    last =
        let amount = fare_amount s now r order v in
        let of = order.rentals.rentals r.number r.rental v.found in
        record {
          number_is = refl;
          rider_is = ap (λ m. finmap.contains_key m r.rental.rider) riders ∙ of.rider_is;
          booking = (
            inr (record {
              row = closed_by c r.rental;
              closing = c;
              found = ap (λ (rs : Numbered Rental). item_numbered r.number rs) changed ∙ number_same r.number (closed_by c) s.rentals r.rental v.found;
              closed = refl;
              rider_is = refl;
            }),
            amount.low,
            amount.high,
          );
          by_now = omega arith;
        }

    few : last_number s.entries + 1 + open_rentals (at_moment x now history) ≤ MOST_ENTRIES
    few =
        let fewer : open_rentals (at_moment x now history) + 1 ≡ open_rentals s =
        ap (λ (rs : Numbered Rental). count is_open rs.items + 1) changed ∙ count_changed is_open r.number (closed_by c) s.rentals r.rental v.found ongoing refl in
        let before = order.ledger.few_entries in
        omega (arith, before, fewer)

-- nothing is touched
ledger_untouched : (s : Operator) (now : ℕ) (history : Numbered AcceptedRequest) → IsLedgerSound s → s.now ≤ now → IsLedgerSound (at_moment s now history)
ledger_untouched s now history ledger later = ledger_quiet s s now history ledger later (quiet_fields s s refl refl refl refl refl refl refl) refl

pub ledger_ended : (s : Operator) (now : ℕ) (history : Numbered AcceptedRequest) (bike : ℕ) (station : List ℕ) (dock : ℕ) (o : Option RentalView) → IsSound s → s.now ≤ now
    → ((r : RentalView) → o ≡ Some r → IsRentalOf s bike r) → IsLedgerSound (at_moment (after_end bike station dock now o s) now history)
ledger_ended s now history bike station dock None order later is = ledger_untouched s now history order.ledger later
ledger_ended s now history bike station dock (Some r) order later is =
    let at = is r refl in
    ledger_charged s (after_end bike station dock now (Some r) s) now history r (Some station) order later at.view at.not_closed refl refl refl refl refl

pub ledger_recovered : (s : Operator) (now : ℕ) (history : Numbered AcceptedRequest) (o : Option RentalView) → IsSound s → s.now ≤ now
    → ((r : RentalView) → o ≡ Some r → IsViewOf s r × (is_open r.rental ≡ true)) → IsLedgerSound (at_moment (after_recovery now o s) now history)
ledger_recovered s now history None order later is = ledger_untouched s now history order.ledger later
ledger_recovered s now history (Some r) order later is =
    let at = is r refl in
    ledger_charged s (after_recovery now (Some r) s) now history r None order later at.0 at.1 refl refl refl refl refl

-- a rental is added
pub ledger_started : (s : Operator) (now : ℕ) (history : Numbered AcceptedRequest) (rider : ℕ) (station : List ℕ) (o : Option DockedBike) → IsSound s → HasRoom s → s.now ≤ now
    → IsLedgerSound (at_moment (after_start rider station now o s) now history)
ledger_started s now history rider station None order has later = ledger_untouched s now history order.ledger later
ledger_started s now history rider station (Some b) order has later = record {
  riders = λ number r i. rider_stands s next number r keeps (order.ledger.riders number r i);
  past = past_stands s next keeps refl order.ledger.past;
  entries = λ number e i. entry_stands s next number e keeps (order.ledger.entries number e i);
  few_riders = order.ledger.few_riders;
  few_entries =
      let more : open_rentals (at_moment (after_start rider station now (Some b) s) now history) ≡ open_rentals s + 1 = count_added is_open s.rentals.items added in
      let room = has.room in
      omega (arith, more, room);
} where
  added : Rental
  added = record { rider = rider; bike = b.bike; plan = plan_for (own_plan (finmap.get s.riders rider)) b.plan; from_station = station; start = now; closing = None }

  next : Operator
  next = at_moment (after_start rider station now (Some b) s) now history

  keeps : KeepsBooked s next
  keeps = record {
    riders = λ id h. h;
    plans = λ id h. h;
    old_rentals = refl;
    old_entries = refl;
    past = refl;
    closed = λ n y c found closed. number_stays n s.rentals added y found;
    later = later;
  }

-- ---- payments

pub is_payment : (amount : ℕ) → IsPaid amount → IsPayment (pos amount)
is_payment amount p = record { hundredths = amount; is = refl; low = p.low; high = p.high }

pub ledger_paid : (s : Operator) (now : ℕ) (history : Numbered AcceptedRequest) (kind : EntryKind) (rider rental amount : ℕ) → IsSound s → HasRoom s → s.now ≤ now → finmap.contains_key s.riders rider ≡ true
    → IsBooking (at_moment (with_entry kind rider rental (pos amount) now s) now history)
    (record { number = last_number s.entries + 1; kind = kind; rider = rider; rental = rental; amount = pos amount; at = now }) kind
    → IsLedgerSound (at_moment (with_entry kind rider rental (pos amount) now s) now history)
ledger_paid s now history kind rider rental amount order has later known booking =
    let room = has.room in
    ledger_booked s (at_moment (with_entry kind rider rental (pos amount) now s) now history) _ order.ledger
    (record { riders = λ id h. h; plans = λ id h. h; old_rentals = refl; old_entries = refl; past = refl; closed = λ n y c found closed. found; later = later }) refl refl
    (record { number_is = refl; rider_is = known; booking = booking; by_now = omega arith }) (omega (arith, room))

-- the rental that is refunded is closed
pub ledger_refunded : (s : Operator) (now : ℕ) (history : Numbered AcceptedRequest) (amount : ℕ) (o : Option RentalView) → IsSound s → HasRoom s → IsPaid amount → s.now ≤ now
    → ((r : RentalView) → o ≡ Some r → IsViewOf s r × (is_open r.rental ≡ false)) → IsLedgerSound (at_moment (refunded_by amount now o s) now history)
ledger_refunded s now history amount None order has paid later is = ledger_untouched s now history order.ledger later
ledger_refunded s now history amount (Some r) order has paid later is =
    let at = is r refl in
    let v = at.0 in
    let of = order.rentals.rentals r.number r.rental v.found in
    of_closing r.rental.closing refl at.1 v of.rider_is
  where
    of_closing : (c : Option Closing) → r.rental.closing ≡ c → is_open r.rental ≡ false → IsViewOf s r → finmap.contains_key s.riders r.rental.rider ≡ true
        → IsLedgerSound (at_moment (refunded_by amount now (Some r) s) now history)
    of_closing None same shut v known = let ongoing : is_open r.rental ≡ true = ap (λ (c : Option Closing). is_none c) same in absurd cc
    of_closing (Some c) same shut v known =
        ledger_paid s now history Refund r.rental.rider r.number amount order has later known
        (inr (record { row = r.rental; closing = c; found = v.found; closed = same; rider_is = refl }), is_payment amount paid)
