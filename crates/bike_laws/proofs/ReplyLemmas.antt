-- An accepted command is answered by a reply of the program.
use Rattle.std.proofs.Common.{◌≡◌, ℕ, ℤ, ◌+◌, ◌+ℤ◌, ◌<◌, ◌≤◌, pos, List, [], ◌∷◌, ◌++◌, length, length-append, true, false, Option, Some, None, refl, sym, subst, arith}
use Rattle.std.specs.FinMap as finmap
use Rattle.std.proofs.lemmas.Int.{ints}
use Rattle.bike_fields.specs.Values.{SegmentRow}
use Rattle.bike_catalogue.specs.Rows.{TypeRow}
use Rattle.bike_fares.specs.Pricing.{fare_of}
use Rattle.bike_fares.specs.Pricing as pricing
use Rattle.bike_fares.proofs.BoundLemmas.{fare_of-low, fare_of-high}
use Rattle.bike_ledger.specs.Entries.{Entry}
use Rattle.bike_ledger.specs.Ledger.{balance_of, IsAmount}
use Rattle.bike_texts.specs.Fields.{IsGood, AreSegments}
use Rattle.bike_commands.specs.declared.command.Command.{Command}
use Rattle.bike_commands.specs.declared.command.Command.TheVariants as command
use Rattle.bike_commands.specs.declared.reply.Reply.{Reply}
use Rattle.bike_commands.specs.declared.reply.Reply.TheVariants.{Done, Ended}
use Rattle.bike_commands.specs.Commands.{IsCommand}
use Rattle.bike_commands.specs.Replies.{Any, IsReply}
use Rattle.bike_operator.specs.declared.records.Bike.{Bike}
use Rattle.bike_operator.specs.declared.records.Rental.{Rental}
use Rattle.bike_operator.specs.declared.view.RentalView.{RentalView}
use Rattle.bike_operator.specs.Operator.{Operator, Rider, item_numbered, last_number}
use Rattle.bike_operator.specs.Counts.{docked_at, open_rentals, is_open}
use Rattle.bike_operator.specs.View.{before_of, docked_view, typed_bike, rental_view, rental_of, view_of}
use Rattle.bike_operator.specs.declared.limits.TheConstants.{MOST_ENTRIES, MOST_ORDERS}
use Rattle.bike_operator.specs.Steps.{tests, refusal_of, fare_now, after_end, after_recovery, refunded_by, started_reply, ended_reply, refunded_reply, reply_of}
use Rattle.bike_operator.specs.Sound.{IsSound, IsLedgerSound, IsSumOf, is_refused}
use Rattle.bike_laws.proofs.PastLemmas.{none_before}
use Rattle.bike_laws.proofs.SingleSteps.TestLemmas.{none_holds}
use Rattle.bike_laws.proofs.NumberLemmas.{count_some}
use Rattle.bike_laws.proofs.EntryLemmas.{amounts_of, amounts_added, balance_within, both_sums}
use Rattle.bike_laws.proofs.FoundLemmas.{below_of, docked_is, IsViewOf, view_is, IsRentalOf, rental_is, open_of}

-- a reply of the program that isn't a refusal
abbrev IsAnswer : Reply → Type 0
IsAnswer r = IsReply r × (is_refused r ≡ false)

-- ---- amounts

-- a payment of a command
pub record IsPaid (amount : ℕ) : Type 0 where
  pub low : 1 ≤ amount
  pub high : amount ≤ 1000000

pub paid_amount : (amount : ℕ) → IsPaid amount → IsAmount (pos amount)
paid_amount amount p = let high = p.high in record { low = omega (arith, ints); high = omega (arith, ints, high) }

segments_are : (ss : List SegmentRow) → AreSegments ss → pricing.AreSegments ss
segments_are [] are = tt
segments_are (x ∷ ss) are = (are.0, segments_are ss are.1)

-- the fare of a rental that is viewed
pub fare_amount : (s : Operator) (now : ℕ) (r : RentalView) → IsSound s → IsViewOf s r → IsAmount (fare_now r now)
fare_amount s now r order v =
    let plan = order.catalogue.plans r.rental.plan r.plan v.plan_is in
    record { low = fare_of-low r.plan r.rental.start now; high = fare_of-high r.plan r.rental.start now plan.good (segments_are r.plan.segments plan.segments) }

-- ---- balances

good_balance : (n : ℕ) (balance : ℤ) → n ≤ MOST_ENTRIES → IsSumOf n balance → IsGood (Any balance)
good_balance n balance few within =
    let low = within.low in
    let high = within.high in
    (omega (arith, ints, few, low), omega (arith, ints, few, high), omega (arith, ints), omega (arith, ints))

-- what a rider has of the archived entries
pub before_within : (s : Operator) (rider : ℕ) (o : Option Rider) → finmap.get s.riders rider ≡ o → IsLedgerSound s → IsSumOf s.entries.archived (before_of o)
before_within s rider None e ledger = none_before s.entries.archived
before_within s rider (Some r) e ledger = (ledger.riders rider r e).before

-- the balance after one more entry
balance_after : (s : Operator) (rider : ℕ) (e : Entry) → IsSound s → last_number s.entries < MOST_ENTRIES → IsAmount e.amount
    → IsGood (Any (before_of (finmap.get s.riders rider) +ℤ balance_of rider (s.entries.items ++ e ∷ [])))
balance_after s rider e order few is =
    let size = length-append s.entries.items (e ∷ []) in
    good_balance (s.entries.archived + length (s.entries.items ++ e ∷ [])) (before_of (finmap.get s.riders rider) +ℤ balance_of rider (s.entries.items ++ e ∷ [])) (omega (arith, size, few))
    (both_sums s.entries.archived (length (s.entries.items ++ e ∷ [])) (before_of (finmap.get s.riders rider)) (balance_of rider (s.entries.items ++ e ∷ []))
    (before_within s rider (finmap.get s.riders rider) refl order.ledger)
    (balance_within (s.entries.items ++ e ∷ []) rider (amounts_added s.entries.items e (amounts_of s order.ledger) is)))

-- ---- each kind

-- entries and open rentals are fewer than there may be
pub record HasRoom (s : Operator) : Type 0 where
  pub room : last_number s.entries + open_rentals s < MOST_ENTRIES

-- where a rental is open there is room for its fare
pub room_for_fare : (s : Operator) (number : ℕ) (x : Rental) → IsSound s → item_numbered number s.rentals ≡ Some x → is_open x ≡ true → last_number s.entries < MOST_ENTRIES
room_for_fare s number x order found now =
    let one = count_some (λ r. is_open r) number s.rentals x found now in
    let few = order.ledger.few_entries in
    omega (arith, one, few)

started_typed : (s : Operator) (b : ℕ × Bike) (o : Option TypeRow) → IsSound s → HasRoom s → finmap.get s.bikes b.0 ≡ Some b.1 → IsAnswer (started_reply s (typed_bike b o))
started_typed s b None order has found = (tt, refl)
started_typed s b (Some t) order has found =
    let few = order.rentals.few_rentals in
    let room = has.room in
    let at = order.bikes.bikes b.0 b.1 found in
    (((omega arith, omega (arith, few, room), omega arith), ((at.low, at.high, omega arith), tt)), refl)

started_good : (s : Operator) (station : List ℕ) (dock : ℕ) (o : Option (ℕ × Bike)) → IsSound s → HasRoom s → docked_at s station dock ≡ o → IsAnswer (started_reply s (docked_view s o))
started_good s station dock None order has is = (tt, refl)
started_good s station dock (Some b) order has is = started_typed s b (finmap.get s.types b.1.type_id) order has (docked_is s station dock b is).found

-- the entries of the next operator have one more, which is the fare
fare_good : (s : Operator) (now : ℕ) (r : RentalView) (e : Entry) → IsSound s → IsViewOf s r → is_open r.rental ≡ true → e.amount ≡ fare_now r now
    → IsAnswer (Ended (fare_now r now) (before_of (finmap.get s.riders r.rental.rider) +ℤ balance_of r.rental.rider (s.entries.items ++ e ∷ [])))
fare_good s now r e order v now_open is =
    let amount = fare_amount s now r order v in
    let low = amount.low in
    let high = amount.high in (
      (
        (low, high, omega (arith, ints), omega (arith, ints)),
        (balance_after s r.rental.rider e order (room_for_fare s r.number r.rental order v.found now_open) (subst IsAmount (sym is) amount), tt),
      ),
      refl,
    )

ended_good : (s : Operator) (now bike : ℕ) (station : List ℕ) (dock : ℕ) (o : Option RentalView) → IsSound s → ((r : RentalView) → o ≡ Some r → IsRentalOf s bike r)
    → IsAnswer (ended_reply s now o (after_end bike station dock now o s))
ended_good s now bike station dock None order is = (tt, refl)
ended_good s now bike station dock (Some r) order is =
    let at = is r refl in
    fare_good s now r _ order at.view at.not_closed refl

recovered_good : (s : Operator) (now : ℕ) (o : Option RentalView) → IsSound s → ((r : RentalView) → o ≡ Some r → IsViewOf s r × (is_open r.rental ≡ true))
    → IsAnswer (ended_reply s now o (after_recovery now o s))
recovered_good s now None order is = (tt, refl)
recovered_good s now (Some r) order is =
    let at = is r refl in
    fare_good s now r _ order at.0 at.1 refl

refunded_good : (s : Operator) (now amount : ℕ) (o : Option RentalView) → IsSound s → HasRoom s → IsPaid amount → IsAnswer (refunded_reply o (refunded_by amount now o s))
refunded_good s now amount None order has paid = (tt, refl)
refunded_good s now amount (Some r) order has paid =
    let room = has.room in
    ((balance_after s r.rental.rider _ order (omega (arith, room)) (paid_amount amount paid), tt), refl)

done : IsAnswer Done
done = (tt, refl)

pub reply_good : (s : Operator) (now : ℕ) (c : Command) → IsSound s → IsCommand c → refusal_of s c ≡ None → s.now ≤ now → IsAnswer (reply_of s now c)
reply_good s now (command.TopUp rider amount) order good none later =
    let free = none_holds (tests (view_of s (command.TopUp rider amount)) (command.TopUp rider amount)) none in
    let room = below_of MOST_ENTRIES (last_number s.entries + open_rentals s) free.1.0 in
    ((balance_after s rider _ order (omega (arith, room)) (paid_amount amount (record { low = good.1.0.0; high = good.1.0.1 })), tt), refl)
reply_good s now (command.Start rider station dock) order good none later =
    let free = none_holds (tests (view_of s (command.Start rider station dock)) (command.Start rider station dock)) none in
    started_good s station dock (docked_at s station dock) order (record { room = below_of MOST_ENTRIES (last_number s.entries + open_rentals s) free.1.1.1.1.1.1.1.1.1.1.0 }) refl
reply_good s now (command.End bike station dock) order good none later =
    ended_good s now bike station dock (rental_of s (finmap.get s.bikes bike)) order (λ r i. rental_is s bike (finmap.get s.bikes bike) r order.bikes refl i)
reply_good s now (command.Recover rental) order good none later =
    let free = none_holds (tests (view_of s (command.Recover rental)) (command.Recover rental)) none in
    recovered_good s now (rental_view s rental (item_numbered rental s.rentals)) order
    (λ r i. (view_is s rental (item_numbered rental s.rentals) r refl i, open_of (rental_view s rental (item_numbered rental s.rentals)) r i free.1.0))
reply_good s now (command.Refund rental amount) order good none later =
    let free = none_holds (tests (view_of s (command.Refund rental amount)) (command.Refund rental amount)) none in
    refunded_good s now amount (rental_view s rental (item_numbered rental s.rentals)) order
    (record { room = below_of MOST_ENTRIES (last_number s.entries + open_rentals s) free.1.1.1.0 }) (record { low = good.1.0.0; high = good.1.0.1 })
reply_good s now (command.OpenOrder truck from_end to_end type_id count) order good none later =
    let free = none_holds (tests (view_of s (command.OpenOrder truck from_end to_end type_id count)) (command.OpenOrder truck from_end to_end type_id count)) none in
    let few = below_of MOST_ORDERS (last_number s.orders) free.1.1.1.1.1.1.0 in
    (((omega arith, omega (arith, few), omega arith), tt), refl)
reply_good s now c order good none later = done
