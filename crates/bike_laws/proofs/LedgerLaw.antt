-- The law of the ledger for each kind of command.
use Rattle.std.proofs.Common.{◌≡◌, ℕ, ℤ, pos, ◌+ℤ◌, ◌+◌, ◌<◌, ◌≤◌, Bool, true, false, cond, Option, Some, None, refl, ap, arith}
use Rattle.std.specs.Prelude.{is_some}
use Rattle.std.specs.FinMap as finmap
use Rattle.std.proofs.lemmas.Int.{ints}
use Rattle.std.specs.Cmp.{nat_cmp_total}
use Rattle.bike_ledger.specs.declared.entry.EntryKind.TheVariants.{TopUp}
use Rattle.bike_commands.specs.declared.command.Command.TheVariants as command
use Rattle.bike_operator.specs.Operator.{Operator, Rider, item_numbered, last_number}
use Rattle.bike_operator.specs.Counts.{open_rentals, docked_at}
use Rattle.bike_operator.specs.View.{view_of, rental_view, rental_of, docked_view}
use Rattle.bike_operator.specs.declared.limits.TheConstants.{MOST_RIDERS, MOST_ENTRIES}
use Rattle.bike_operator.specs.Steps.{new_rider, found_changed, tests, effect}
use Rattle.bike_operator.specs.Sound.{IsLedgerSound, befores}
use Rattle.bike_laws.proofs.SingleSteps.Moment.{at_moment}
use Rattle.bike_laws.proofs.PastLemmas.{none_before, none_there, befores_added, befores_set}
use Rattle.bike_laws.proofs.QuietLemmas.{IsQuiet}
use Rattle.bike_laws.specs.SingleSteps.Accepted.{AcceptedKeeps}
use Rattle.bike_laws.proofs.SingleSteps.TestLemmas.{none_holds, holds}
use Rattle.bike_laws.proofs.FoundLemmas.{below_of, view_is, rental_is, rider_there, open_of, closed_of}
use Rattle.bike_laws.proofs.QuietLaw.{quiet_kind, same_riders}
use Rattle.bike_laws.proofs.LedgerLemmas.{ledger_quiet, ledger_rider, ledger_ended, ledger_recovered, ledger_started, is_payment, ledger_paid, ledger_refunded}

one_more : (b : Bool) (n m most : ℕ) → m ≡ cond b n (n + 1) → n < most → m ≤ most
one_more true n m most e low = omega (arith, e, low)
one_more false n m most e low = omega (arith, e, low)

no_more : (b : Bool) (n m most : ℕ) → b ≡ true → m ≡ cond b n (n + 1) → n ≤ most → m ≤ most
no_more true n m most is e low = omega (arith, e, low)
no_more false n m most is e low = absurd cc

-- a rider who had nothing adds nothing
same_sum : (old : ℤ) {new : ℤ} → new ≡ old +ℤ pos 0 → new ≡ old
same_sum old is = omega (arith, ints, is)

pub ledger_law : AcceptedKeeps IsLedgerSound
ledger_law s now (command.AddRider rider) history order good none later =
    let free = none_holds (tests (view_of s (command.AddRider rider)) (command.AddRider rider)) none in
    ledger_rider s now history rider new_rider order.ledger later (record { low = good.0.0; high = good.0.1; plan = tt; before = none_before s.entries.archived })
    (same_sum (befores (finmap.entries s.riders)) (befores_added s.riders rider new_rider (none_there (finmap.get s.riders rider) free.0)))
    (one_more (finmap.contains_key s.riders rider) (finmap.len s.riders) (finmap.len (finmap.insert s.riders rider new_rider)) MOST_RIDERS
    (finmap.len-insert nat_cmp_total s.riders rider new_rider) (below_of MOST_RIDERS (finmap.len s.riders) free.1.0))
    (quiet_kind s now (command.AddRider rider) refl none)
ledger_law s now (command.SetRider rider blocked) history order good none later =
    set_law (finmap.get s.riders rider) refl (quiet_kind s now (command.SetRider rider blocked) refl none)
  where
    sets : Rider → Rider
    sets r = record r { is_blocked = blocked }

    set_law : (o : Option Rider) → finmap.get s.riders rider ≡ o → IsQuiet s (record s { riders = found_changed s.riders rider sets o })
        → IsLedgerSound (at_moment (record s { riders = found_changed s.riders rider sets o }) now history)
    set_law None e q = ledger_quiet s s now history order.ledger later q refl
    set_law (Some r) e q =
        let at = order.ledger.riders rider r e in
        ledger_rider s now history rider (sets r) order.ledger later (record { low = at.low; high = at.high; plan = at.plan; before = at.before })
        (befores_set s.riders rider r (sets r) e refl)
        (no_more (finmap.contains_key s.riders rider) (finmap.len s.riders) (finmap.len (finmap.insert s.riders rider (sets r))) MOST_RIDERS
        (ap (λ (o : Option Rider). is_some o) e) (finmap.len-insert nat_cmp_total s.riders rider (sets r)) order.ledger.few_riders) q
ledger_law s now (command.TopUp rider amount) history order good none later =
    let free = none_holds (tests (view_of s (command.TopUp rider amount)) (command.TopUp rider amount)) none in
    ledger_paid s now history TopUp rider 0 amount order (record { room = below_of MOST_ENTRIES (last_number s.entries + open_rentals s) free.1.0 }) later
    (rider_there s rider (finmap.get s.riders rider) free.0) (refl, is_payment amount (record { low = good.1.0.0; high = good.1.0.1 }))
ledger_law s now (command.Start rider station dock) history order good none later =
    let free = none_holds (tests (view_of s (command.Start rider station dock)) (command.Start rider station dock)) none in
    ledger_started s now history rider station (docked_view s (docked_at s station dock)) order
    (record { room = below_of MOST_ENTRIES (last_number s.entries + open_rentals s) free.1.1.1.1.1.1.1.1.1.1.0 }) later
ledger_law s now (command.End bike station dock) history order good none later =
    ledger_ended s now history bike station dock (rental_of s (finmap.get s.bikes bike)) order later (λ r i. rental_is s bike (finmap.get s.bikes bike) r order.bikes refl i)
ledger_law s now (command.Recover rental) history order good none later =
    let free = none_holds (tests (view_of s (command.Recover rental)) (command.Recover rental)) none in
    ledger_recovered s now history (rental_view s rental (item_numbered rental s.rentals)) order later
    (λ r i. (view_is s rental (item_numbered rental s.rentals) r refl i, open_of (rental_view s rental (item_numbered rental s.rentals)) r i free.1.0))
ledger_law s now (command.Refund rental amount) history order good none later =
    let free = none_holds (tests (view_of s (command.Refund rental amount)) (command.Refund rental amount)) none in
    ledger_refunded s now history amount (rental_view s rental (item_numbered rental s.rentals)) order
    (record { room = below_of MOST_ENTRIES (last_number s.entries + open_rentals s) free.1.1.1.0 }) (record { low = good.1.0.0; high = good.1.0.1 }) later
    (λ r i. (view_is s rental (item_numbered rental s.rentals) r refl i, closed_of (rental_view s rental (item_numbered rental s.rentals)) r i free.1.0))
ledger_law s now c history order good none later = ledger_quiet s (effect s now c) now history order.ledger later (quiet_kind s now c refl none) (same_riders s now c refl)
