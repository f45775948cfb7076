-- The law of rentals for each kind of command.
use Rattle.std.proofs.Common.{◌≡◌, ℕ, ◌-ℤ◌, pos, false, Option, Some, refl, sym, ap, ◌∙◌}
use Rattle.std.specs.Prelude.{int_lt}
use Rattle.std.specs.FinMap as finmap
use Rattle.bike_commands.specs.declared.command.Command.TheVariants as command
use Rattle.bike_operator.specs.declared.view.RentalView.{RentalView}
use Rattle.bike_operator.specs.Operator.{item_numbered}
use Rattle.bike_operator.specs.Counts.{docked_at}
use Rattle.bike_operator.specs.View.{view_of, rental_view, rental_of, docked_view}
use Rattle.bike_operator.specs.Steps.{on, is_too_much, tests, effect}
use Rattle.bike_operator.specs.Sound.{AreRentalsSound}
use Rattle.bike_laws.specs.SingleSteps.Accepted.{AcceptedKeeps}
use Rattle.bike_laws.proofs.SingleSteps.TestLemmas.{none_holds}
use Rattle.bike_laws.proofs.FoundLemmas.{view_is, rental_is, rider_there, station_there, open_of, closed_of}
use Rattle.bike_laws.proofs.QuietLaw.{quiet_kind}
use Rattle.bike_laws.proofs.RentalLemmas.{rentals_quiet, rentals_topped_up, rentals_refunded}
use Rattle.bike_laws.proofs.RideLemmas.{docked_view_is, rentals_started}
use Rattle.bike_laws.proofs.EndLemmas.{rentals_ended, rentals_recovered}

small_enough : (amount : ℕ) (o : Option RentalView) (r : RentalView) → o ≡ Some r → is_too_much amount o ≡ false → on r.rental.closing (λ c. int_lt (c.fare -ℤ r.refunded) (pos amount)) ≡ false
small_enough amount o r is e = ap (λ (x : Option RentalView). is_too_much amount x) (sym is) ∙ e

pub rentals_law : AcceptedKeeps AreRentalsSound
rentals_law s now (command.TopUp rider amount) history order good none later = rentals_topped_up s now history rider amount order later
rentals_law s now (command.Start rider station dock) history order good none later =
    let free = none_holds (tests (view_of s (command.Start rider station dock)) (command.Start rider station dock)) none in
    rentals_started s now history rider station dock (docked_view s (docked_at s station dock)) order later
    (record {
      rider_is = rider_there s rider (finmap.get s.riders rider) free.0;
      idle = free.1.1.1.0;
      station_is = station_there (finmap.get s.stations station) free.1.1.1.1.0;
    })
    (λ b i. docked_view_is s station dock (docked_at s station dock) b refl i)
rentals_law s now (command.End bike station dock) history order good none later =
    let free = none_holds (tests (view_of s (command.End bike station dock)) (command.End bike station dock)) none in
    rentals_ended s now history bike station dock (rental_of s (finmap.get s.bikes bike)) order later (station_there (finmap.get s.stations station) free.1.1.0)
    (λ r i. rental_is s bike (finmap.get s.bikes bike) r order.bikes refl i)
rentals_law s now (command.Recover rental) history order good none later =
    let free = none_holds (tests (view_of s (command.Recover rental)) (command.Recover rental)) none in
    rentals_recovered s now history (rental_view s rental (item_numbered rental s.rentals)) order later
    (λ r i. (view_is s rental (item_numbered rental s.rentals) r refl i, open_of (rental_view s rental (item_numbered rental s.rentals)) r i free.1.0))
rentals_law s now (command.Refund rental amount) history order good none later =
    let free = none_holds (tests (view_of s (command.Refund rental amount)) (command.Refund rental amount)) none in
    rentals_refunded s now history amount (rental_view s rental (item_numbered rental s.rentals)) order later
    (λ r i. (
      view_is s rental (item_numbered rental s.rentals) r refl i,
      small_enough amount (rental_view s rental (item_numbered rental s.rentals)) r i free.1.1.0,
      closed_of (rental_view s rental (item_numbered rental s.rentals)) r i free.1.0,
    ))
rentals_law s now c history order good none later = rentals_quiet s (effect s now c) now history order later (quiet_kind s now c refl none)
