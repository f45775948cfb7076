-- What a decision needs of the numbers in a view. Each view of a sound operator has it.
use Rattle.std.specs.Prelude.{◌≡◌, ℕ, ℤ, ◌+◌, ◌<◌, ◌≤◌, true, false, pos, ◌≤ℤ◌, IfSome, IfNone}
use Rattle.bike_ledger.specs.Ledger.{IsBalance}
use Rattle.bike_operator.specs.declared.limits.TheConstants.{MOST_ENTRIES}
use Rattle.bike_operator.specs.declared.view.RentalView.{RentalView}
use Rattle.bike_operator.specs.declared.view.View.{View}
use Rattle.bike_operator.specs.Counts.{is_open}

-- an open rental began by now, and its fare can be booked
pub record IsChargeable (entries now : ℕ) (r : RentalView) : Type 0 where
  pub began : r.rental.start ≤ now
  pub room : entries < MOST_ENTRIES
  pub balance : IsBalance r.balance

-- the refunds of a closed rental lie within its fare, and where there is room for an entry, one more can be booked
pub record IsRefundable (entries : ℕ) (r : RentalView) (fare : ℤ) : Type 0 where
  pub low : pos 0 ≤ℤ r.refunded
  pub high : r.refunded ≤ℤ fare
  pub balance : entries < MOST_ENTRIES → IsBalance r.balance

-- what a decision needs of a view, at a moment
pub record IsBounded (view : View) (now : ℕ) : Type 0 where
  -- where the ledger isn't full, one more rental has a number, and the rider's balance takes one more entry
  pub few_rentals : view.is_ledger_full ≡ false → view.rentals < MOST_ENTRIES
  pub rider : view.is_ledger_full ≡ false → IfSome view.rider (λ r. IsBalance r.balance)
  pub charge : IfSome view.rental (λ r. IfNone r.rental.closing (IsChargeable view.entries now r))
  pub refund : IfSome view.rental (λ r. IfSome r.rental.closing (λ c. IsRefundable view.entries r c.fare))
  -- the rental that ends at a station is open
  pub ends : IfSome view.station (λ x. IfSome view.rental (λ r. is_open r.rental ≡ true))
  pub filled : IfSome view.order (λ o. o.delivered + view.on_truck ≤ o.count)
