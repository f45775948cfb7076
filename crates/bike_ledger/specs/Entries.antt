-- The entries of the ledger.
use Rattle.std.specs.Prelude.{◌≡◌, ℕ, ℤ, ◌≤◌, pos, ◌≤ℤ◌}
use Rattle.bike_fixed.specs.declared.cents.TheConstants.{GREATEST_FARE}
use Rattle.bike_ledger.specs.declared.entry.EntryKind.{EntryKind}
use Rattle.bike_ledger.specs.declared.entry.EntryKind.TheVariants.{TopUp, Fare, Refund, Withdrawal, Charge, Credit}

-- one entry: amounts are hundredths, `at` is a moment in seconds
pub record Entry : Type 0 where
  pub number : ℕ
  pub kind : EntryKind
  pub rider : ℕ
  pub rental : ℕ
  pub amount : ℤ
  pub at : ℕ

-- the greatest amount of an entry, which is the greatest fare
abbrev pub greatest_amount : ℤ
greatest_amount = GREATEST_FARE

-- A fare and a refund are of a rental; an entry of another kind is of none, which is the number 0.
abbrev pub IsOfKind : EntryKind → ℕ → Type 0
IsOfKind TopUp rental = rental ≡ 0
IsOfKind Fare rental = 1 ≤ rental
IsOfKind Refund rental = 1 ≤ rental
IsOfKind Withdrawal rental = rental ≡ 0
IsOfKind Charge rental = rental ≡ 0
IsOfKind Credit rental = rental ≡ 0

-- What every entry keeps.
pub record IsEntry (e : Entry) : Type 0 where
  pub kind : IsOfKind e.kind e.rental
  pub low : pos 0 ≤ℤ e.amount
  pub high : e.amount ≤ℤ greatest_amount
