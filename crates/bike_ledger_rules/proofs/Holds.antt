-- Whole numbers in columns.
use Rattle.std.proofs.Common.{◌≡◌, ℤ, [], ◌∷◌, take, sym, ap}
use Rattle.sqlite_value.specs.declared.value.Value.{Value}
use Rattle.sqlite_value.specs.declared.value.Value.TheVariants.{Int}
use Rattle.sqlite_value.specs.Order.{Row, column}

-- a number in the first column is a key of one column
pub first_number : (row : Row) (n : ℤ) → column row 0 ≡ Int n → Int n ∷ [] ≡ take 1 row
first_number [] n e = absurd cc
first_number (v ∷ row) n e = ap (λ (w : Value). w ∷ []) (sym e)
