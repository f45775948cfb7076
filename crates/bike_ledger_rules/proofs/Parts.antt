-- The parts of a line: a row, and its partners or NULLs.
use Rattle.std.proofs.Common.{◌≡◌, ℕ, zero, suc, List, ◌++◌, length, take, drop, Bool, true, false, cond, Option, Some, None, refl, ap, ◌∙◌, arith}
use Rattle.std.specs.List.{list_any}
use Rattle.std.proofs.lemmas.List.{take_at, drop_at, take_all}
use Rattle.sqlite_value.specs.Order.{Row}
use Rattle.sqlite_sql.specs.Ops.{is_null}
use Rattle.bike_sql.specs.View.{partner, row_with}
use Rattle.bike_readings.proofs.Places.{under_has}
use Rattle.bike_judges.specs.Lines.{nulls, or_nulls, with_one, part}
use Rattle.bike_ledger_rules.proofs.RiderFolds.{AreWide}

pub nulls_wide : (n : ℕ) → length (nulls n) ≡ n
nulls_wide zero = refl
nulls_wide (suc n) = ap suc (nulls_wide n)

-- a partner of rows of a width
pub partner_wide : (width keys : ℕ) (key : Row) (rows : List Row) → AreWide width rows → length (or_nulls width (partner keys key rows)) ≡ width
partner_wide width keys key rows wide = go (list_any is_null key) (row_with keys key rows) refl where
  go : (b : Bool) (o : Option Row) → row_with keys key rows ≡ o → length (or_nulls width (cond b None o)) ≡ width
  go true o is = nulls_wide width
  go false None is = nulls_wide width
  go false (Some r) is = wide r (under_has keys key rows r is).0

last : (n m : ℕ) (xs ys : Row) → length xs ≡ n → length ys ≡ m → take m (drop n (xs ++ ys)) ≡ ys
last n m xs ys a b = ap (take m) (drop_at xs ys n a) ∙ take_all m ys (omega (arith, b))

module _ (row : Row) (width first : ℕ) (p : Option Row) (wide : length row ≡ width) (p_wide : length (or_nulls first p) ≡ first) where
  pub own_of_one : part 0 width (with_one first row p) ≡ row
  own_of_one = take_at row (or_nulls first p) width wide

  pub partner_of_one : part width first (with_one first row p) ≡ or_nulls first p
  partner_of_one = last width first row (or_nulls first p) wide p_wide
