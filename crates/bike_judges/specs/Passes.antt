-- One pass over lines: each line by itself, or lines in stretches, where
-- a head opens an account and the lines after it are added to that.
use Rattle.std.specs.Prelude.{◌≡◌, ℕ, suc, List, [], ◌∷◌, fold, if◌then◌else◌, Bool, true, false, Option, Some, None}
use Rattle.std.specs.Prelude.{option_map}
use Rattle.sqlite_value.specs.Order.{Row}
use Rattle.bike_book.specs.Tables.{TableName, Tables}
use Rattle.bike_readings.specs.Rules.{row_under, rows_below}
use Rattle.bike_judges.specs.declared.pass.Opening.{Opening}
use Rattle.bike_judges.specs.declared.pass.Opening.TheVariants.{Head, Unread, Item}

-- ---- each line by itself

-- the key of the first line that fails the test, which is told how many lines stand before it
unfoldable pub first_failing : (ℕ → Row → Bool) → (Row → Row) → ℕ → List Row → Option Row
first_failing test key n [] = None
first_failing test key n (x ∷ xs) = if test n x then first_failing test key (suc n) xs else Some (key x)

-- it is demanded of the row under a key, where there is one, with so many rows below it
abbrev pub OfRow : (ℕ → Row → Bool) → ℕ → Option Row → Type 0
OfRow test below None = Unit {0}
OfRow test below (Some row) = test below row ≡ true

abbrev pub Demands : Tables → TableName → (ℕ → Row → Bool) → Row → Type 0
Demands t name test key = OfRow test (rows_below t name key) (row_under t name key)

-- ---- stretches

module _ {A : Type 0} (begins : Row → Opening A) (more : A → Row → A) (good : ℕ → A → Bool) (key : A → Row)
    (head_key : Row → Row) where
  -- the open account is closed before a head or at the end: it is bad, or the pass goes on
  abbrev pub closed : Option A → ℕ → Option Row → Option Row
  closed None n next = next
  closed (Some a) n next = if good n a then next else Some (key a)

  abbrev pub count_closed : Option A → ℕ → ℕ
  count_closed None n = n
  count_closed (Some a) n = suc n

  -- a line, where `n` accounts were closed and this one is open, and what the lines after it come to
  abbrev pub pass_line : Option A → ℕ → Row → Opening A → (Option A → ℕ → Option Row) → Option Row
  pass_line account n x (Head a) rest = closed account n (rest (Some a) (count_closed account n))
  pass_line account n x Unread rest = closed account n (Some (head_key x))
  pass_line account n x Item rest = rest (option_map (λ a. more a x) account) n

  unfoldable pub pass : Option A → ℕ → List Row → Option Row
  pass account n [] = closed account n None
  pass account n (x ∷ xs) = pass_line account n x (begins x) (λ other m. pass other m xs)

  -- what a head comes to with all these items, of which `more` takes its own
  abbrev pub is_good_with : List Row → ℕ → Opening A → Bool
  is_good_with items n (Head a) = good n (fold more a items)
  is_good_with items n Unread = false
  is_good_with items n Item = true
