-- The one row of meta, which is of the newest version and holds sums that the archived entries can come to.
use Rattle.std.specs.Prelude.{ℕ, ℤ, ◌==◌, ◌&&◌, List, [], ◌∷◌, take, Bool, true, false, if◌then◌else◌}
use Rattle.std.specs.Prelude.{Option, Some, None}
use Rattle.sqlite_value.specs.Order.{Row}
use Rattle.bike_book.specs.declared.version.TheConstants.{NEWEST}
use Rattle.bike_book.specs.Rows.{number_value}
use Rattle.bike_readings.specs.Readings.{meta_read}
use Rattle.bike_judges.specs.Least.{least_key}
use Rattle.bike_judges.specs.Sums.{is_sum_of}

-- version, moment, cash, revenue, where so many entries were archived
abbrev pub has_sums : ℕ → Option (ℕ × ℕ × ℤ × ℤ) → Bool
has_sums archived None = false
has_sums archived (Some e) = ((e.0 == NEWEST) && is_sum_of archived e.2) && is_sum_of archived e.3

abbrev pub is_meta : ℕ → Row → Bool
is_meta archived line = has_sums archived (meta_read line)

-- the key of the one row
abbrev pub one_key : Row
one_key = number_value 1 ∷ []

-- the least bad key, where a good row was seen or wasn't: a second
-- row is bad, and so is the key of the one row where that is missing
unfoldable pub first_meta : (Row → Bool) → Bool → List Row → Option Row
first_meta test true [] = None
first_meta test true (x ∷ xs) = Some (take 1 x)
first_meta test false [] = Some one_key
first_meta test false (x ∷ xs) = if test x then first_meta test true xs else least_key (Some (take 1 x)) (Some one_key)
