-- How many requests the table of a history can have.
use Rattle.std.specs.Prelude.{ℕ, ◌+◌, ℤ, pos, negsuc, nat_lt, Option, Some, None, if◌then◌else◌}
use Rattle.bike_book.specs.declared.requests.TheConstants.{MOST_REQUESTS}

-- 2^63 - 1, the greatest number of a row
abbrev pub most_requests : ℕ
most_requests = MOST_REQUESTS

-- so many as the number of a row tells
abbrev pub count_of : ℤ → Option ℕ
count_of (pos n) = Some n
count_of (negsuc n) = None

-- one request more, where there may be one
abbrev pub next_count : ℕ → Option ℕ
next_count n = if nat_lt n most_requests then Some (n + 1) else None
