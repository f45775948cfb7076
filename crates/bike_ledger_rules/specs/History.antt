-- What is asked of the rows of the history: of each with the row
-- before it, and of the callers and keys of all of them.
use Rattle.std.specs.Prelude.{ℕ, ◌+◌, ◌==◌, ◌&&◌, nat_le, Bool, true, false, if◌then◌else◌, List, [], ◌∷◌, take, fold}
use Rattle.std.specs.Prelude.{Option, Some, None, option_map}
use Rattle.std.specs.Ordering.{is_eq}
use Rattle.sqlite_value.specs.Order.{Row, column, value_cmp}
use Rattle.bike_operator.specs.Operator.{AcceptedRequest}
use Rattle.bike_readings.specs.Readings.{request_read}
use Rattle.bike_judges.specs.Least.{least_key}

-- ---- a request with the one before it

-- not before the last moment, where there is one
abbrev pub is_later : Option ℕ → ℕ → Bool
is_later None moment = true
is_later (Some last) moment = nat_le last moment

-- of so many requests before it, archived ones included, it is the next one, and it is neither after now nor before the
-- last of them
abbrev pub is_next_request : ℕ → ℕ → Option ℕ → ℕ × AcceptedRequest → Bool
is_next_request now before last e = (e.0 == before + 1) && (nat_le e.1.moment now && is_later last e.1.moment)

abbrev pub request_passes : ℕ → ℕ → Option ℕ → Option (ℕ × AcceptedRequest) → Bool
request_passes now before last None = false
request_passes now before last (Some e) = is_next_request now before last e

-- the moment of a request that passes
abbrev pub next_moment : ℕ → ℕ → Option ℕ → Option (ℕ × AcceptedRequest) → Option ℕ
next_moment now before last None = None
next_moment now before last (Some e) = if is_next_request now before last e then Some e.1.moment else None

abbrev pub moment_of : Option (ℕ × AcceptedRequest) → Option ℕ
moment_of = option_map (λ e. e.1.moment)

-- the moment of the last row
abbrev pub last_moment : List Row → Option ℕ
last_moment = fold (λ last row. moment_of (request_read row)) None

-- the key of the first row that isn't the next request after those before it
unfoldable pub first_astray : ℕ → ℕ → Option ℕ → List Row → Option Row
first_astray now before last [] = None
first_astray now before last (row ∷ rows) =
    if request_passes now before last (request_read row)
    then first_astray now (before + 1) (moment_of (request_read row)) rows
    else Some (take 1 row)

-- THE RULE of a row of the history, before which so many rows stand, behind so many requests that were archived
abbrev pub request_test : ℕ → ℕ → List Row → ℕ → Row → Bool
request_test now archived rows before row =
    request_passes now (archived + before) (last_moment (take before rows)) (request_read row)

-- ---- callers and keys, of lines in their order

-- two lines have one caller and key
abbrev pub has_same_key : Row → Row → Bool
has_same_key a b = is_eq (value_cmp (column a 0) (column b 0)) && is_eq (value_cmp (column a 1) (column b 1))

abbrev pub comes_again : Option Row → Row → Bool
comes_again None line = false
comes_again (Some last) line = has_same_key line last

-- the number of a line whose caller and key the line before it has
abbrev pub number_again : Option Row → Row → Option Row
number_again last line = if comes_again last line then Some (column line 2 ∷ []) else None

-- the least such number, or one that was found before
unfoldable pub least_again : Option Row → Option Row → List Row → Option Row
least_again found last [] = found
least_again found last (line ∷ lines) = least_again (least_key found (number_again last line)) (Some line) lines
