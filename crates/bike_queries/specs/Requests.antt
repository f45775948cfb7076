-- The history by number: what is behind a number, page by page, and what of it lies in a span of time. Requests that
-- were archived are behind no number.
use Rattle.std.specs.Prelude.{◌≡◌, ◌≤◌, ◌&&◌, ◌-◌, ℕ, suc, Bool, List, [], ◌∷◌, map, filter, find, take, nat_lt, Option}
use Rattle.std.specs.Prelude.{if◌then◌else◌}
use Rattle.std.specs.Ordering.{is_gt}
use Rattle.sqlite_value.specs.Order.{Row, column, value_cmp}
use Rattle.bike_operator.specs.Operator.{Operator, AcceptedRequest}
use Rattle.bike_operator.specs.Requests.{RequestTexts, request_texts}
use Rattle.bike_book.specs.Numbers.{most_requests}
use Rattle.bike_book.specs.Rows.{history_row, number_value}
use Rattle.bike_book.specs.Stored.{stored_request, with_numbers}
use Rattle.bike_queries.specs.declared.requests.TheConstants.{REQUESTS_A_PAGE}
use Rattle.bike_queries.specs.Spans.{lies_in}

-- the requests of a later number, in order, each with its number
abbrev pub requests_behind : Operator → ℕ → List (ℕ × AcceptedRequest)
requests_behind s number = filter (λ e. nat_lt number e.0) (with_numbers s.history)

-- THE PAGE: the first of them, as many as it holds
abbrev pub request_page : Operator → ℕ → List RequestTexts
request_page s number = map request_texts (take REQUESTS_A_PAGE (requests_behind s number))

-- the first request of a later number whose moment lies in the span
abbrev pub request_after : Operator → ℕ → ℕ → ℕ → Option (ℕ × AcceptedRequest)
request_after s number begin end =
    find (λ e. nat_lt number e.0 && lies_in begin end e.1.moment) (with_numbers s.history)

-- the number of the last of the first requests that came before a moment; this number where the first came later
abbrev pub last_before : ℕ → ℕ → List AcceptedRequest → ℕ
last_before since number [] = number
last_before since number (a ∷ history) = if nat_lt a.moment since then last_before since (suc number) history else number

-- THE BEGIN OF THE HISTORY: the number behind which requests stand with the moments that they had. Archived ones aren't
-- there, and those from before an upgrade have no moment: theirs lie before the moment at which the city was upgraded.
abbrev pub history_begin : ℕ → Operator → ℕ
history_begin since s = last_before since s.history.archived s.history.items

-- ---- rows

-- the number of the row comes after this one
abbrev pub is_behind : ℕ → Row → Bool
is_behind number row = is_gt (value_cmp (column row 0) (number_value number))

-- the row of a request
abbrev pub texts_row : RequestTexts → Row
texts_row x = history_row x.number x.moment x.caller x.key x.command x.reply

-- read of the row was the number before that of the request that stands there
abbrev pub ReadsBefore : Row → ℕ → Type 0
ReadsBefore row n = (e : ℕ × AcceptedRequest) → row ≡ stored_request e → n ≡ e.0 - 1

-- read of the row was the request that stands there, and its number is one that a row can have
pub record ReadsRequest (row : Row) (x : RequestTexts) : Type 0 where
  pub number : x.number ≤ most_requests
  pub request : (y : RequestTexts) → row ≡ texts_row y → x ≡ y
