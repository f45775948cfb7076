-- The moment in the last row of the history of an operator is that of its last request, and no moment that is read off tables is past the last one.
use Rattle.std.proofs.Common.{◌≡◌, ℕ, suc, ◌+◌, ◌≤◌, List, [], ◌∷◌, Option, Some, None, refl, ap, arith}
use Rattle.std.specs.Prelude.{map, slice_get, option_and_then, unwrap_or}
use Rattle.sqlite_value.specs.Order.{Row, column}
use Rattle.bike_sql.specs.View.{last_of}
use Rattle.bike_fixed.specs.Whole.{last_moment}
use Rattle.bike_operator.specs.Operator.{AcceptedRequest, Numbered, item_at, item_numbered}
use Rattle.bike_laws.specs.History.{last_moment_of}
use Rattle.bike_laws.proofs.SingleSteps.ItemLemmas.{number_of_place}
use Rattle.bike_book.specs.Tables.{Tables}
use Rattle.bike_book.specs.Stored.{numbers_from, with_numbers, stored_request}
use Rattle.bike_schema.specs.Columns.{moment_in}
use Rattle.bike_readings.specs.Bounds.{IsMoment}
use Rattle.bike_readings.specs.ReadOff.{since_of, last_moment_in, moment_of}
use Rattle.bike_readings.proofs.ColumnLaws.{moment_column}

-- ---- of an operator

moment_from : (n now : ℕ) (a : AcceptedRequest) (history : List AcceptedRequest) → ((i : ℕ) (x : AcceptedRequest) → item_at i (a ∷ history) ≡ Some x → IsMoment x.moment)
    → last_moment_in (map stored_request (numbers_from n (a ∷ history))) ≡ last_moment_of now (a ∷ history)
moment_from n now a [] each = ap (λ (o : Option ℕ). unwrap_or o 0) (moment_column.full a.moment (each 0 a refl))
moment_from n now a (b ∷ history) each = moment_from (suc n) a.moment b history (λ i x is. each (suc i) x is)

moment_behind : (n : ℕ) (history : List AcceptedRequest) → ((i : ℕ) (x : AcceptedRequest) → item_at i history ≡ Some x → IsMoment x.moment)
    → last_moment_in (map stored_request (numbers_from n history)) ≡ last_moment_of 0 history
moment_behind n [] each = refl
moment_behind n (a ∷ history) each = moment_from n 0 a history each

pub last_back : (history : Numbered AcceptedRequest) → ((number : ℕ) (a : AcceptedRequest) → item_numbered number history ≡ Some a → IsMoment a.moment)
    → last_moment_in (map stored_request (with_numbers history)) ≡ last_moment_of 0 history.items
last_back history each = moment_behind (suc history.archived) history.items (λ i x is. each (history.archived + suc i) x (number_of_place i history x is))

-- ---- of tables

moment_within : (o : Option ℕ) → ((n : ℕ) → o ≡ Some n → IsMoment n) → IsMoment (unwrap_or o 0)
moment_within None each = omega arith
moment_within (Some n) each = each n refl

last_within : (o : Option Row) → IsMoment (unwrap_or (option_and_then (λ (row : Row). moment_in (column row 1)) o) 0)
last_within None = omega arith
last_within (Some row) = moment_within (moment_in (column row 1)) (λ n is. (moment_column.sound (column row 1) n is).1)

pub moment_by_last : (t : Tables) → since_of t.meta ≤ last_moment → moment_of t ≤ last_moment
moment_by_last t since =
    let last = last_within (slice_get (last_of t.history) 0) in
    omega (arith, since, last)
