-- The operator's figures: its moment, and how many rentals, orders, entries and accepted requests it has.
use Rattle.std.specs.Prelude.{◌≡◌, ℕ, Option, Some, None, Ok, option_map}
use Rattle.bike_commands.specs.declared.request.Request.{Request}
use Rattle.bike_operator.specs.Operator.{Operator, last_number}
use Rattle.bike_operator.specs.Runs.{after_acceptance}
use Rattle.bike_accepted.specs.declared.change.Change.{Change}
use Rattle.bike_accepted.specs.declared.change.Change.TheVariants as change
use Rattle.bike_accepted.specs.declared.accepted.BookedEntry.{BookedEntry}
use Rattle.bike_accepted.specs.declared.accepted.Accepted.{Accepted}
use Rattle.bike_accepted.specs.Effects.{Decides}
use Rattle.bike_accepted.specs.Found.{AreFound}
use Rattle.bike_book.specs.Numbers.{next_count}
use Rattle.bike_booking.specs.declared.figures.Figures.{Figures}

abbrev pub figures_of : Operator → Figures
figures_of s =
    record {
      now = s.now;
      rentals = last_number s.rentals;
      orders = last_number s.orders;
      entries = last_number s.entries;
      requests = last_number s.history;
    }

-- what is added has the next number, and that is how many there are then
abbrev pub rentals_after : ℕ → Option Change → ℕ
rentals_after rentals (Some (change.AddRental rental rider bike plan from_station start)) = rental
rentals_after rentals c = rentals

abbrev pub orders_after : ℕ → Option Change → ℕ
orders_after orders (Some (change.AddOrder order truck from_end to_end type_id count)) = order
orders_after orders c = orders

abbrev pub entries_after : ℕ → Option BookedEntry → ℕ
entries_after entries None = entries
entries_after entries (Some b) = b.entry.number

-- with an acceptance, and so many requests then
abbrev pub figures_with : Figures → ℕ → Accepted → ℕ → Figures
figures_with f now a requests = record {
  now = now;
  rentals = rentals_after f.rentals a.change;
  orders = orders_after f.orders a.change;
  entries = entries_after f.entries a.entry;
  requests = requests;
}

-- none where no further request can be numbered
abbrev pub figures_after : Figures → ℕ → Accepted → Option Figures
figures_after f now a = option_map (figures_with f now a) (next_count f.requests)

-- The figures with an accepted request, where it can be numbered, are those of the operator after it.
abbrev pub FiguresFollow : Type 0
FiguresFollow =
    (s : Operator) (now : ℕ) (q : Request) (a : Accepted) (figures : Figures)
    → Decides s now q.command (Ok a) → AreFound now s a
    → figures_after (figures_of s) now a ≡ Some figures → figures ≡ figures_of (after_acceptance s now q)
