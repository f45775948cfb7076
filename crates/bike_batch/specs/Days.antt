-- The tables of a day over an operator.
use Rattle.std.specs.Prelude.{ℕ, List, map, Option, Some, None, if◌then◌else◌}
use Rattle.std.specs.List.{filter, filter_map}
use Rattle.bike_ledger.specs.Entries.{Entry}
use Rattle.bike_operator.specs.declared.records.Rental.{Rental}
use Rattle.bike_operator.specs.declared.records.Closing.{Closing}
use Rattle.bike_operator.specs.Operator.{Operator}
use Rattle.bike_operator.specs.Requests.{RequestTexts, request_texts}
use Rattle.bike_book.specs.Stored.{with_numbers}
use Rattle.bike_queries.specs.Spans.{lies_in}
use Rattle.bike_day_texts.specs.declared.table.DayTable.{DayTable}
use Rattle.bike_day_texts.specs.declared.table.DayTable.TheVariants.{Entries, Rentals, Requests}
use Rattle.bike_day_texts.specs.Rows.{EndedRow, entry_line, ended_line, request_line, table_text}

-- the entries whose moment lies in the span, by number
abbrev pub span_entries : Operator → ℕ → ℕ → List Entry
span_entries s begin end = filter (λ e. lies_in begin end e.at) s.entries.items

-- how a rental ended
abbrev pub ended_row : ℕ → Rental → Closing → EndedRow
ended_row number r c = record {
  number = number;
  rider = r.rider;
  bike = r.bike;
  plan = r.plan;
  from_station = r.from_station;
  start = r.start;
  to_station = c.to_station;
  finish = c.finish;
  fare = c.fare;
}

-- the same where it ended in the span
abbrev pub ended_in : ℕ → ℕ → ℕ → Rental → Option Closing → Option EndedRow
ended_in begin end number r None = None
ended_in begin end number r (Some c) = if lies_in begin end c.finish then Some (ended_row number r c) else None

-- the rentals that ended in the span, by number
abbrev pub span_rentals : Operator → ℕ → ℕ → List EndedRow
span_rentals s begin end = filter_map (λ e. ended_in begin end e.0 e.1 e.1.closing) (with_numbers s.rentals)

-- the requests whose moment lies in the span, by number
abbrev pub span_requests : Operator → ℕ → ℕ → List RequestTexts
span_requests s begin end = map request_texts (filter (λ e. lies_in begin end e.1.moment) (with_numbers s.history))

-- THE TABLE of a span
abbrev pub span_text : Operator → DayTable → ℕ → ℕ → List ℕ
span_text s Entries begin end = table_text Entries entry_line (span_entries s begin end)
span_text s Rentals begin end = table_text Rentals ended_line (span_rentals s begin end)
span_text s Requests begin end = table_text Requests request_line (span_requests s begin end)
