-- What the reads answer of an operator.
use Rattle.std.specs.Prelude.{◌≡◌, ℕ, ℤ, List, Option, Some, None, option_map, string_bytes}
use Rattle.bike_ledger.specs.Ledger.{refunded_of}
use Rattle.bike_commands.specs.Commands.{text_of}
use Rattle.bike_catalogue.specs.Rows.{SystemRow}
use Rattle.bike_operator.specs.declared.records.Rental.{Rental}
use Rattle.bike_operator.specs.Operator.{Operator, AcceptedRequest, item_numbered, last_number}
use Rattle.bike_laws.specs.History.{last_moment_of}
use Rattle.bike_office_reads.specs.declared.books.Archived.{Archived}
use Rattle.bike_office_reads.specs.declared.kept.KeptRow.{KeptRow}
use Rattle.bike_office_reads.specs.declared.kept.LastRequest.{LastRequest}

-- how many requests, entries and rentals were archived
abbrev pub archived_of : Operator → Archived
archived_of s = record {
  requests = s.history.archived;
  entries = s.entries.archived;
  rentals = s.rentals.archived;
}

-- the number of the last accepted request, and its moment
abbrev pub last_request_of : Operator → LastRequest
last_request_of s = record { number = last_number s.history; moment = last_moment_of 0 s.history.items }

-- the row keeps what the operator keeps, or neither keeps anything
abbrev pub KeepsSame : Option AcceptedRequest → Option KeptRow → Type 0
KeepsSame None None = Unit {0}
KeepsSame None (Some row) = ⊥
KeepsSame (Some a) None = ⊥
KeepsSame (Some a) (Some row) =
    (string_bytes row.command ≡ text_of a.request.command) × (row.reply ≡ a.reply)

-- a rental, if it is there, with the sum of its refunds
abbrev pub stored_rental_at : Operator → ℕ → Option (Rental × ℤ)
stored_rental_at s rental = option_map (λ r. (r, refunded_of rental s.entries.items)) (item_numbered rental s.rentals)

-- the identifier and the language of the system
abbrev pub system_key : SystemRow → List ℕ × List ℕ
system_key r = (r.system_id, r.language)
