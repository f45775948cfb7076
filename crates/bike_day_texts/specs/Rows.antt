-- The rows of the tables: which columns they have, and their texts.
use Rattle.std.specs.Prelude.{ℕ, ℤ, List, [], ◌∷◌, ◌++◌, Option, Some, None, codes, decimal}
use Rattle.std.specs.List.{flat_map}
use Rattle.csv.specs.Writing.{default_writer, row_text}
use Rattle.bike_fixed.specs.Text.{cents_text, moment_text}
use Rattle.bike_ledger.specs.declared.entry.EntryKind.{EntryKind}
use Rattle.bike_ledger.specs.declared.entry.EntryKind.TheVariants.{TopUp, Fare, Refund, Withdrawal, Charge, Credit}
use Rattle.bike_ledger.specs.Entries.{Entry}
use Rattle.bike_operator.specs.Requests.{RequestTexts}
use Rattle.bike_day_texts.specs.declared.table.DayTable.{DayTable}
use Rattle.bike_day_texts.specs.declared.table.DayTable.TheVariants.{Entries, Rentals, Requests}

-- fields as one line of comma-separated values, which ends in a line feed
unfoldable pub line_of : List (List ℕ) → List ℕ
line_of = row_text default_writer

abbrev pub columns_of : DayTable → List (List ℕ)
columns_of Entries = codes "number" ∷ codes "kind" ∷ codes "rider" ∷ codes "rental" ∷ codes "amount" ∷ codes "at" ∷ []
columns_of Rentals =
    codes "number" ∷ codes "rider" ∷ codes "bike" ∷ codes "plan" ∷ codes "from" ∷ codes "start" ∷ codes "to"
    ∷ codes "end" ∷ codes "fare" ∷ []
columns_of Requests =
    codes "number" ∷ codes "moment" ∷ codes "caller" ∷ codes "key" ∷ codes "command" ∷ codes "reply" ∷ []

abbrev pub header_line : DayTable → List ℕ
header_line table = line_of (columns_of table)

-- ---- entries

abbrev pub kind_name : EntryKind → List ℕ
kind_name TopUp = codes "topup"
kind_name Fare = codes "fare"
kind_name Refund = codes "refund"
kind_name Withdrawal = codes "withdrawal"
kind_name Charge = codes "charge"
kind_name Credit = codes "credit"

-- an entry of no rental shows the rental 0
abbrev pub entry_fields : Entry → List (List ℕ)
entry_fields e =
    decimal e.number ∷ kind_name e.kind ∷ decimal e.rider ∷ decimal e.rental ∷ cents_text e.amount ∷ moment_text e.at
    ∷ []

abbrev pub entry_line : Entry → List ℕ
entry_line e = line_of (entry_fields e)

-- ---- rentals that ended

-- a rental with its number, and how it ended: the fare in hundredths, moments in seconds
pub record EndedRow : Type 0 where
  pub number : ℕ
  pub rider : ℕ
  pub bike : ℕ
  pub plan : List ℕ
  pub from_station : List ℕ
  pub start : ℕ
  pub to_station : Option (List ℕ)
  pub finish : ℕ
  pub fare : ℤ

-- the station at which a rental ended, or a star where the bicycle was recovered
abbrev pub stop_text : Option (List ℕ) → List ℕ
stop_text None = codes "*"
stop_text (Some station) = station

abbrev pub ended_fields : EndedRow → List (List ℕ)
ended_fields r =
    decimal r.number ∷ decimal r.rider ∷ decimal r.bike ∷ r.plan ∷ r.from_station ∷ moment_text r.start
    ∷ stop_text r.to_station
    ∷ moment_text r.finish ∷ cents_text r.fare ∷ []

abbrev pub ended_line : EndedRow → List ℕ
ended_line r = line_of (ended_fields r)

-- ---- accepted requests

abbrev pub request_fields : RequestTexts → List (List ℕ)
request_fields x = decimal x.number ∷ moment_text x.moment ∷ x.caller ∷ x.key ∷ x.command ∷ x.reply ∷ []

abbrev pub request_line : RequestTexts → List ℕ
request_line x = line_of (request_fields x)

-- ---- whole tables

-- the header, and a line a row
abbrev pub table_text : {A : Type 0} → DayTable → (A → List ℕ) → List A → List ℕ
table_text table line rows = header_line table ++ flat_map line rows
