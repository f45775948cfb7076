-- What is read of rows by their columns.
use Rattle.std.specs.Prelude.{◌≡◌, ◌&&◌, ℕ, ℤ, List, [], ◌∷◌, map, Bool, Option, Some}
use Rattle.std.specs.Ordering.{is_eq}
use Rattle.sqlite_value.specs.declared.value.Value.TheVariants.{Text}
use Rattle.sqlite_value.specs.Order.{Row, column, value_cmp}
use Rattle.sqlite_sql.specs.Aggregate.{count}
use Rattle.bike_commands.specs.Replies.{IsReply}
use Rattle.bike_operator.specs.declared.records.Closing.{Closing}
use Rattle.bike_fields.specs.declared.name_kind.NameKind.{NameKind}
use Rattle.bike_fields.specs.NameKinds.{kind_text}
use Rattle.bike_catalogue.specs.Rows.{MoreNameRow}
use Rattle.bike_operator.specs.Operator.{Rider, AcceptedRequest, NameKey}
use Rattle.bike_operator.specs.Names.{part_at}
use Rattle.bike_operator.specs.declared.view.RiderView.{RiderView}
use Rattle.bike_book.specs.Rows.{number_value, closing_columns, rider_row}
use Rattle.bike_book.specs.Stored.{stored_name, stored_request}
use Rattle.bike_office_reads.specs.declared.kept.KeptRow.{KeptRow}
use Rattle.bike_office_reads.specs.declared.kept.LastRequest.{LastRequest}
use Rattle.bike_office_reads.specs.Accounts.{KeepsSame}
use Rattle.bike_schema.specs.Within.{is_within}

-- the row is that of one count
abbrev pub IsCountOf : ℕ → Row → Type 0
IsCountOf n row = row ≡ count n ∷ []

-- the row of a rider who is shown so, with the balance by archived entries
abbrev pub shown_rider_row : ℕ → ℤ → RiderView → Row
shown_rider_row rider before r =
    rider_row rider (record { is_blocked = r.is_blocked; plan = r.plan; before = before }) r.balance

-- the balance in the row of a rider, whatever else stands there
abbrev pub IsBalanceOf : Row → ℤ → Type 0
IsBalanceOf row balance = (rider : ℕ) (r : Rider) (stored : ℤ) → row ≡ rider_row rider r stored → balance ≡ stored

-- the closing that stands in the row of a rental
abbrev pub HasClosing : Row → Option Closing → Type 0
HasClosing row closing = map (column row) (6 ∷ 7 ∷ 8 ∷ []) ≡ closing_columns closing

-- the row keeps what it was made of, whatever its number
abbrev pub KeepsRow : Row → KeptRow → Type 0
KeepsRow row x =
    (number : ℕ) (a : AcceptedRequest) → IsReply a.reply → row ≡ stored_request (number, a)
    → KeepsSame (Some a) (Some x)

-- what a row of the history tells of its request's number and moment
abbrev pub IsLastRead : Row → LastRequest → Type 0
IsLastRead row last =
    (number moment : ℕ) → column row 0 ≡ number_value number → column row 1 ≡ number_value moment
    → last ≡ record { number = number; moment = moment }

-- the further name of an entry of the operator's
abbrev pub named_in : NameKey × List ℕ → MoreNameRow
named_in e = record { language = part_at e.0 2; name = e.1 }

-- what is asked of the row of a further name: the identifier of what has it, its language and the name
abbrev pub owned_name : Row → Row
owned_name row = column row 1 ∷ column row 2 ∷ column row 3 ∷ []

-- the row is of a further name, and this is it
abbrev pub IsOwnedName : Row → MoreNameRow → Type 0
IsOwnedName row x = (e : NameKey × List ℕ) → row ≡ owned_name (stored_name e) → x ≡ named_in e

-- a name of the kind, of an identifier that lies between two, both among them
abbrev pub is_name_within : NameKind → List ℕ → List ℕ → Row → Bool
is_name_within kind first last row =
    is_eq (value_cmp (column row 0) (Text (kind_text kind))) && is_within (Text first) (Text last) (column row 1)
