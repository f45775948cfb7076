-- What single columns spell, beside the numbers, flags, identifiers and names that bike_schema reads.
use Rattle.std.specs.Prelude.{ℕ, ℤ, pos, neg_ℤ, int_le, ◌==◌, ◌&&◌, List, [], ◌∷◌, length, Bool, if◌then◌else◌, Option}
use Rattle.std.specs.Prelude.{Some, None}
use Rattle.std.specs.Ordering.{int_eq}
use Rattle.std.specs.List.{list_all, slice_split}
use Rattle.std.specs.Str.{bytes_eq}
use Rattle.bike_fixed.specs.declared.micro.TheConstants.{GREATEST_COORDINATE}
use Rattle.sqlite_value.specs.declared.value.Value.{Value}
use Rattle.sqlite_value.specs.Order.{Row}
use Rattle.sqlite_sql.specs.Ops.{is_null}
use Rattle.bike_fields.specs.declared.numbers.TheConstants.{GREATEST_NUMBER, GREATEST_PAYMENT, GREATEST_SERIAL}
use Rattle.bike_fields.specs.declared.numbers.TheConstants.{MOST_DOCKS}
use Rattle.bike_fields.specs.declared.limits.TheConstants.{GREATEST_LATITUDE, GREATEST_RATE}
use Rattle.bike_fields.specs.Bytes.{key_of, language_of, currency_of, ascii_of}
use Rattle.bike_fields.specs.Caller.{◌>>=◌, caller_of}
use Rattle.bike_fields.specs.declared.caller.Caller.{Caller}
use Rattle.bike_fields.specs.declared.vehicle.Form.{Form}
use Rattle.bike_fields.specs.declared.vehicle.Propulsion.{Propulsion}
use Rattle.bike_fields.specs.Vehicle.{form_of, propulsion_of}
use Rattle.bike_fields.specs.declared.name_kind.NameKind.{NameKind}
use Rattle.bike_fields.specs.NameKinds.{kind_of as named_kind_of}
use Rattle.bike_ledger.specs.Entries.{greatest_amount}
use Rattle.bike_ledger.specs.declared.entry.EntryKind.{EntryKind}
use Rattle.bike_ledger.specs.declared.entry.EntryKind.TheVariants.{TopUp, Fare, Refund, Withdrawal, Charge, Credit}
use Rattle.bike_texts.specs.declared.ends.OrderEnd.{OrderEnd}
use Rattle.bike_texts.specs.Reading.{end_of}
use Rattle.bike_commands.specs.declared.command.Command.{Command}
use Rattle.bike_commands.specs.Commands.{text_of}
use Rattle.bike_commands.specs.declared.reply.Reply.{Reply}
use Rattle.bike_commands.specs.ReplyReaders.{reply_at}
use Rattle.bike_requests.specs.Readers.{command_at}
use Rattle.bike_operator.specs.declared.records.Place.{Place}
use Rattle.bike_operator.specs.declared.records.Place.TheVariants as place
use Rattle.bike_operator.specs.declared.records.Closing.{Closing}
use Rattle.bike_operator.specs.Sound.{is_refused}
use Rattle.bike_schema.specs.Columns.{whole_in, text_in, number_in, moment_in, ident_in, or_none}

-- what a row of so many columns spells, and nothing where it has more or fewer
abbrev pub where_wide : {A : Type 0} → ℕ → Row → Option A → Option A
where_wide width row spelled = if length row == width then spelled else None

-- ---- texts

abbrev pub language_in : Value → Option (List ℕ)
language_in v = text_in v >>= language_of

abbrev pub currency_in : Value → Option (List ℕ)
currency_in v = text_in v >>= currency_of

abbrev pub ascii_in : Value → Option (List ℕ)
ascii_in v = text_in v >>= ascii_of

-- the key of a request
abbrev pub key_in : Value → Option (List ℕ)
key_in v = text_in v >>= key_of

abbrev pub caller_in : Value → Option Caller
caller_in v = text_in v >>= caller_of

abbrev pub form_in : Value → Option Form
form_in v = text_in v >>= form_of

abbrev pub propulsion_in : Value → Option Propulsion
propulsion_in v = text_in v >>= propulsion_of

-- the word for what has a name in a further language
abbrev pub named_kind_in : Value → Option NameKind
named_kind_in v = text_in v >>= named_kind_of

-- an end of an order: * for the depot, or a station's identifier
abbrev pub end_in : Value → Option OrderEnd
end_in v = text_in v >>= end_of

-- the word and no other text
abbrev pub word_in : List ℕ → Value → Option (List ℕ)
word_in word v = text_in v >>= λ text. if bytes_eq text word then Some text else None

abbrev pub is_tab : ℕ → Bool
is_tab b = b == 9

-- the command whose one text this is: coordinates stand as they are written
abbrev pub one_command_of : List ℕ → Option Command
one_command_of text = command_at (slice_split is_tab text) >>= λ c. if bytes_eq text (text_of c) then Some c else None

abbrev pub command_in : Value → Option Command
command_in v = text_in v >>= one_command_of

-- the reply that the text spells, where it is no refusal
abbrev pub accepted_of : List ℕ → Option Reply
accepted_of text = reply_at (slice_split is_tab text) >>= λ r. if is_refused r then None else Some r

abbrev pub reply_in : Value → Option Reply
reply_in v = text_in v >>= accepted_of

-- ---- numbers

-- from `lo` to `hi`
abbrev pub signed_in : ℤ → ℤ → Value → Option ℤ
signed_in lo hi v = whole_in v >>= λ z. if int_le lo z && int_le z hi then Some z else None

-- a rate of a segment, in hundredths
abbrev pub rate_in : Value → Option ℤ
rate_in = signed_in (neg_ℤ (pos GREATEST_RATE)) (pos GREATEST_RATE)

-- microdegrees from the equator, and from the meridian of Greenwich
abbrev pub latitude_in : Value → Option ℤ
latitude_in = signed_in (neg_ℤ (pos GREATEST_LATITUDE)) (pos GREATEST_LATITUDE)

abbrev pub longitude_in : Value → Option ℤ
longitude_in = signed_in (neg_ℤ (pos GREATEST_COORDINATE)) (pos GREATEST_COORDINATE)

-- the greatest whole number of 32 bits, which no count reaches
abbrev pub greatest_count : ℕ
greatest_count = 4294967295

abbrev pub count_in : Value → Option ℕ
count_in = number_in 0 greatest_count

-- riders, bicycles and trucks; docks; rentals, orders and entries
abbrev pub numbered_in : Value → Option ℕ
numbered_in = number_in 1 GREATEST_NUMBER

abbrev pub dock_in : Value → Option ℕ
dock_in = number_in 1 MOST_DOCKS

abbrev pub serial_in : Value → Option ℕ
serial_in = number_in 1 GREATEST_SERIAL

-- ---- entries

abbrev pub kind_of : ℤ → Option EntryKind
kind_of n =
    if int_eq n (pos 1) then Some TopUp else (if int_eq n (pos 2) then Some Fare
    else (if int_eq n (pos 3) then Some Refund else (if int_eq n (pos 4) then Some Withdrawal
    else (if int_eq n (pos 5) then Some Charge else (if int_eq n (pos 6) then Some Credit else None)))))

abbrev pub kind_in : Value → Option EntryKind
kind_in v = whole_in v >>= kind_of

-- the rental of an entry: 0 but for a fare and a refund
abbrev pub rental_in : EntryKind → Value → Option ℕ
rental_in TopUp = number_in 0 0
rental_in Fare = serial_in
rental_in Refund = serial_in
rental_in Withdrawal = number_in 0 0
rental_in Charge = number_in 0 0
rental_in Credit = number_in 0 0

-- what may be paid in or out, refunded, charged or credited, in hundredths
abbrev pub payment_in : Value → Option ℤ
payment_in = signed_in (pos 1) (pos GREATEST_PAYMENT)

-- a fare, in hundredths
abbrev pub fare_in : Value → Option ℤ
fare_in = signed_in (pos 0) greatest_amount

abbrev pub amount_in : EntryKind → Value → Option ℤ
amount_in TopUp = payment_in
amount_in Fare = fare_in
amount_in Refund = payment_in
amount_in Withdrawal = payment_in
amount_in Charge = payment_in
amount_in Credit = payment_in

-- ---- the columns of a place, and of a closing

abbrev pub are_null : List Value → Bool
are_null = list_all is_null

abbrev pub in_dock : Value → Value → Option Place
in_dock station dock = do
  at ← ident_in station
  n ← dock_in dock
  Some (place.Dock at n)

abbrev pub in_rental : Value → Option Place
in_rental rental = do
  n ← serial_in rental
  Some (place.Rental n)

abbrev pub on_truck : Value → Value → Option Place
on_truck truck order = do
  n ← numbered_in truck
  for ← serial_in order
  Some (place.Truck n for)

-- station_id, dock, rental, truck, ord: exactly one place, and all NULL in the depot
abbrev pub place_in : Value → Value → Value → Value → Value → Option Place
place_in station dock rental truck order =
    if are_null (station ∷ dock ∷ rental ∷ truck ∷ order ∷ []) then Some place.Depot else (
    if are_null (rental ∷ truck ∷ order ∷ []) then in_dock station dock else (
    if are_null (station ∷ dock ∷ truck ∷ order ∷ []) then in_rental rental else (
    if are_null (station ∷ dock ∷ rental ∷ []) then on_truck truck order else None)))

-- to_station, finish, fare of a closed rental: a recovered bicycle came to no station
abbrev pub closed_in : Value → Value → Value → Option (Option Closing)
closed_in to_station finish fare = do
  to ← or_none ident_in to_station
  at ← moment_in finish
  paid ← fare_in fare
  Some (Some (record { to_station = to; finish = at; fare = paid }))

-- .. all NULL while it is open
abbrev pub closing_in : Value → Value → Value → Option (Option Closing)
closing_in to_station finish fare =
    if are_null (to_station ∷ finish ∷ fare ∷ []) then Some None else closed_in to_station finish fare
