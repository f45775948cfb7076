-- The rows of a table of stations, and the request that each is.
use Rattle.std.specs.Prelude.{◌≡◌, ℕ, ◌+◌, List, [], ◌∷◌, ◌++◌, false, Option, Some, None, option_map, codes, decimal}
use Rattle.std.specs.Prelude.{⊤}
use Rattle.bike_fixed.specs.Coordinate.{micro_of}
use Rattle.bike_fixed.specs.Whole.{number_of}
use Rattle.bike_fields.specs.declared.caller.Caller.TheVariants.{Import}
use Rattle.bike_fields.specs.declared.numbers.TheConstants.{MOST_DOCKS}
use Rattle.bike_fields.specs.Bytes.{ident_of, name_of}
use Rattle.bike_catalogue.specs.Rows.{StationRow, station_within}
use Rattle.bike_texts.specs.Reading.{◌>>=◌, field_at, no_more}
use Rattle.bike_commands.specs.declared.command.Command.TheVariants.{AddStation}
use Rattle.bike_commands.specs.declared.refusal.Refusal.TheVariants.{BadField}
use Rattle.bike_commands.specs.declared.reply.Reply.{Reply}
use Rattle.bike_commands.specs.declared.reply.Reply.TheVariants.{Refused}
use Rattle.bike_commands.specs.declared.request.Request.{Request}
use Rattle.bike_operator.specs.Operator.{Operator}
use Rattle.bike_operator.specs.Sound.{is_refused, AreCalls}
use Rattle.bike_operator.specs.Runs.{Call, step, replies}

-- the texts of a record's fields, in order
abbrev pub Record : Type 0
Record = List (List ℕ)

-- the record in front of the rows
abbrev pub header : Record
header = codes "station_id" ∷ codes "name" ∷ codes "lat" ∷ codes "lon" ∷ codes "docks" ∷ []

-- the station of a row: an identifier, a name as it stands, latitude and longitude in degrees, and a number of docks
unfoldable pub station_of : Record → Option StationRow
station_of row = do
  station_id ← field_at ident_of row
  name ← field_at name_of station_id.1
  lat ← field_at micro_of name.1
  lon ← field_at micro_of lat.1
  docks ← field_at (number_of 1 MOST_DOCKS) lon.1
  end ← no_more docks.1
  station_within (record { station_id = station_id.0; name = name.0; lat = lat.0; lon = lon.0; docks = docks.0 })

-- the key of a row's request, by the row's number
abbrev pub key_of : ℕ → List ℕ
key_of number = codes "row-" ++ decimal number

-- THE REQUEST of a row: to add its station, sent by the import of that name
abbrev pub request_of : List ℕ → ℕ → StationRow → Request
request_of name number station = record { caller = Import name; key = key_of number; command = AddStation station }

-- none of the replies is a refusal
abbrev pub AreAccepted : List Reply → Type 0
AreAccepted [] = Unit {0}
AreAccepted (reply ∷ replies) = (is_refused reply ≡ false) × AreAccepted replies

module _ (moment : ℕ) (name : List ℕ) where
  -- the request with its moment; none where a field is bad
  abbrev pub call_of : ℕ → Record → Option Call
  call_of number row = option_map (λ station. (moment, request_of name number station)) (station_of row)

  -- these are the requests of rows, of which the first has this number
  abbrev pub AreCallsOf : ℕ → List Record → List Call → Type 0
  AreCallsOf number [] [] = Unit {0}
  AreCallsOf number [] (c ∷ cs) = ⊥
  AreCallsOf number (row ∷ rows) [] = ⊥
  AreCallsOf number (row ∷ rows) (c ∷ cs) = (call_of number row ≡ Some c) × AreCallsOf (number + 1) rows cs

  -- ALL THESE ROWS, from the first on, are requests that the operator accepts, one after the other.
  pub record Accepts (s : Operator) (rows : List Record) (calls : List Call) : Type 0 where
    pub read : AreCallsOf 1 rows calls
    pub good : AreCalls calls
    pub accepted : AreAccepted (replies s calls)

-- a row with a bad field is refused
abbrev pub reply_to : Operator → Option Call → Reply
reply_to s (Some c) = (step s c.0 c.1).0
reply_to s None = Refused BadField

-- a row changes nothing of the operator: it has a bad field or is refused, or its key is kept
abbrev pub ChangesNothing : Operator → Option Call → Type 0
ChangesNothing s (Some c) = (step s c.0 c.1).1 ≡ s
ChangesNothing s None = ⊤
