-- What is read of a request line.
use Rattle.std.specs.Prelude.{ℕ, Option, Some}
use Rattle.bike_fixed.specs.Whole.{number_of, last_moment}
use Rattle.bike_fields.specs.Bytes.{key_of}
use Rattle.bike_fields.specs.Caller.{caller_of}
use Rattle.bike_texts.specs.Parts.{Parts}
use Rattle.bike_texts.specs.Reading.{◌>>=◌, field_at}
use Rattle.bike_commands.specs.declared.request.Request.{Request}
use Rattle.bike_requests.specs.Readers.{command_at}

unfoldable pub request_at : Parts → Option (ℕ × Request)
request_at ps = do
  moment ← field_at (number_of 0 last_moment) ps
  caller ← field_at caller_of moment.1
  key ← field_at key_of caller.1
  command ← command_at key.1
  Some (moment.0, record { caller = caller.0; key = key.0; command = command })
