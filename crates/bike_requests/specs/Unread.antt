-- What a reader answers.
use Rattle.std.specs.Prelude.{◌≡◌, Option, Some, None, IsSome, Result, Ok, Err, option_map}
use Rattle.bike_texts.specs.Parts.{Parts}
use Rattle.bike_texts.specs.Reading.{◌>>=◌, no_more}
use Rattle.bike_requests.specs.declared.unread.Unread.{Unread}
use Rattle.bike_requests.specs.declared.unread.Unread.TheVariants.{BadField, NoMemory}

-- The value is what reading gives. For a bad field it gives
-- nothing, and memory is asked for only where it gives a value.
abbrev pub IsReading : {A : Type 0} → Option A → Result A Unread → Type 0
IsReading read (Ok value) = read ≡ Some value
IsReading read (Err BadField) = read ≡ None
IsReading read (Err NoMemory) = IsSome read

-- what is left behind a value
abbrev pub passed : {A : Type 0} → Option (A × Parts) → Option (Unit {0} × Parts)
passed read = option_map (λ x. (tt, x.1)) read

-- a value behind which nothing is left
abbrev pub all_at : {A : Type 0} → (Parts → Option (A × Parts)) → Parts → Option A
all_at read ps = read ps >>= λ x. no_more x.1 >>= λ u. Some x.0

-- The value is what reading gives, with the parts that it leaves. For a bad field it gives nothing.
abbrev pub IsTaken : {A : Type 0} → Option (A × Parts) → Result A Unread → Parts → Type 0
IsTaken read (Ok value) rest = read ≡ Some (value, rest)
IsTaken read (Err BadField) rest = read ≡ None
IsTaken read (Err NoMemory) rest = Unit {0}
