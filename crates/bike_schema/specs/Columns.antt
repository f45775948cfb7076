-- Columns of a row as values of the product.
use Rattle.std.specs.Prelude.{ℕ, ℤ, pos, negsuc, Bool, true, false, ◌&&◌, nat_le, if◌then◌else◌, List, Option, Some}
use Rattle.std.specs.Prelude.{None, option_map, option_and_then, Result, Ok, Err}
use Rattle.std.specs.Ordering.{int_eq}
use Rattle.std.specs.Str.{is_utf8}
use Rattle.sqlite_value.specs.declared.value.Value.{Value}
use Rattle.sqlite_value.specs.declared.value.Value.TheVariants.{Int, Text}
use Rattle.sqlite_sql.specs.Ops.{is_null}
use Rattle.bike_fixed.specs.Whole.{last_moment}
use Rattle.bike_fields.specs.Bytes.{ident_of, name_of, language_of}
use Rattle.bike_book.specs.Numbers.{count_of}
use Rattle.bike_operator.specs.declared.records.BikeState.{BikeState}
use Rattle.bike_operator.specs.declared.records.BikeState.TheVariants.{Fit, Disabled, Retired}
use Rattle.bike_schema.specs.declared.fault.StatementFault.{StatementFault}
use Rattle.bike_schema.specs.declared.fault.StatementFault.TheVariants.{StoreFailed}

-- ---- whole numbers

-- from `lo` to `hi`
abbrev pub number_of : ℕ → ℕ → ℤ → Option ℕ
number_of lo hi (pos n) = if nat_le lo n && nat_le n hi then Some n else None
number_of lo hi (negsuc n) = None

-- seconds up to the last moment
abbrev pub moment_of : ℤ → Option ℕ
moment_of = number_of 0 last_moment

abbrev pub flag_of : ℤ → Option Bool
flag_of n = if int_eq n (pos 0) then Some false else (if int_eq n (pos 1) then Some true else None)

abbrev pub state_of : ℤ → Option BikeState
state_of n =
    if int_eq n (pos 0) then Some Fit else (if int_eq n (pos 1) then Some Disabled
    else (if int_eq n (pos 2) then Some Retired else None))

-- ---- columns

abbrev pub whole_in : Value → Option ℤ
whole_in (Int n) = Some n
whole_in _ = None

-- a text in UTF-8
abbrev pub text_in : Value → Option (List ℕ)
text_in (Text text) = if is_utf8 text then Some text else None
text_in _ = None

abbrev pub number_in : ℕ → ℕ → Value → Option ℕ
number_in lo hi v = option_and_then (number_of lo hi) (whole_in v)

abbrev pub moment_in : Value → Option ℕ
moment_in v = option_and_then moment_of (whole_in v)

-- the number of a request, or how many there are
abbrev pub request_count_in : Value → Option ℕ
request_count_in v = option_and_then count_of (whole_in v)

abbrev pub flag_in : Value → Option Bool
flag_in v = option_and_then flag_of (whole_in v)

abbrev pub state_in : Value → Option BikeState
state_in v = option_and_then state_of (whole_in v)

abbrev pub ident_in : Value → Option (List ℕ)
ident_in v = option_and_then ident_of (text_in v)

abbrev pub name_in : Value → Option (List ℕ)
name_in v = option_and_then name_of (text_in v)

abbrev pub language_in : Value → Option (List ℕ)
language_in v = option_and_then language_of (text_in v)

-- what a column holds that may be NULL
abbrev pub or_none : {X : Type 0} → (Value → Option X) → Value → Option (Option X)
or_none read v = if is_null v then Some None else option_map Some (read v)

-- what was read, or that the column holds no such value
abbrev pub read_or_failed : {X : Type 0} → Option X → Result X StatementFault
read_or_failed (Some x) = Ok x
read_or_failed None = Err StoreFailed
