-- When a local date begins, and which dates and zones have bounds.
use Rattle.std.specs.Prelude.{◌≡◌, ℕ, ℤ, pos, ◌+ℤ◌, ◌*ℤ◌, ◌<ℤ◌, ◌≤ℤ◌, ◌+◌, ◌-◌, ◌*◌, ◌&&◌, ◌==◌, ◌⊎◌, nat_le, Bool}
use Rattle.std.specs.Prelude.{if◌then◌else◌, List, [], ◌∷◌, Option, None, Some}
use Rattle.jiff.specs.Words.{IsBetween, epoch_day, time_nanos, instant_of, ambiguous_at, IsDate, IsYmd, read_whole}
use Rattle.jiff.specs.Placed.{IsPosixZone}
use Rattle.jiff.specs.Types.{Date, DateTime, Offset, AmbiguousOffset, Unambiguous, Gap, Fold, TimeZone}

-- the offset by which a midnight is read: in a fold the earlier instant's, in a gap the one that held before it
abbrev pub midnight_offset : AmbiguousOffset → Offset
midnight_offset (Unambiguous offset) = offset
midnight_offset (Fold before after) = before
midnight_offset (Gap before after) = before

-- The day of that number begins in the zone at that instant, in nanoseconds.
pub record BeginsAt (zone : TimeZone) (day : ℤ) (nanos : ℤ) : Type 0 where
  pub midnight : DateTime
  pub on_day : epoch_day midnight.date ≡ day
  pub at_zero : time_nanos midnight.time ≡ 0
  pub instant : nanos ≡ instant_of midnight (midnight_offset (ambiguous_at zone midnight))

-- the days from 1970-01-01 to 9999-01-01, whose begin is an instant of the calendar library in every zone
abbrev pub IsCovered : ℤ → Type 0
IsCovered day = IsBetween (pos 0) (pos 2_932_532) day

abbrev pub is_digit : ℕ → Bool
is_digit b = nat_le 48 b && nat_le b 57

-- the number of two digits
abbrev pub pair_value : ℕ → ℕ → ℕ
pair_value high low = (high - 48) * 10 + (low - 48)

-- year, month and day of a text YYYY-MM-DD
abbrev pub date_parts : List ℕ → Option (ℕ × ℕ × ℕ)
date_parts (a ∷ b ∷ c ∷ d ∷ p ∷ e ∷ f ∷ q ∷ g ∷ h ∷ []) =
    if is_digit a && is_digit b && is_digit c && is_digit d && (p == 45) && is_digit e && is_digit f && (q == 45)
    && is_digit g && is_digit h
    then Some (pair_value a b * 100 + pair_value c d, pair_value e f, pair_value g h) else None
date_parts text = None

-- these parts are a date of the calendar
abbrev pub NamesDate : Option (ℕ × ℕ × ℕ) → Type 0
NamesDate None = ⊥
NamesDate (Some p) = IsDate (pos p.0) (pos p.1) (pos p.2)

-- these parts are this date
abbrev pub IsNamed : Option (ℕ × ℕ × ℕ) → Date → Type 0
IsNamed None date = ⊥
IsNamed (Some p) date = IsYmd (pos p.0) (pos p.1) (pos p.2) date

-- the year is 1970 to 9998
abbrev pub IsInYears : Date → Type 0
IsInYears date = (pos 1970 ≤ℤ date.year) × (date.year <ℤ pos 9999)

abbrev pub IsOutOfYears : Date → Type 0
IsOutOfYears date = (date.year <ℤ pos 1970) ⊎ (date.year ≡ pos 9999)

-- the date is good, and the zone's text is no POSIX zone
abbrev pub HasBadZone : List ℕ → List ℕ → Type 0
HasBadZone text zone = ((date : Date) × IsNamed (date_parts text) date) × (read_whole zone ≡ None)

-- The moments at which the date and the next one begin.
pub record HasBounds (text zone : List ℕ) (begin end : ℕ) : Type 0 where
  pub date : Date
  pub named : IsNamed (date_parts text) date
  pub rule : TimeZone
  pub read : IsPosixZone zone rule
  pub in_years : IsInYears date
  pub begins : BeginsAt rule (epoch_day date) (pos begin *ℤ pos 1_000_000_000)
  pub ends : BeginsAt rule (epoch_day date +ℤ pos 1) (pos end *ℤ pos 1_000_000_000)

-- the day of that number begins before 1970-01-01T00:00:00Z
abbrev pub BeginsBefore1970 : TimeZone → ℤ → Type 0
BeginsBefore1970 zone day = (nanos : ℤ) × BeginsAt zone day nanos × (nanos <ℤ pos 0)

-- the year is before 1970 or is 9999, or a bound is before moment 0
abbrev pub IsOutside : TimeZone → Date → Type 0
IsOutside rule date =
    IsOutOfYears date ⊎ (BeginsBefore1970 rule (epoch_day date) ⊎ BeginsBefore1970 rule (epoch_day date +ℤ pos 1))

-- Date and zone are good, and the day isn't covered.
pub record IsOutOfRange (text zone : List ℕ) : Type 0 where
  pub date : Date
  pub named : IsNamed (date_parts text) date
  pub rule : TimeZone
  pub read : IsPosixZone zone rule
  pub outside : IsOutside rule date
