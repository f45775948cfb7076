-- What the records of the catalogue are made of, as contracts see it.
use Rattle.std.specs.Prelude.{◌≡◌, ℕ, ℤ, pos, neg_ℤ, ◌≤◌, ◌<◌, ◌≤ℤ◌, Bool, true, Option, None, Some, nat_lt, nat_le}
use Rattle.std.specs.Prelude.{int_le, ◌==◌, ◌&&◌, if◌then◌else◌}
use Rattle.bike_fields.specs.declared.vehicle.Propulsion.{Propulsion}
use Rattle.bike_fields.specs.declared.vehicle.Propulsion.TheVariants.{Human, ElectricAssist}
use Rattle.bike_fields.specs.declared.numbers.TheConstants.{LAST_MINUTE, GREATEST_RANGE}
use Rattle.bike_fields.specs.declared.limits.TheConstants.{GREATEST_RATE, GREATEST_LATITUDE}

-- minutes from the start of a rental; the rate in hundredths; no end means that the segment goes on
pub record SegmentRow : Type 0 where
  pub start : ℕ
  pub rate : ℤ
  pub interval : ℕ
  pub end : Option ℕ

-- where a station stands
pub record PositionRow : Type 0 where
  pub lat : ℤ
  pub lon : ℤ

-- a position from its latitude and longitude, in microdegrees
abbrev pub position_of_fields : ℤ → ℤ → PositionRow
position_of_fields lat lon = record { lat = lat; lon = lon }

abbrev pub IsRate : ℤ → Type 0
IsRate z = (neg_ℤ (pos GREATEST_RATE) ≤ℤ z) × (z ≤ℤ pos GREATEST_RATE)

abbrev pub is_rate : ℤ → Bool
is_rate z = int_le (neg_ℤ (pos GREATEST_RATE)) z && int_le z (pos GREATEST_RATE)

-- an end is a minute after the start
abbrev pub IsEnd : ℕ → Option ℕ → Type 0
IsEnd start None = Unit {0}
IsEnd start (Some end) = (end ≤ LAST_MINUTE) × (start < end)

abbrev pub is_after : ℕ → Option ℕ → Bool
is_after start None = true
is_after start (Some end) = nat_lt start end

pub record IsSegment (s : SegmentRow) : Type 0 where
  pub start : s.start ≤ LAST_MINUTE
  pub rate : IsRate s.rate
  pub interval : s.interval ≤ LAST_MINUTE
  pub end : IsEnd s.start s.end

-- in metres: 0 exactly with human propulsion
abbrev pub IsRange : Propulsion → ℕ → Type 0
IsRange Human n = n ≡ 0
IsRange ElectricAssist n = (1 ≤ n) × (n ≤ GREATEST_RANGE)

-- the same as a test
abbrev pub is_range : Propulsion → ℕ → Bool
is_range Human n = n == 0
is_range ElectricAssist n = nat_le 1 n && nat_le n GREATEST_RANGE

-- from 90 degrees south to 90 degrees north
abbrev pub IsLatitude : ℤ → Type 0
IsLatitude z = (neg_ℤ (pos GREATEST_LATITUDE) ≤ℤ z) × (z ≤ℤ pos GREATEST_LATITUDE)

abbrev pub is_latitude : ℤ → Bool
is_latitude z = int_le (neg_ℤ (pos GREATEST_LATITUDE)) z && int_le z (pos GREATEST_LATITUDE)

-- the position, where its latitude is one
abbrev pub position_within : PositionRow → Option PositionRow
position_within p = if is_latitude p.lat then Some p else None
