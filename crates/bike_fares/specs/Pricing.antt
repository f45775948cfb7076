-- What a rental costs, in the words of GBFS's `per_min_pricing`.
use Rattle.std.specs.Prelude.{◌≡◌, ℕ, ℤ, zero, suc, ◌+◌, ◌-◌, ◌*◌, ◌%◌, ◌<◌, ◌+ℤ◌, pos, min, List, [], ◌∷◌, Bool, true}
use Rattle.std.specs.Prelude.{◌&&◌, ◌||◌, nat_le, nat_lt, ◌==◌, if◌then◌else◌, ◌⊎◌, Option, Some, None}
use Rattle.std.specs.Int.{int_max}
use Rattle.bike_fixed.specs.declared.cents.TheConstants.{GREATEST_FARE}
use Rattle.bike_fields.specs.Values.{SegmentRow, IsSegment}
use Rattle.bike_catalogue.specs.Rows.{PlanRow}
use Rattle.bike_fields.specs.declared.limits.TheConstants.{MOST_SEGMENTS, GREATEST_RATE}
use Rattle.bike_fares.specs.declared.elapsed.TheConstants.{LONGEST, MINUTES}

-- the seconds that are charged for: from start to end, at most 30 days
abbrev pub elapsed_seconds : ℕ → ℕ → ℕ
elapsed_seconds start end = min (end - start) LONGEST

-- a segment charges at its start, and again after each interval; with the interval 0 just once
abbrev pub is_due : ℕ → ℕ → ℕ → Bool
is_due start interval minute =
    nat_le start minute && (minute == start || (nat_lt 0 interval && (minute - start) % interval == 0))

-- nothing is charged from a segment's end on; a segment without an end goes on
abbrev pub is_before_end : Option ℕ → ℕ → Bool
is_before_end None minute = true
is_before_end (Some end) minute = nat_lt minute end

-- a segment charges at its minutes that come before its end
abbrev pub is_charged : SegmentRow → ℕ → Bool
is_charged segment minute = is_due segment.start segment.interval minute && is_before_end segment.end minute

-- what a segment charges at a minute
abbrev pub segment_charge : SegmentRow → ℕ → ℤ
segment_charge segment minute = if is_charged segment minute then segment.rate else pos 0

-- what all segments charge at a minute: where they overlap, their rates add up
abbrev pub per_min_pricing : List SegmentRow → ℕ → ℤ
per_min_pricing [] minute = pos 0
per_min_pricing (segment ∷ segments) minute = segment_charge segment minute +ℤ per_min_pricing segments minute

-- the most that they charge at a minute, or take off
abbrev pub most_at_minute : ℕ
most_at_minute = MOST_SEGMENTS * GREATEST_RATE

-- what all segments charge at a minute that the rental reached
abbrev pub reached_charge : List SegmentRow → ℕ → ℕ → ℤ
reached_charge segments seconds minute = if nat_le (60 * minute) seconds then per_min_pricing segments minute else pos 0

-- amount 0 + .. + amount (count - 1)
unfoldable pub sum_below : ℕ → (ℕ → ℤ) → ℤ
sum_below zero amount = pos 0
sum_below (suc count) amount = sum_below count amount +ℤ amount count

-- the price and all charges at the minutes 0 to 43,200
abbrev pub cost_of : PlanRow → ℕ → ℤ
cost_of plan seconds = pos plan.price +ℤ sum_below MINUTES (reached_charge plan.segments seconds)

-- the fare of a rental from start to end: its cost, and never below 0
abbrev pub fare_of : PlanRow → ℕ → ℕ → ℤ
fare_of plan start end = int_max (cost_of plan (elapsed_seconds start end)) (pos 0)

-- the greatest fare: the greatest price, and eight segments of the greatest rate at each of 43,201 minutes
abbrev pub greatest_fare : ℤ
greatest_fare = GREATEST_FARE

-- segments that keep the catalogue's bounds
abbrev pub AreSegments : List SegmentRow → Type 0
AreSegments [] = Unit {0}
AreSegments (segment ∷ segments) = IsSegment segment × AreSegments segments

-- some whole intervals after the start
pub record IsRepeat (start interval minute : ℕ) : Type 0 where
  pub times : ℕ
  pub repeats : 0 < interval
  pub later : 0 < times
  pub is : minute ≡ start + times * interval

-- the minutes of a segment in words: its start, and each that comes some whole intervals later
abbrev pub IsDue : ℕ → ℕ → ℕ → Type 0
IsDue start interval minute = (minute ≡ start) ⊎ IsRepeat start interval minute
