-- How often a segment charges, by division.
use Rattle.std.specs.Prelude.{ℕ, ℤ, ◌+◌, ◌-◌, ◌*◌, ◌/◌, ◌+ℤ◌, ◌*ℤ◌, pos, min, List, [], ◌∷◌, nat_le, ◌==◌}
use Rattle.std.specs.Prelude.{if◌then◌else◌, Option, Some, None}
use Rattle.bike_fields.specs.Values.{SegmentRow}
use Rattle.bike_fields.specs.declared.limits.TheConstants.{MOST_SEGMENTS, GREATEST_RATE}
use Rattle.bike_fares.specs.declared.elapsed.TheConstants.{MINUTES}

-- how many of the minutes below `minutes` are the start or an interval's end
abbrev pub count_below : ℕ → ℕ → ℕ → ℕ
count_below start interval minutes =
    if nat_le minutes start then 0 else (if interval == 0 then 1 else (minutes - 1 - start) / interval + 1)

-- the minutes that come before a segment's end
abbrev pub minutes_before : Option ℕ → ℕ → ℕ
minutes_before None minutes = minutes
minutes_before (Some end) minutes = min minutes end

-- what a segment charges below `minutes`
abbrev pub segment_total : SegmentRow → ℕ → ℤ
segment_total segment minutes =
    segment.rate *ℤ pos (count_below segment.start segment.interval (minutes_before segment.end minutes))

-- the most that a segment charges in thirty days, or takes off
abbrev pub most_of_segment : ℕ
most_of_segment = MINUTES * GREATEST_RATE

-- what all segments charge below `minutes`
abbrev pub segments_total : List SegmentRow → ℕ → ℤ
segments_total [] minutes = pos 0
segments_total (segment ∷ segments) minutes = segment_total segment minutes +ℤ segments_total segments minutes

-- the most that all segments charge in thirty days, or take off
abbrev pub most_of_segments : ℕ
most_of_segments = MOST_SEGMENTS * most_of_segment
