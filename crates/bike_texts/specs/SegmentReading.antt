-- Reading the segments of a plan.
use Rattle.std.specs.Prelude.{ℕ, ℤ, pos, neg_ℤ, List, [], ◌∷◌, ◌==◌, Option, Some, None, if◌then◌else◌, codes}
use Rattle.std.specs.List.{slice_split}
use Rattle.std.specs.Str.{bytes_eq}
use Rattle.bike_fixed.specs.Whole.{number_of, signed_of}
use Rattle.bike_fields.specs.declared.numbers.TheConstants.{LAST_MINUTE}
use Rattle.bike_fields.specs.declared.limits.TheConstants.{MOST_SEGMENTS, GREATEST_RATE}
use Rattle.bike_fields.specs.Values.{SegmentRow, is_after}
use Rattle.bike_texts.specs.Parts.{Parts}
use Rattle.bike_texts.specs.Reading.{◌>>=◌, field_at, at_most, no_more}

-- a minute of a rental
abbrev pub minute_of : List ℕ → Option ℕ
minute_of = number_of 0 LAST_MINUTE

-- a rate in hundredths
abbrev pub rate_of : List ℕ → Option ℤ
rate_of = signed_of (neg_ℤ (pos GREATEST_RATE)) (pos GREATEST_RATE)

-- the minute before which a segment ends, or `-` for no end
unfoldable pub segment_end_of : List ℕ → Option (Option ℕ)
segment_end_of text = if bytes_eq text (codes "-") then Some None else (minute_of text >>= λ n. Some (Some n))

unfoldable pub segment_of : List ℕ → Option SegmentRow
segment_of text = do
  start ← field_at minute_of (slice_split (λ b. b == 58) text)
  rate ← field_at rate_of start.1
  interval ← field_at minute_of rate.1
  end ← field_at segment_end_of interval.1
  nothing ← no_more end.1
  if is_after start.0 end.0 then Some (record { start = start.0; rate = rate.0; interval = interval.0; end = end.0 })
      else None

-- a segment in each part
unfoldable pub all_of : Parts → Option (List SegmentRow)
all_of [] = Some []
all_of (p ∷ ps) = do
  first ← segment_of p
  others ← all_of ps
  Some (first ∷ others)

-- `-` for none, or a few with a semicolon between them
unfoldable pub segments_of : List ℕ → Option (List SegmentRow)
segments_of text =
    if bytes_eq text (codes "-") then Some [] else (
    at_most MOST_SEGMENTS (all_of (slice_split (λ b. b == 59) text)))
