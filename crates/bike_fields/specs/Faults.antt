-- The first bad field of a record, and the first bound that it breaks.
use Rattle.std.specs.Prelude.{◌≤◌, ℕ, ℤ, pos, neg_ℤ, List, [], ◌∷◌, nat_le, nat_lt, int_le, ◌&&◌, if◌then◌else◌, Option}
use Rattle.std.specs.Prelude.{Some, None, Result, Ok, Err}
use Rattle.bike_fields.specs.declared.fault.Bound.{Bound}
use Rattle.bike_fields.specs.declared.fault.Bound.TheVariants.{Range, Order}
use Rattle.bike_fields.specs.declared.fault.Field.{Field}
use Rattle.bike_fields.specs.declared.fault.Field.TheVariants.{Start, Rate, Interval, End}
use Rattle.bike_fields.specs.declared.fault.FieldFault.{FieldFault}
use Rattle.bike_fields.specs.declared.fault.FieldFault.TheVariants.{Broken}
use Rattle.bike_fields.specs.declared.numbers.TheConstants.{LAST_MINUTE}
use Rattle.bike_fixed.specs.declared.micro.TheConstants.{GREATEST_COORDINATE}
use Rattle.bike_fields.specs.declared.limits.TheConstants.{GREATEST_RATE}
use Rattle.bike_fields.specs.Fault.{at_field}
use Rattle.bike_fields.specs.Values.{SegmentRow}

-- the first of the fields' faults
abbrev pub or_else : Option (Field × Bound) → Option (Field × Bound) → Option (Field × Bound)
or_else None rest = rest
or_else (Some fault) rest = Some fault

abbrev pub first_fault : List (Field × Option Bound) → Option (Field × Bound)
first_fault [] = None
first_fault (f ∷ fs) = or_else (at_field f.0 f.1) (first_fault fs)

-- the value, or the fault: without memory
abbrev pub value_or_fault : {X : Type 0} → X → Option (Field × Bound) → Result X FieldFault
value_or_fault value None = Ok value
value_or_fault value (Some fault) = Err (Broken fault.0 fault.1)

abbrev pub range_fault : ℕ → ℕ → ℕ → Option Bound
range_fault low high n = if nat_le low n && nat_le n high then None else Some Range

abbrev pub signed_fault : ℕ → ℤ → Option Bound
signed_fault size z = if int_le (neg_ℤ (pos size)) z && int_le z (pos size) then None else Some Range

-- a greatest size of coordinates: at most half a turn
abbrev pub IsCoordinateBound : ℕ → Type 0
IsCoordinateBound greatest = greatest ≤ GREATEST_COORDINATE

abbrev pub end_fault : ℕ → Option ℕ → Option Bound
end_fault start None = None
end_fault start (Some end) =
    if nat_le end LAST_MINUTE then (if nat_lt start end then None else Some Order) else Some Range

unfoldable pub segment_fault : SegmentRow → Option (Field × Bound)
segment_fault s = first_fault (
    (Start, range_fault 0 LAST_MINUTE s.start) ∷ (Rate, signed_fault GREATEST_RATE s.rate)
    ∷ (Interval, range_fault 0 LAST_MINUTE s.interval) ∷ (End, end_fault s.start s.end) ∷ [])
