-- What is asked of the lines of the catalogue: a row of meta, system, plans
-- or regions, or a segment or a vehicle type with its plan beside it.
use Rattle.std.specs.Prelude.{ℕ, ◌+◌, ◌==◌, ◌&&◌, ◌||◌, nat_lt, List, [], ◌∷◌, take, Bool, false, if◌then◌else◌, Option}
use Rattle.std.specs.Prelude.{Some, None, is_some, option_map}
use Rattle.std.specs.Str.{bytes_eq}
use Rattle.sqlite_value.specs.Order.{Row}
use Rattle.bike_book.specs.declared.columns.plans.TheConstants as plans
use Rattle.bike_book.specs.declared.columns.segments.TheConstants as segments
use Rattle.bike_book.specs.declared.columns.types.TheConstants as types
use Rattle.bike_operator.specs.declared.limits.TheConstants.{MOST_PLANS, MOST_TYPES, MOST_REGIONS}
use Rattle.bike_readings.specs.Readings.{system_read, plan_read, segment_read, type_read, region_read}
use Rattle.bike_judges.specs.Lines.{part}

-- ---- lines by themselves

abbrev pub is_system : ℕ → Row → Bool
is_system before line = is_some (system_read line)

abbrev pub is_plan : ℕ → Row → Bool
is_plan before line = nat_lt before MOST_PLANS && is_some (plan_read line)

abbrev pub is_region : ℕ → Row → Bool
is_region before line = nat_lt before MOST_REGIONS && is_some (region_read line)

-- the plan is there whose row begins in this column, behind that of what names it
abbrev pub has_plan : ℕ → Row → Bool
has_plan at line = is_some (plan_read (part at plans.COLUMNS line))

abbrev pub is_type : ℕ → Row → Bool
is_type before line =
    nat_lt before MOST_TYPES && (has_plan types.COLUMNS line && is_some (type_read (part 0 types.COLUMNS line)))

-- ---- segments, each after the one before it

-- the plan of a segment, where it is there, and the segment's number
abbrev pub segment_name : Row → Option (List ℕ × ℕ)
segment_name line =
    if has_plan segments.COLUMNS line then option_map (λ e. (e.0, e.1)) (segment_read (part 0 segments.COLUMNS line))
    else None

-- it is the one after this in a plan
abbrev pub comes_after : Option (List ℕ × ℕ) → List ℕ × ℕ → Bool
comes_after None e = false
comes_after (Some before) e = bytes_eq before.0 e.0 && (before.1 + 1 == e.1)

-- a segment is the first of its plan, or the one before it in the plan is the line before
abbrev pub is_next : Option (List ℕ × ℕ) → Option (List ℕ × ℕ) → Bool
is_next before None = false
is_next before (Some e) = (e.1 == 1) || comes_after before e

-- the key of the first segment that isn't the next one of a plan
unfoldable pub first_astray : Option (List ℕ × ℕ) → List Row → Option Row
first_astray before [] = None
first_astray before (x ∷ xs) =
    if is_next before (segment_name x) then first_astray (segment_name x) xs else Some (take 2 x)
