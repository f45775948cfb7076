-- The lesser of two keys.
use Rattle.std.specs.Prelude.{Option, Some, None, if◌then◌else◌}
use Rattle.std.specs.Ordering.{is_lt}
use Rattle.sqlite_value.specs.Order.{Row, row_cmp}

-- the lesser key, or the one that is there
abbrev pub least_key : Option Row → Option Row → Option Row
least_key None b = b
least_key (Some a) None = Some a
least_key (Some a) (Some b) = if is_lt (row_cmp b a) then Some b else Some a
