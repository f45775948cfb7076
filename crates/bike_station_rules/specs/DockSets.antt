-- Sets of docks of one station, and how many of its docks are in them.
use Rattle.std.specs.Prelude.{ℕ, List, Bool, true, false, not, ◌&&◌, get_or, slice_set, Option, Some, None}
use Rattle.bike_operator.specs.Counts.{count, docks_up_to}

-- the dock is in the set
abbrev pub has_bit : List Bool → ℕ → Bool
has_bit set dock = get_or set dock false

-- the set with this dock, where there is one
abbrev pub with_bit : Option ℕ → List Bool → List Bool
with_bit None set = set
with_bit (Some dock) set = slice_set set dock true

-- how many of the docks 1, 2, .. are in the one set, and how many in neither
abbrev pub many_in : List Bool → ℕ → ℕ
many_in set docks = count (λ n. has_bit set n) (docks_up_to docks)

abbrev pub many_in_neither : List Bool → List Bool → ℕ → ℕ
many_in_neither first second docks = count (λ n. not (has_bit first n) && not (has_bit second n)) (docks_up_to docks)
