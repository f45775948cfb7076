-- Room for row changes in their fixed array.
use Rattle.std.specs.Prelude.{ℕ, ◌+◌, ◌≤◌}
use Rattle.arrayvec.specs.ArrayVec.{ArrayVec, array_vec_len}
use Rattle.bike_booking.specs.declared.rows.TheConstants.{MOST_ROW_CHANGES}

-- so many more find room
abbrev pub HasRoom : {X : Type 0} → ℕ → ArrayVec X → Type 0
HasRoom more rows = array_vec_len rows + more ≤ MOST_ROW_CHANGES

-- at most so many were added
abbrev pub TakesRows : {X : Type 0} → ℕ → ArrayVec X → ArrayVec X → Type 0
TakesRows most before after = array_vec_len after ≤ array_vec_len before + most
