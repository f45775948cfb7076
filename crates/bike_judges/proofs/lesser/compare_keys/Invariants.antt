use Rattle.std.proofs.Common.{◌≡◌, drop}
use Rattle.sqlite_value.specs.Order.{row_cmp}
use Rattle.bike_judges.specs.Judging.{key_row}
use Rattle.bike_judges.proofs.lesser.compare_keys.Given as goal

-- the columns so far tie
abbrev pub invariant-loop-at : goal.invariant-loop-at
invariant-loop-at l = row_cmp (drop l.at (key_row l.a)) (drop l.at (key_row l.b)) ≡ row_cmp (key_row l.a) (key_row l.b)
