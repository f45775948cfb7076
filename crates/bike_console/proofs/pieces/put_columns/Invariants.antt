use Rattle.std.proofs.Common.{◌≤◌, ◌-◌, length, take}
use Rattle.bike_console.specs.Pieces.{key_text, Puts}
use Rattle.bike_console.proofs.pieces.put_columns.Given as goal

-- the first columns are written
abbrev pub invariant-loop-at : goal.invariant-loop-at
invariant-loop-at g l = (l.at ≤ l.end) × (l.end ≤ length l.row) × Puts (g.W.Output.contents l.fn.out) (g.W.Output.contents l.out) (key_text (take l.at l.row)) l.fn.going l.going

abbrev pub decreases-loop-at : goal.decreases-loop-at
decreases-loop-at g l = l.end - l.at
