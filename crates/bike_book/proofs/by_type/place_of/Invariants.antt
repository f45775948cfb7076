use Rattle.std.proofs.Common.{◌≡◌, ◌≤◌, ◌-◌, ◌++◌, take, drop, length}
use Rattle.bike_book.specs.declared.by_type.TypeCounts.{TypeCounts}
use Rattle.bike_book.specs.ByType.{with_counts}
use Rattle.bike_book.proofs.by_type.place_of.Given as goal

abbrev pub invariant-loop-at : goal.invariant-loop-at
invariant-loop-at l = record {
  within : l.at ≤ length l.by_type;
  sets : (n : TypeCounts) → with_counts l.type_id n l.by_type ≡ take l.at l.by_type ++ with_counts l.type_id n (drop l.at l.by_type);
}

abbrev pub decreases-loop-at : goal.decreases-loop-at
decreases-loop-at l = length l.by_type - l.at
