use Rattle.std.proofs.Common.{◌≡◌, drop}
use Rattle.bike_book.specs.ByType.{counts_of}
use Rattle.bike_book.proofs.by_type.counts_of.Given as goal

abbrev pub invariant-loop-counted : goal.invariant-loop-counted
invariant-loop-counted l = counts_of l.type_id l.by_type ≡ counts_of l.type_id (drop l.counted-index l.by_type)
