use Rattle.std.proofs.Common.{◌≡◌, Some, map, take}
use Rattle.bike_queries.proofs.TypeLemmas.{begins_with}
use Rattle.bike_queries.proofs.types.read_type_ids.Given as goal

-- the identifiers of the rows so far were read
abbrev pub invariant-loop-row : goal.invariant-loop-row
invariant-loop-row l = map Some l.type_ids.items ≡ map begins_with (take l.row-index l.rows)
