use Rattle.std.proofs.Common.{◌≤◌, length, take}
use Rattle.bike_queries.specs.StationCounts.{AreCountsTold, AreRising}
use Rattle.bike_queries.proofs.counts.count_types.Given as goal

-- the types so far are counted
abbrev pub invariant-loop-type_id : goal.invariant-loop-type_id
invariant-loop-type_id l = record {
  place : l.place ≤ length l.told;
  counted : AreRising l.told → AreCountsTold l.told l.fn.docks (take l.type_id-index l.type_ids) l.counts;
}
