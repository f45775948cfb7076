use Rattle.std.proofs.Common.{◌≡◌, ◌++◌, length}
use Rattle.std.specs.List.{AllZip}
use Rattle.std.specs.Vec.Iter.{into_iter_items, into_iter_len}
use Rattle.bike_queries.specs.Pages.{IsStatusBy}
use Rattle.bike_queries.proofs.status.read_statuses.Given as goal

-- the stations so far have their counts
abbrev pub invariant-loop-station : goal.invariant-loop-station
invariant-loop-station l = record {
  all : l.yielded ++ into_iter_items l.station-iterator ≡ into_iter_items l.initial.station-iterator;
  len : into_iter_len l.station-iterator ≡ length (into_iter_items l.station-iterator);
  read : AllZip (IsStatusBy l.type_ids) l.yielded l.page.items;
}
