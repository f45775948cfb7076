use Rattle.std.proofs.Common.{◌≡◌, ◌++◌, length}
use Rattle.std.specs.Vec.Iter.{into_iter_items, into_iter_len}
use Rattle.bike_queries.specs.Pages.{AreApart, ReadsNamed, id_of}
use Rattle.bike_queries.proofs.GroupLaw.{HaveRead}
use Rattle.bike_queries.proofs.pages.read_page.Given as goal

-- the stations so far were read with their own rows
abbrev pub invariant-loop-station : goal.invariant-loop-station
invariant-loop-station l = record {
  all : l.yielded ++ into_iter_items l.station-iterator ≡ into_iter_items l.initial.station-iterator;
  len : into_iter_len l.station-iterator ≡ length (into_iter_items l.station-iterator);
  read : AreApart id_of (into_iter_items l.initial.station-iterator) → HaveRead id_of ReadsNamed l.fn.rows l.rest l.yielded (into_iter_items l.station-iterator) l.page.items;
}
