use Rattle.bike_batch.proofs.WalkLemmas.{Walks}
use Rattle.bike_batch.proofs.Sources.{rentals}
use Rattle.bike_batch.proofs.day_tables.write_rentals.Given as goal

abbrev pub invariant-rentals : goal.invariant-rentals
invariant-rentals g l = Walks g.S.Store (rentals l.fn.begin l.fn.until) l.next l.written l.fn.desk l.desk
    (g.W.Write.contents l.fn.out) (g.W.Write.contents l.out)
