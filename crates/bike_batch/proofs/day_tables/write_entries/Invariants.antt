use Rattle.bike_batch.proofs.WalkLemmas.{Walks}
use Rattle.bike_batch.proofs.Sources.{entries}
use Rattle.bike_batch.proofs.day_tables.write_entries.Given as goal

abbrev pub invariant-entries : goal.invariant-entries
invariant-entries g l = Walks g.S.Store (entries l.fn.begin l.fn.until) l.next l.written l.fn.desk l.desk
    (g.W.Write.contents l.fn.out) (g.W.Write.contents l.out)
