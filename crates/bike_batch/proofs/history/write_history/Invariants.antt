use Rattle.std.proofs.Common.{◌-◌}
use Rattle.bike_batch.proofs.HistoryLemmas.{Follows}
use Rattle.bike_batch.proofs.history.write_history.Given as goal

abbrev pub invariant-pages : goal.invariant-pages
invariant-pages g l = Follows g.S.Store l.fn.after l.number l.page l.fn.desk l.desk (g.W.Write.contents l.fn.out) (g.W.Write.contents l.out)

-- each page ends with a later number
abbrev pub decreases-pages : goal.decreases-pages
decreases-pages g l = 18446744073709551615 - l.number
