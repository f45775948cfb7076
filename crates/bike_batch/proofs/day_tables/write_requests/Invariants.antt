use Rattle.std.proofs.Common.{◌<◌, ◌-◌}
use Rattle.std.specs.Prelude.{IfSome}
use Rattle.bike_batch.proofs.WalkLemmas.{Walks}
use Rattle.bike_batch.proofs.Sources.{requests}
use Rattle.bike_batch.proofs.day_tables.write_requests.Given as goal

abbrev pub invariant-requests : goal.invariant-requests
invariant-requests g l = record {
  walks : Walks g.S.Store (requests l.fn.begin l.fn.until) l.next 0 l.fn.desk l.desk (g.W.Write.contents l.fn.out) (g.W.Write.contents l.out);
  later : IfSome l.next (λ request. l.number < request.number);
}

-- numbers only grow
abbrev pub decreases-requests : goal.decreases-requests
decreases-requests g l = 18446744073709551615 - l.number
