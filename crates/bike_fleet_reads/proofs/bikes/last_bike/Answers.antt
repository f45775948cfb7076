use Rattle.std.proofs.Common.{◌≤◌, sym, subst}
use Rattle.std.specs.FinMap as map
use Rattle.bike_book.specs.Found.{IsLast}
use Rattle.bike_schema.proofs.AnswerLemmas.{answers_made}
use Rattle.bike_fleet_reads.proofs.LastLemmas.{bikes_at_most}
use Rattle.bike_fleet_reads.proofs.bikes.last_bike.Goals as goal

pub returns : goal.returns
returns g c = answers_made c.in_ok-row.ensures c.last_of.ensures (λ db x is last s h.
    let most = bikes_at_most s h.listed h.sound h.listing in
    subst (λ n. map.len s.bikes ≤ n) (sym (last most.0 (subst (IsLast 0 most.0) (sym (is s h)) most.1))) most.2)
