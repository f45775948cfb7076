use Rattle.std.specs.FinMap as map
use Rattle.bike_operator.specs.declared.limits.TheConstants.{MOST_BIKES}
use Rattle.bike_schema.proofs.AnswerLemmas.{answers_then, answers_after}
use Rattle.bike_fleet_reads.proofs.LastLemmas.{not_full}
use Rattle.bike_fleet_reads.proofs.bikes.are_bikes_full.Goals as goal

pub returns-then-last-lt-MOST_BIKES : goal.returns-then-last-lt-MOST_BIKES
returns-then-last-lt-MOST_BIKES g c = answers_then _ _ c.in_ok-last.ensures (λ s m sound listing few. not_full MOST_BIKES (map.len s.bikes) _ few c.if-last-lt-MOST_BIKES.true)

pub returns : goal.returns
returns g c = answers_after _ _ c.in_ok-last.ensures c.is_count_full.ensures
