use Rattle.std.specs.FinMap as fin
use Rattle.bike_operator.specs.declared.limits.TheConstants.{MOST_RIDERS}
use Rattle.bike_schema.proofs.AnswerLemmas.{answers_then, answers_after}
use Rattle.bike_office_reads.proofs.RowLemmas.{not_full}
use Rattle.bike_office_reads.proofs.riders.are_riders_full.Goals as goal

pub returns-then-last-lt-MOST_RIDERS : goal.returns-then-last-lt-MOST_RIDERS
returns-then-last-lt-MOST_RIDERS g c = answers_then _ _ c.in_ok-last.ensures (λ s m sound listing few. not_full MOST_RIDERS (fin.len s.riders) _ few c.if-last-lt-MOST_RIDERS.true)

pub returns : goal.returns
returns g c = answers_after _ _ c.in_ok-last.ensures c.is_count_full.ensures
