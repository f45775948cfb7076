use Rattle.bike_sql.proofs.ParamLemmas.{bindings}
use Rattle.bike_office_reads.proofs.RowLemmas.{closing_read}
use Rattle.bike_office_reads.proofs.rentals.read_closing.Goals as goal

pub returns-in-Some-Some : goal.returns-in-Some-Some
returns-in-Some-Some c =
    λ closing is. closing_read c.args.row.now closing c.in_ok-to_station.ensures.ok (rw c.in-Some-Some.is-0 at c.in_ok-finish.ensures) (rw c.in-Some-Some.is-1 at c.in_ok-fare.ensures)
    (search bindings) is
