use Rattle.bike_office_reads.proofs.RowLemmas.{last_read}
use Rattle.bike_office_reads.proofs.kept.read_last.Goals as goal

pub returns : goal.returns
returns c = last_read c.args.row.now _ c.in_ok-number.ensures c.in_ok-moment.ensures
