use Rattle.bike_office_reads.proofs.RowLemmas.{archived_read}
use Rattle.bike_office_reads.proofs.books.read_archived.Goals as goal

pub returns : goal.returns
returns c = λ y is. archived_read y c.in_ok-requests.ensures c.in_ok-entries.ensures c.in_ok-rentals.ensures is
