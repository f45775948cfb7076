use Rattle.bike_schema.proofs.MakesLemmas.{writes_told}
use Rattle.bike_writes.proofs.TextLemmas.{bindings}
use Rattle.bike_writes.proofs.LedgerTexts.{adds_entry}
use Rattle.bike_writes.proofs.ledger.add_entry.Goals as goal

pub returns : goal.returns
returns g c = writes_told (adds_entry c.args.entry) c.run.ensures (search bindings)
