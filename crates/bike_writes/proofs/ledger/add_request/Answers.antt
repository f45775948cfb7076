use Rattle.bike_schema.proofs.MakesLemmas.{writes_told}
use Rattle.bike_writes.proofs.TextLemmas.{bindings}
use Rattle.bike_writes.proofs.LedgerTexts.{adds_request}
use Rattle.bike_writes.proofs.ledger.add_request.Goals as goal

pub returns : goal.returns
returns g c = writes_told (adds_request c.args.number c.args.moment c.args.caller c.args.key c.args.command c.args.reply) c.run.ensures (search bindings)
