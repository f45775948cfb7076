use Rattle.bike_schema.proofs.MakesLemmas.{writes_told}
use Rattle.bike_writes.proofs.TextLemmas.{bindings}
use Rattle.bike_writes.proofs.NameTexts.{adds_name}
use Rattle.bike_writes.proofs.names.add_name.Goals as goal

pub returns : goal.returns
returns g c = writes_told (adds_name c.args.kind c.args.id c.args.language c.args.name) c.run.ensures (search bindings)
