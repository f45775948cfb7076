use Rattle.bike_schema.proofs.MakesLemmas.{writes_told}
use Rattle.bike_writes.proofs.TextLemmas.{bindings}
use Rattle.bike_writes.proofs.NameTexts.{sets_further_name}
use Rattle.bike_writes.proofs.names.set_further_name.Goals as goal

pub returns : goal.returns
returns g c = writes_told (sets_further_name c.args.kind c.args.id c.args.language c.args.name) c.run.ensures (search bindings)
