use Rattle.bike_schema.proofs.MakesLemmas.{writes_told}
use Rattle.bike_writes.proofs.TextLemmas.{bindings}
use Rattle.bike_writes.proofs.CatalogueTexts.{sets_system}
use Rattle.bike_writes.proofs.catalogue.set_system.Goals as goal

pub returns : goal.returns
returns g c = writes_told (sets_system c.args.system) c.run.ensures (search bindings)
