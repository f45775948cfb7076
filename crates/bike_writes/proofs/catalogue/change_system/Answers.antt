use Rattle.bike_schema.proofs.MakesLemmas.{writes_told}
use Rattle.bike_writes.proofs.TextLemmas.{bindings}
use Rattle.bike_writes.proofs.CatalogueTexts.{changes_system}
use Rattle.bike_writes.proofs.catalogue.change_system.Goals as goal

pub returns : goal.returns
returns g c = writes_told (changes_system c.args.settings) c.run.ensures (search bindings)
