use Rattle.bike_schema.proofs.MakesLemmas.{writes_told}
use Rattle.bike_writes.proofs.TextLemmas.{bindings}
use Rattle.bike_writes.proofs.CatalogueTexts.{adds_type}
use Rattle.bike_writes.proofs.catalogue.add_type.Goals as goal

pub returns : goal.returns
returns g c = writes_told (adds_type c.args.vehicle_type) c.run.ensures (search bindings)
