use Rattle.bike_schema.proofs.MakesLemmas.{writes_told}
use Rattle.bike_writes.proofs.TextLemmas.{bindings}
use Rattle.bike_writes.proofs.CatalogueTexts.{adds_region}
use Rattle.bike_writes.proofs.catalogue.add_region.Goals as goal

pub returns : goal.returns
returns g c = writes_told (adds_region c.args.region) c.run.ensures (search bindings)
