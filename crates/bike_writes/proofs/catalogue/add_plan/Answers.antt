use Rattle.bike_schema.proofs.MakesLemmas.{writes_told}
use Rattle.bike_writes.proofs.TextLemmas.{bindings}
use Rattle.bike_writes.proofs.CatalogueTexts.{adds_plan}
use Rattle.bike_writes.proofs.catalogue.add_plan.Goals as goal

pub returns : goal.returns
returns g c = writes_told (adds_plan c.args.plan) c.run.ensures (search bindings)
