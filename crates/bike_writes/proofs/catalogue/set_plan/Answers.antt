use Rattle.bike_schema.proofs.MakesLemmas.{writes_told}
use Rattle.bike_writes.proofs.TextLemmas.{bindings}
use Rattle.bike_writes.proofs.CatalogueTexts.{sets_plan}
use Rattle.bike_writes.proofs.catalogue.set_plan.Goals as goal

pub returns : goal.returns
returns g c = writes_told (sets_plan c.args.type_id c.args.plan) c.run.ensures (search bindings)
