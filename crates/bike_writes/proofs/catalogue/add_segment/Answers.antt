use Rattle.bike_schema.proofs.MakesLemmas.{writes_told}
use Rattle.bike_writes.proofs.TextLemmas.{bindings}
use Rattle.bike_writes.proofs.CatalogueTexts.{adds_segment}
use Rattle.bike_writes.proofs.catalogue.add_segment.Goals as goal

pub returns : goal.returns
returns g c = writes_told (adds_segment c.args.plan c.args.seq c.args.segment) c.run.ensures (search bindings)
