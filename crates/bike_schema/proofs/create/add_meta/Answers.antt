use Rattle.bike_sql.proofs.ParamLemmas.{bindings}
use Rattle.bike_schema.proofs.MakesLemmas.{writes_told}
use Rattle.bike_schema.proofs.FreshLemmas.{adds_meta}
use Rattle.bike_schema.proofs.create.add_meta.Goals as goal

pub returns : goal.returns
returns g c = writes_told adds_meta c.run.ensures (search bindings)
