use Rattle.bike_fields.specs.Vehicle.{propulsion_of, propulsion_text}
use Rattle.bike_fields.proofs.Vehicles.{propulsion_full}
use Rattle.bike_queries.proofs.NextLemmas.{named_read}
use Rattle.bike_queries.proofs.types.propulsion_at.Goals as goal

pub returns : goal.returns
returns c = named_read propulsion_of propulsion_text propulsion_full _ _ _ _ c.ok_or.result c.in_ok-text.ensures.ok c.read.ensures c.ok_or.ensures.value
