use Rattle.bike_fields.specs.Vehicle.{form_of, form_text}
use Rattle.bike_fields.proofs.Vehicles.{form_full}
use Rattle.bike_queries.proofs.NextLemmas.{named_read}
use Rattle.bike_queries.proofs.types.form_at.Goals as goal

pub returns : goal.returns
returns c = named_read form_of form_text form_full _ _ _ _ c.ok_or.result c.in_ok-text.ensures.ok c.read.ensures c.ok_or.ensures.value
