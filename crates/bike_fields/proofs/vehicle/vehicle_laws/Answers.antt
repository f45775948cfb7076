use Rattle.bike_fields.proofs.Vehicles.{form_sound, form_full, propulsion_sound, propulsion_full}
use Rattle.bike_fields.proofs.vehicle.vehicle_laws.Goals as goal

pub returns : goal.returns
returns c = record { form_sound = form_sound; form_full = form_full; propulsion_sound = propulsion_sound; propulsion_full = propulsion_full }
