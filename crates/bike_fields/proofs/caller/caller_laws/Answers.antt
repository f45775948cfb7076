use Rattle.bike_fields.proofs.Callers.{caller_sound, caller_full}
use Rattle.bike_fields.proofs.caller.caller_laws.Goals as goal

pub returns : goal.returns
returns c = record { sound = caller_sound; full = caller_full }
