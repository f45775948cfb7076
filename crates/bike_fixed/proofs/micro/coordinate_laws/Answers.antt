use Rattle.bike_fixed.proofs.Coordinates.{micro_sound, micro_full}
use Rattle.bike_fixed.proofs.Spellings.{micro_text_spelled, micro_read_back}
use Rattle.bike_fixed.proofs.micro.coordinate_laws.Goals as goal

pub returns : goal.returns
returns c = record { sound = micro_sound; full = micro_full; spelled = micro_text_spelled; read_back = micro_read_back }
