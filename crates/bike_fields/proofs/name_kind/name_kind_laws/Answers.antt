use Rattle.bike_fields.proofs.NameKinds.{kind_sound, kind_full}
use Rattle.bike_fields.proofs.name_kind.name_kind_laws.Goals as goal

pub returns : goal.returns
returns c = record { sound = kind_sound; full = kind_full }
