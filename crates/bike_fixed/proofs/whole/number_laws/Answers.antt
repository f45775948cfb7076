use Rattle.std.proofs.Common.{refl}
use Rattle.bike_fixed.proofs.Numbers.{number_sound, number_full, signed_sound, signed_full}
use Rattle.bike_fixed.proofs.whole.number_laws.Goals as goal

pub returns : goal.returns
returns c = record {
  sound = number_sound;
  full = number_full;
  read_back = λ low high n small above below. number_full low high _ n small (record { low_le = above; le_high = below; spelled = refl });
  signed_sound = signed_sound;
  signed_full = signed_full;
  signed_read_back = λ low high z fits above below. signed_full low high _ z fits (record { low_le = above; le_high = below; spelled = refl });
}
