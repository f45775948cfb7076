use Rattle.std.proofs.Common.{refl}
use Rattle.sqlite_wal.specs.Format.{be32}
use Rattle.bike_console.proofs.log.word_at.Goals as goal

pub returns : goal.returns
unfolding be32
returns c = refl
