-- Texts that drop a table, whatever the schema.
use Rattle.std.proofs.Common.{List, ℕ, codes, refl}
use Rattle.sqlite_resolve.specs.Compile.{first}
use Rattle.sqlite_tied.specs.Compute.{everything}
use Rattle.bike_sql.specs.Drops.{IsDrop}

abbrev pub plain_text : List ℕ
plain_text = codes "DROP TABLE lockers"

pub drops_plain : IsDrop (first plain_text) (codes "lockers")
unfolding everything
drops_plain = (refl, refl)

abbrev pub quoted_text : List ℕ
quoted_text = codes "drop table \"old lockers\";"

pub drops_quoted : IsDrop (first quoted_text) (codes "old lockers")
unfolding everything
drops_quoted = (refl, refl)
