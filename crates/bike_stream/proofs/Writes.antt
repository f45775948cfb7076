-- Writes one after the other.
use Rattle.std.proofs.Common.{ℕ, ◌+◌, List, take, drop, Option}
use Rattle.std.proofs.Math.Seq.{take-add}
use Rattle.std.proofs.KnownBytes.{Appends-trans}
use Rattle.std.specs.Io.KnownBytes.{Appends}

pub appends_more : (a b c : Option (List ℕ)) (bytes : List ℕ) (done count : ℕ) → Appends a b (take done bytes) → Appends b c (take count (drop done bytes))
    → Appends a c (take (done + count) bytes)
appends_more a b c bytes done count p q = rw (take-add done count bytes) (Appends-trans a b c (take done bytes) (take count (drop done bytes)) p q)
