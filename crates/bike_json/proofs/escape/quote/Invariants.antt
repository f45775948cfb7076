use Rattle.std.proofs.Common.{◌≡◌, ◌+◌, ◌∷◌, length, take}
use Rattle.bike_json.specs.Escapes.{json_escapes}
use Rattle.bike_json.proofs.escape.quote.Given as goal

abbrev pub invariant-loop-i : goal.invariant-loop-i
invariant-loop-i l = (length l.buf ≡ 64) × (take (l.i + 1) l.buf ≡ 34 ∷ json_escapes (take l.i l.text))
