use Rattle.std.proofs.Common.{◌≡◌, ◌++◌, string_bytes}
use Rattle.std.proofs.Math.Utf8.{encodes}
use Rattle.bike_texts.specs.Fields.{escapes_of}
use Rattle.bike_texts.proofs.put_texts.put_escaped.Given as goal

abbrev pub invariant-loop-c : goal.invariant-loop-c
invariant-loop-c l = string_bytes l.out ≡ string_bytes l.initial.out ++ escapes_of (encodes l.yielded)
