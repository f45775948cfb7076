use Rattle.std.proofs.Common.{◌≡◌, ◌++◌, string_bytes, take}
use Rattle.bike_texts.specs.Writing.{others_text}
use Rattle.bike_texts.proofs.put_texts.push_others.Given as goal

abbrev pub invariant-loop-segment : goal.invariant-loop-segment
invariant-loop-segment l = string_bytes l.out ≡ string_bytes l.initial.out ++ others_text (take l.segment-index l.segments)
