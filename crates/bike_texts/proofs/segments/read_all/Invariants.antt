use Rattle.std.proofs.Common.{◌≡◌, ◌≤◌, length}
use Rattle.bike_texts.specs.SegmentReading.{all_of}
use Rattle.bike_texts.proofs.SegmentSteps.{with_front}
use Rattle.bike_texts.proofs.segments.read_all.Given as goal

abbrev pub invariant-loop-text : goal.invariant-loop-text
invariant-loop-text l = (with_front l.segments.items (all_of l.parts) ≡ all_of l.initial.parts) × (length l.segments.items ≤ 8)

abbrev pub decreases-loop-text : goal.decreases-loop-text
decreases-loop-text l = length l.parts
