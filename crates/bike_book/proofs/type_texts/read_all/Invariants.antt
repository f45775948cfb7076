use Rattle.std.proofs.Common.{◌≡◌, length}
use Rattle.bike_book.specs.ByType.{all_read}
use Rattle.bike_book.proofs.TypeTexts.{with_front}
use Rattle.bike_book.proofs.type_texts.read_all.Given as goal

abbrev pub invariant-loop-text : goal.invariant-loop-text
invariant-loop-text l = with_front l.list.items (all_read l.parts) ≡ all_read l.initial.parts

abbrev pub decreases-loop-text : goal.decreases-loop-text
decreases-loop-text l = length l.parts
