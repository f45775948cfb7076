use Rattle.std.proofs.Common.{◌≡◌, fold, map, string_bytes, take}
use Rattle.bike_book.specs.ByType.{counted_text}
use Rattle.bike_book.specs.TypeTexts.{parted}
use Rattle.bike_book.proofs.type_texts.push_types.Given as goal

abbrev pub invariant-loop-counted : goal.invariant-loop-counted
invariant-loop-counted l = string_bytes l.out ≡ fold parted (string_bytes l.initial.out) (map counted_text (take l.counted-index l.by_type))
