use Rattle.std.proofs.Common.{◌≡◌, drop}
use Rattle.std.specs.Str.{bytes_eq}
use denote.Shadow.{shadow}
use denote.Text.{Utf8}
use Rattle.bike_book.specs.TypeTexts.{others_text}
use Rattle.bike_book.proofs.type_texts.are_others.Given as goal

abbrev pub invariant-loop-counted : goal.invariant-loop-counted
invariant-loop-counted l = shadow (Utf8 l.rest) × (bytes_eq l.initial.rest (others_text l.others) ≡ bytes_eq l.rest (others_text (drop l.counted-index l.others)))
