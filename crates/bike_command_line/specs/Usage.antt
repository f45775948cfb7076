-- The texts that tell how the program is used.
use Rattle.std.specs.Prelude.{List, [], ◌∷◌, ◌++◌}
use Rattle.std.specs.Borrow.{Bor}
use Rattle.clap.specs.Words.{Text}

-- the text that stands in these pieces
abbrev pub text_of : List (Bor Text) → Text
text_of [] = []
text_of (piece ∷ pieces) = piece.now ++ text_of pieces
