-- Names of members that stand for themselves in a string.
use Rattle.std.specs.Prelude.{ℕ, List, [], ◌∷◌, ◌++◌, Bool, ◌&&◌, ◌==◌, not, nat_le}
use Rattle.std.specs.List.{list_all}

-- the byte needs no escape
abbrev pub is_plain_byte : ℕ → Bool
is_plain_byte b = nat_le 32 b && not (b == 34) && not (b == 92)

-- none of the bytes does
abbrev pub is_plain : List ℕ → Bool
is_plain = list_all is_plain_byte

-- such a name where others stand before it: a comma, the name between quotation marks, and a colon
abbrev pub text_behind_comma : List ℕ → List ℕ
text_behind_comma name = 44 ∷ 34 ∷ (name ++ 34 ∷ 58 ∷ [])
