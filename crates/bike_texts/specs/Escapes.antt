-- Escapes undone, in names and ASCII fields.
use Rattle.std.specs.Prelude.{ℕ, List, [], ◌∷◌, Bool, true, false, ◌||◌, ◌==◌, Option, Some, None, if◌then◌else◌}
use Rattle.bike_fields.specs.Bytes.{name_of, ascii_of}
use Rattle.bike_texts.specs.Reading.{◌>>=◌}

-- the byte for which a backslash and the letter stand
abbrev pub meant_by : ℕ → Option ℕ
meant_by letter =
    if letter == 92 then Some 92 else (
    if letter == 116 then Some 9 else (
    if letter == 110 then Some 10 else (
    if letter == 114 then Some 13 else None)))

-- a TAB, an LF or a CR, which never stands for itself
abbrev pub is_break : ℕ → Bool
is_break b = (b == 9) || (b == 10) || (b == 13)

abbrev pub onto : Option ℕ → Option (List ℕ) → Option (List ℕ)
onto first others = first >>= λ b. others >>= λ bs. Some (b ∷ bs)

-- the same behind a backslash, where the flag says so
abbrev pub unescape_behind : Bool → List ℕ → Option (List ℕ)
unescape_behind true [] = None
unescape_behind false [] = Some []
unescape_behind true (b ∷ bs) = onto (meant_by b) (unescape_behind false bs)
unescape_behind false (b ∷ bs) =
    if b == 92 then unescape_behind true bs else (
    if is_break b then None else onto (Some b) (unescape_behind false bs))

-- the bytes that are escaped in the text
abbrev pub unescape : List ℕ → Option (List ℕ)
unescape text = unescape_behind false text

unfoldable pub name_at : List ℕ → Option (List ℕ)
name_at text = unescape text >>= name_of

unfoldable pub ascii_at : List ℕ → Option (List ℕ)
ascii_at text = unescape text >>= ascii_of
