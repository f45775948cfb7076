-- Strings as JSON writes them (RFC 8259, section 7), with the shortest escapes.
use Rattle.std.specs.Prelude.{ℕ, ◌+◌, ◌/◌, ◌%◌, List, [], ◌∷◌, ◌++◌, ◌==◌, nat_lt, if◌then◌else◌, flat_map}

-- a hexadecimal digit, a letter in lower case
abbrev pub hex_digit : ℕ → ℕ
hex_digit d = if nat_lt d 10 then 48 + d else 87 + d

-- what stands in a string for a byte of the text
unfoldable pub escaped_byte : ℕ → List ℕ
escaped_byte b =
    if b == 34 then 92 ∷ 34 ∷ []
    else if b == 92 then 92 ∷ 92 ∷ []
    else if b == 8 then 92 ∷ 98 ∷ []
    else if b == 9 then 92 ∷ 116 ∷ []
    else if b == 10 then 92 ∷ 110 ∷ []
    else if b == 12 then 92 ∷ 102 ∷ []
    else if b == 13 then 92 ∷ 114 ∷ []
    else if nat_lt b 32 then 92 ∷ 117 ∷ 48 ∷ 48 ∷ hex_digit (b / 16) ∷ hex_digit (b % 16) ∷ []
    else b ∷ []

-- the text with its escapes
abbrev pub json_escapes : List ℕ → List ℕ
json_escapes = flat_map escaped_byte

-- the text with its escapes, between quotation marks
unfoldable pub string_text : List ℕ → List ℕ
string_text text = (34 ∷ []) ++ json_escapes text ++ (34 ∷ [])
