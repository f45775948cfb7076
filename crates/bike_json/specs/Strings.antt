-- How a JSON string is read (RFC 8259, section 7).
use Rattle.std.specs.Prelude.{ℕ, ◌+◌, ◌-◌, ◌*◌, List, [], ◌∷◌, ◌++◌, Bool, ◌==◌, ◌&&◌, nat_lt, nat_le, if◌then◌else◌}
use Rattle.std.specs.Prelude.{Option, None, Some, option_map, option_and_then, encode_utf8}

infixl 10 ◌>>=◌
-- what comes next, where there is something
abbrev pub ◌>>=◌ : {A B : Type 0} → Option A → (A → Option B) → Option B
o >>= f = option_and_then f o

-- the value of a hexadecimal digit, in either case
abbrev pub hex_value : ℕ → Option ℕ
hex_value c =
    if nat_le 48 c && nat_le c 57 then Some (c - 48)
    else if nat_le 65 c && nat_le c 70 then Some (c - 55)
    else if nat_le 97 c && nat_le c 102 then Some (c - 87)
    else None

-- the number that four hexadecimal digits spell
abbrev pub unit_value : ℕ → ℕ → ℕ → ℕ → Option ℕ
unit_value a b c d =
    hex_value a >>= λ w. hex_value b >>= λ x. hex_value c >>= λ y. hex_value d >>= λ z. Some
    (w * 4096 + x * 256 + y * 16 + z)

-- the byte that a letter behind a backslash stands for
abbrev pub letter_value : ℕ → Option ℕ
letter_value c =
    if c == 34 then Some 34
    else if c == 92 then Some 92
    else if c == 47 then Some 47
    else if c == 98 then Some 8
    else if c == 102 then Some 12
    else if c == 110 then Some 10
    else if c == 114 then Some 13
    else if c == 116 then Some 9
    else None

-- a first and a second half of a pair that stands for one character past U+FFFF
abbrev pub is_high : ℕ → Bool
is_high n = nat_le 55296 n && nat_lt n 56320

abbrev pub is_low : ℕ → Bool
is_low n = nat_le 56320 n && nat_lt n 57344

-- bytes before what was read
abbrev pub put : List ℕ → Option (List ℕ × List ℕ) → Option (List ℕ × List ℕ)
put bytes read = option_map (λ r. (bytes ++ r.0, r.1)) read

abbrev mutual
  -- the characters up to the closing quotation mark, as UTF-8, and what follows that
  pub read_characters : List ℕ → Option (List ℕ × List ℕ)
  read_characters [] = None
  read_characters (b ∷ rest) =
      if b == 34 then Some ([], rest)
      else if b == 92 then read_escape rest
      else if nat_lt b 32 then None
      else put (b ∷ []) (read_characters rest)

  -- the same behind a backslash
  pub read_escape : List ℕ → Option (List ℕ × List ℕ)
  read_escape [] = None
  read_escape (c ∷ rest) =
      if c == 117 then read_unit rest
      else letter_value c >>= λ b. put (b ∷ []) (read_characters rest)

  -- the same behind `\u`
  pub read_unit : List ℕ → Option (List ℕ × List ℕ)
  read_unit (a ∷ b ∷ c ∷ d ∷ rest) =
      unit_value a b c d >>= λ n.
      if is_high n then read_low n rest
      else if is_low n then None
      else put (encode_utf8 n) (read_characters rest)
  read_unit bytes = None

  -- the same behind the first half of a pair
  pub read_low : ℕ → List ℕ → Option (List ℕ × List ℕ)
  read_low high (x ∷ y ∷ a ∷ b ∷ c ∷ d ∷ rest) =
      if x == 92 && y == 117 then (unit_value a b c d >>= λ n.
      if is_low n then put (encode_utf8 (65536 + (high - 55296) * 1024 + (n - 56320))) (read_characters rest) else None)
      else None
  read_low high bytes = None

-- the text that a string spells, and what follows the string
abbrev pub read_string : List ℕ → Option (List ℕ × List ℕ)
read_string [] = None
read_string (b ∷ rest) = if b == 34 then read_characters rest else None
