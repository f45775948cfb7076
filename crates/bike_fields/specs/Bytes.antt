-- Texts of a bounded length whose bytes are of one set.
use Rattle.std.specs.Prelude.{ℕ, List, length, Bool, not, ◌&&◌, ◌||◌, nat_le, ◌==◌, if◌then◌else◌, Option, Some, None}
use Rattle.std.specs.List.{list_all}
use Rattle.std.specs.Str.{is_utf8}
use Rattle.bike_fields.specs.declared.text_lengths.TheConstants.{LONGEST_IDENT, LONGEST_KEY, SHORTEST_LANGUAGE}
use Rattle.bike_fields.specs.declared.text_lengths.TheConstants.{LONGEST_LANGUAGE, CURRENCY_LENGTH, LONGEST_ASCII}
use Rattle.bike_fields.specs.declared.text_lengths.TheConstants.{LONGEST_NAME}

abbrev pub is_lower : ℕ → Bool
is_lower b = nat_le 97 b && nat_le b 122

abbrev pub is_upper : ℕ → Bool
is_upper b = nat_le 65 b && nat_le b 90

abbrev pub is_digit : ℕ → Bool
is_digit b = nat_le 48 b && nat_le b 57

-- a-z 0-9 _ -
abbrev pub is_ident_byte : ℕ → Bool
is_ident_byte b = is_lower b || is_digit b || (b == 95) || (b == 45)

-- A-Z a-z 0-9 _ -
abbrev pub is_key_byte : ℕ → Bool
is_key_byte b = is_upper b || is_lower b || is_digit b || (b == 95) || (b == 45)

-- A-Z a-z 0-9 -
abbrev pub is_language_byte : ℕ → Bool
is_language_byte b = is_upper b || is_lower b || is_digit b || (b == 45)

-- 0x20 to 0x7E
abbrev pub is_printable : ℕ → Bool
is_printable b = nat_le 32 b && nat_le b 126

-- any but U+0000
abbrev pub is_name_byte : ℕ → Bool
is_name_byte b = not (b == 0)

abbrev pub has_length : ℕ → ℕ → List ℕ → Bool
has_length least most bs = nat_le least (length bs) && nat_le (length bs) most

abbrev pub is_ident : List ℕ → Bool
is_ident bs = has_length 1 LONGEST_IDENT bs && list_all is_ident_byte bs

abbrev pub is_key : List ℕ → Bool
is_key bs = has_length 1 LONGEST_KEY bs && list_all is_key_byte bs

abbrev pub is_language : List ℕ → Bool
is_language bs = has_length SHORTEST_LANGUAGE LONGEST_LANGUAGE bs && list_all is_language_byte bs

abbrev pub is_currency : List ℕ → Bool
is_currency bs = has_length CURRENCY_LENGTH CURRENCY_LENGTH bs && list_all is_upper bs

abbrev pub is_ascii_field : List ℕ → Bool
is_ascii_field bs = has_length 1 LONGEST_ASCII bs && list_all is_printable bs

abbrev pub is_name : List ℕ → Bool
is_name bs = has_length 1 LONGEST_NAME bs && list_all is_name_byte bs && is_utf8 bs

-- the text, where it passes the test
abbrev pub kept_if : Bool → List ℕ → Option (List ℕ)
kept_if passes bs = if passes then Some bs else None

unfoldable pub ident_of : List ℕ → Option (List ℕ)
ident_of bs = kept_if (is_ident bs) bs

unfoldable pub key_of : List ℕ → Option (List ℕ)
key_of bs = kept_if (is_key bs) bs

unfoldable pub language_of : List ℕ → Option (List ℕ)
language_of bs = kept_if (is_language bs) bs

unfoldable pub currency_of : List ℕ → Option (List ℕ)
currency_of bs = kept_if (is_currency bs) bs

unfoldable pub ascii_of : List ℕ → Option (List ℕ)
ascii_of bs = kept_if (is_ascii_field bs) bs

unfoldable pub name_of : List ℕ → Option (List ℕ)
name_of bs = kept_if (is_name bs) bs
