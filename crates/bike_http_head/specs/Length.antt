-- How long the fields of a head say that the body is (RFC 9112, section 6). A field is its name and its value.
use Rattle.std.specs.Prelude.{ℕ, List, [], ◌∷◌, length, Bool, ◌&&◌, nat_lt, nat_le, if◌then◌else◌, Option, Some, None}
use Rattle.std.specs.Prelude.{codes}
use Rattle.std.specs.Char.{is_ascii_digit}
use Rattle.std.specs.List.{list_all, list_any, filter}
use Rattle.std.specs.Str.{str_eq_ignore_ascii_case}
use Rattle.std.specs.Str.Parse.{digits_value}
use Rattle.bike_http_head.specs.declared.length.TheConstants.{BODY_LENGTH}
use Rattle.bike_http_head.specs.declared.length.BodyLength.{BodyLength}
use Rattle.bike_http_head.specs.declared.length.BodyLength.TheVariants.{Malformed, TooLong, Of}

abbrev pub Field : Type 0
Field = List ℕ × List ℕ

abbrev pub is_transfer_encoding : Field → Bool
is_transfer_encoding f = str_eq_ignore_ascii_case f.0 (codes "transfer-encoding")

abbrev pub is_content_length : Field → Bool
is_content_length f = str_eq_ignore_ascii_case f.0 (codes "content-length")

-- one or more digits
abbrev pub is_digits : List ℕ → Bool
is_digits text = nat_lt 0 (length text) && list_all is_ascii_digit text

-- the length that a Content-Length tells
unfoldable pub size_of : List ℕ → BodyLength
size_of text =
    if is_digits text then (if nat_le (digits_value 10 text) BODY_LENGTH then Of (digits_value 10 text) else TooLong)
    else Malformed

-- the length that all of them tell: none 0, and no two any
abbrev pub sizes_tell : List Field → BodyLength
sizes_tell [] = Of 0
sizes_tell (f ∷ []) = size_of f.1
sizes_tell (f ∷ g ∷ fields) = Malformed

-- the length that some fields tell, which hold no Transfer-Encoding, after one more
abbrev pub told_after : Option BodyLength → Field → Option BodyLength
told_after None f = if is_content_length f then Some (size_of f.1) else None
told_after (Some size) f = if is_content_length f then Some Malformed else Some size

-- the length that all fields tell
unfoldable pub body_length : List Field → BodyLength
body_length fields =
    if list_any is_transfer_encoding fields then Malformed else sizes_tell (filter is_content_length fields)
