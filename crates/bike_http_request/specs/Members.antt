-- The members of a body, by name. A member of another kind is none, as a missing one is.
use Rattle.std.specs.Prelude.{ℕ, List, Bool, ◌&&◌, nat_le, if◌then◌else◌, codes, Option, Some, None}
use Rattle.serde_json.specs.Data.{Data}
use Rattle.serde_json.specs.Find.{get, as_number, as_u64, as_str}
use Rattle.bike_fields.specs.Bytes.{key_of, ident_of}
use Rattle.bike_texts.specs.Reading.{◌>>=◌, choice_of, side_of}
use Rattle.bike_texts.specs.declared.ends.Side.{Side}

-- a string
abbrev pub text_in : List ℕ → Data → Option (List ℕ)
text_in name body = get name body >>= as_str

-- a whole number of the range, without sign, fraction and exponent
unfoldable pub number_in : ℕ → ℕ → List ℕ → Data → Option ℕ
number_in low high name body =
    (get name body >>= as_number) >>= as_u64 >>= λ n. if nat_le low n && nat_le n high then Some n else None

unfoldable pub key_in : Data → Option (List ℕ)
key_in body = text_in (codes "key") body >>= key_of

unfoldable pub ident_in : List ℕ → Data → Option (List ℕ)
ident_in name body = text_in name body >>= ident_of

unfoldable pub choice_in : List ℕ → List ℕ → List ℕ → Data → Option Bool
choice_in word other name body = text_in name body >>= choice_of word other

unfoldable pub side_in : List ℕ → Data → Option Side
side_in name body = text_in name body >>= side_of
