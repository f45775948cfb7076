-- A station's bicycles by type: what its row says of them, and those that came so far.
use Rattle.std.specs.Prelude.{ℕ, List, Bool}
use Rattle.std.specs.Str.{bytes_eq}
use Rattle.bike_book.specs.ByType.{counts_of, with_counts, one_more, by_type_text}
use Rattle.bike_book.specs.declared.by_type.CountedType.{CountedType}

pub record TypesSeen : Type 0 where
  pub text : List ℕ
  pub types : List CountedType

-- with a bicycle more of the type
abbrev pub with_one : List ℕ → Bool → List CountedType → List CountedType
with_one type_id available cs = with_counts type_id (one_more available (counts_of type_id cs)) cs

-- the text is that of the types
abbrev pub is_told : TypesSeen → Bool
is_told a = bytes_eq a.text (by_type_text a.types)
