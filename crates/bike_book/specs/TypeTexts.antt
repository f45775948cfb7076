-- The text of types, as it is written and compared from left to right.
use Rattle.std.specs.Prelude.{◌≡◌, ◌≢◌, ℕ, List, [], ◌∷◌, ◌++◌, Option, codes}
use Rattle.std.specs.Option.{MatchOption}
use Rattle.std.specs.Borrow.{Bor}
use Rattle.bike_book.specs.declared.by_type.CountedType.{CountedType}
use Rattle.bike_book.specs.ByType.{counted_text}

-- a part behind a text, and a semicolon between them where the text isn't empty
abbrev pub parted : List ℕ → List ℕ → List ℕ
parted [] part = part
parted (b ∷ bs) part = (b ∷ bs) ++ 59 ∷ part

-- the text, or `-` where it is empty
abbrev pub or_none : List ℕ → List ℕ
or_none [] = codes "-"
or_none (b ∷ bs) = b ∷ bs

-- the types behind the first
abbrev pub others_text : List CountedType → List ℕ
others_text [] = []
others_text (c ∷ cs) = 59 ∷ counted_text c ++ others_text cs

-- what stands behind the front, where the text begins with it
abbrev pub IsBehind : List ℕ → List ℕ → Option (Bor (List ℕ)) → Type 0
IsBehind front text rest = MatchOption rest ((back : List ℕ) → text ≢ front ++ back) (λ x. text ≡ front ++ x.now)
