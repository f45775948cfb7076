-- A line as it is taken, piece by piece.
use Rattle.std.proofs.Common.{◌≡◌, ℕ, zero, suc, ◌<◌, Bool, true, false, List, [], ◌∷◌, ◌++◌, length, take, refl, sym, ap, ◌∙◌, arith, append_assoc, Option, None, Some}
use Rattle.std.specs.Prelude.{◌==◌}
use Rattle.std.proofs.lemmas.Bool.{eqb-true, false≢true}
use Rattle.std.proofs.lemmas.List.{append-nil, length-append}
use Rattle.std.specs.Io.BufRead.{drop_through}
use Rattle.std.specs.Io.KnownBytes.{Consumes, IsAtEnd, Keeps, prepend_known}
use Rattle.bike_stream.specs.Lines.{first_line, has_feed}
use Rattle.bike_stream.specs.Taking.{has_byte, IsTaking, Taking, TakesLine, Takes}
use Rattle.bike_stream.proofs.Feeds.{free_append, first_append, through_append, first_ended, through_ended, first_free}
use Rattle.bike_stream.proofs.Pieces.{take_again}

pub is_nil : (xs : List ℕ) (b : Bool) → b ≡ (length xs == 0) → b ≡ true → xs ≡ []
is_nil [] b e t = refl
is_nil (x ∷ xs) b e t = let h = eqb-true _ _ (sym e ∙ t) in absurd (omega arith)

pub not_nil : (xs : List ℕ) (b : Bool) → b ≡ (length xs == 0) → b ≡ false → 0 < length xs
not_nil [] b e t = absurd (false≢true (sym t ∙ e))
not_nil (x ∷ xs) b e t = omega arith

byte_within : (bytes : List ℕ) → 0 < length bytes → true ≡ has_byte bytes
byte_within [] any = absurd (omega arith)
byte_within (b ∷ bytes) any = refl

take_nil : (n : ℕ) → take {A = ℕ} n [] ≡ []
take_nil zero = refl
take_nil (suc n) = refl

-- nothing was taken yet
pub taking_start : (most : ℕ) (known : Option (List ℕ)) → Taking most known false known []
taking_start most None = tt
taking_start most (Some text) = ([], refl, refl, sym (take_nil most), refl)

-- a read into an empty buffer
pub taking_fill : (most : ℕ) (known old new : Option (List ℕ)) (some : Bool) (held got line : List ℕ) → held ≡ []
    → Taking most known some (prepend_known held old) line → Consumes old new got → Taking most known some (prepend_known got new) line
taking_fill most None old new some held got line e t h = tt
taking_fill most (Some text) None new some held got line e t h = absurd t
taking_fill most (Some text) (Some xs) None some held got line e t h = absurd h
taking_fill most (Some text) (Some xs) (Some ys) some held got line e t h = let u = rw e at t in rw (← h) u

-- the line feed came
ends : (most : ℕ) (text held rest line after taken : List ℕ) (some : Bool) → IsTaking most text some (held ++ rest) line → 0 < length held
    → true ≡ has_feed held → after ≡ drop_through 10 held → taken ≡ take most (line ++ first_line held) → TakesLine most text (after ++ rest) true taken
ends most text held rest line after taken some t any feed left is =
    let (front, split, free, kept, _) = t in
    let long : 0 < length text = rw split (omega (arith, length-append front (held ++ rest), length-append held rest)) in
    let first : first_line text ≡ front ++ first_line held =
    ap first_line split ∙ (first_append front (held ++ rest) free ∙ ap (λ l. front ++ l) (first_ended held rest (sym feed))) in
    let through : drop_through 10 text ≡ drop_through 10 held ++ rest =
    ap (drop_through 10) split ∙ (through_append front (held ++ rest) free ∙ through_ended held rest (sym feed)) in
    (long, is ∙ (ap (λ l. take most (l ++ first_line held)) kept ∙ (take_again most front (first_line held) ∙ ap (take most) (sym first))), ap (λ l. l ++ rest) left ∙ sym through)

-- all that was held came, and no line feed
goes_on : (most : ℕ) (text held rest line after taken : List ℕ) (some : Bool) → IsTaking most text some (held ++ rest) line → 0 < length held
    → false ≡ has_feed held → after ≡ [] → taken ≡ take most (line ++ first_line held) → IsTaking most text true (after ++ rest) taken
goes_on most text held rest line after taken some t any feed left is =
    let (front, split, free, kept, _) = t in
    let all : taken ≡ take most (line ++ held) = rw (first_free held (sym feed)) at is in (
      front ++ held,
      rw left (split ∙ sym (append_assoc front held rest)),
      free_append front held free (sym feed),
      all ∙ (ap (λ l. take most (l ++ held)) kept ∙ take_again most front held),
      byte_within (front ++ held) (omega (arith, length-append front held)),
    )

-- the input ended
stops : (most : ℕ) (text line : List ℕ) (some : Bool) → IsTaking most text some [] line → TakesLine most text [] some line
stops most text line false ([], split, free, kept, any) = (split, refl)
stops most text line false (b ∷ front, split, free, kept, any) = absurd (false≢true any)
stops most text line true ([], split, free, kept, any) = absurd (false≢true (sym any))
stops most text line true (b ∷ front, split, free, kept, any) =
    let same : text ≡ b ∷ front = split ∙ append-nil (b ∷ front) in
    let first : first_line text ≡ b ∷ front = ap first_line same ∙ first_free (b ∷ front) free in
    let through : drop_through 10 text ≡ [] = ap (drop_through 10) split ∙ through_append (b ∷ front) [] free in
    (rw same (omega arith), kept ∙ ap (take most) (sym first), sym through)

pub taking_end : (most : ℕ) (known old new : Option (List ℕ)) (some : Bool) (held got line : List ℕ) → held ≡ [] → got ≡ []
    → Taking most known some (prepend_known held old) line → Consumes old new got → IsAtEnd new → Takes most known (prepend_known got new) some line
taking_end most None old new some held got line e g t h n = tt
taking_end most (Some text) None new some held got line e g t h n = absurd t
taking_end most (Some text) (Some xs) None some held got line e g t h n = absurd h
taking_end most (Some text) (Some xs) (Some ys) some held got line e g t h n =
    let x : xs ≡ [] = rw (g, n) at h in
    let u : IsTaking most text some [] line = rw (e, x) at t in
    rw (g, n) (stops most text line some u)

pub taking_found : (most : ℕ) (known rem : Option (List ℕ)) (some : Bool) (held line after taken : List ℕ) → Taking most known some (prepend_known held rem) line
    → 0 < length held → true ≡ has_feed held → after ≡ drop_through 10 held → taken ≡ take most (line ++ first_line held)
    → Takes most known (prepend_known after rem) true taken
taking_found most None rem some held line after taken t l f a k = tt
taking_found most (Some text) None some held line after taken t l f a k = absurd t
taking_found most (Some text) (Some rest) some held line after taken t l f a k = ends most text held rest line after taken some t l f a k

pub taking_more : (most : ℕ) (known rem : Option (List ℕ)) (some : Bool) (held line after taken : List ℕ) → Taking most known some (prepend_known held rem) line
    → 0 < length held → false ≡ has_feed held → after ≡ [] → taken ≡ take most (line ++ first_line held)
    → Taking most known true (prepend_known after rem) taken
taking_more most None rem some held line after taken t l f a k = tt
taking_more most (Some text) None some held line after taken t l f a k = absurd t
taking_more most (Some text) (Some rest) some held line after taken t l f a k = goes_on most text held rest line after taken some t l f a k

-- a read that failed
pub taking_fault : (most : ℕ) (known old new : Option (List ℕ)) (some : Bool) (held got line : List ℕ) → held ≡ [] → got ≡ []
    → Taking most known some (prepend_known held old) line → Keeps old new → Taking most known some (prepend_known got new) line
taking_fault most None old new some held got line e g t h = tt
taking_fault most (Some text) None new some held got line e g t h = absurd t
taking_fault most (Some text) (Some xs) None some held got line e g t h = absurd h
taking_fault most (Some text) (Some xs) (Some ys) some held got line e g t h = rw (g, h) (rw e at t)
