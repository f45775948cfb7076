-- The lines of a text, one after the other and all at once.
use Rattle.std.proofs.Common.{◌≡◌, ℕ, suc, ◌<◌, List, [], ◌∷◌, ◌++◌, length, refl, ap, ◌∙◌, arith, append_assoc, inl, inr}
use Rattle.std.specs.Prelude.{All}
use Rattle.std.proofs.lemmas.Bool.Decides.{eqb_tells}
use Rattle.std.proofs.lemmas.List.{append-nil}
use Rattle.std.specs.Io.BufRead.{drop_through}
use Rattle.bike_stream.specs.Lines.{lines_of, onto, first_line, lines_text, IsFree}

-- a text with a byte begins with a line
pub lines_step : (b : ℕ) (bytes : List ℕ) → lines_of (b ∷ bytes) ≡ first_line (b ∷ bytes) ∷ lines_of (drop_through 10 (b ∷ bytes))
lines_step b [] = elim (eqb_tells b 10) [ inl is ↦ rw is.0 refl | inr isnt ↦ rw isnt.0 refl ]
lines_step b (c ∷ bytes) = elim (eqb_tells b 10) [
  | inl is ↦ rw is.0 refl
  | inr isnt ↦ rw isnt.0 (ap (onto b) (lines_step c bytes))
]

pub lines_next : (text : List ℕ) → 0 < length text → lines_of text ≡ first_line text ∷ lines_of (drop_through 10 text)
lines_next [] some = absurd (omega arith)
lines_next (b ∷ bytes) some = lines_step b bytes

-- a line with its line feed, and what follows it
pub lines_ended : (line rest : List ℕ) → IsFree line → lines_of (line ++ 10 ∷ rest) ≡ line ∷ lines_of rest
lines_ended [] rest free = refl
lines_ended (b ∷ line) rest free = elim (eqb_tells b 10) [
  | inl is ↦ absurd (cc (rw is.0 at free))
  | inr isnt ↦ rw isnt.0 (ap (onto b) (lines_ended line rest (rw isnt.0 at free)))
]

-- a last line without a line feed
pub lines_open : (last : List ℕ) → IsFree last → 0 < length last → lines_of last ≡ last ∷ []
lines_open [] free some = absurd (omega arith)
lines_open (b ∷ []) free some = elim (eqb_tells b 10) [
  | inl is ↦ absurd (cc (rw is.0 at free))
  | inr isnt ↦ rw isnt.0 refl
]
lines_open (b ∷ c ∷ last) free some = elim (eqb_tells b 10) [
  | inl is ↦ absurd (cc (rw is.0 at free))
  | inr isnt ↦ rw isnt.0 (ap (onto b) (lines_open (c ∷ last) (rw isnt.0 at free) (omega arith)))
]

pub lines_joined : (lines : List (List ℕ)) (rest : List ℕ) → All IsFree lines → lines_of (lines_text lines ++ rest) ≡ lines ++ lines_of rest
lines_joined [] rest free = refl
lines_joined (line ∷ lines) rest free =
    ap lines_of (append_assoc line (10 ∷ lines_text lines) rest) ∙ (lines_ended line (lines_text lines ++ rest) (free 0 [] (omega arith))
    ∙ ap (λ ls. line ∷ ls) (lines_joined lines rest (λ k d within. free (suc k) d (omega arith))))

pub lines_all : (lines : List (List ℕ)) → All IsFree lines → lines_of (lines_text lines) ≡ lines
lines_all lines free = let e : lines_of (lines_text lines ++ []) ≡ lines ++ [] = lines_joined lines [] free in rw (append-nil, append-nil) at e

pub lines_last : (lines : List (List ℕ)) (last : List ℕ) → All IsFree lines → IsFree last → 0 < length last → lines_of (lines_text lines ++ last) ≡ lines ++ last ∷ []
lines_last lines last free more some = lines_joined lines last free ∙ ap (λ ls. lines ++ ls) (lines_open last more some)
