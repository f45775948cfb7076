-- A line that is kept piece by piece, and the window of a buffer that the pieces come from.
use Rattle.std.proofs.Common.{◌≡◌, ℕ, zero, suc, ◌+◌, ◌-◌, ◌≤◌, Bool, true, false, List, [], ◌∷◌, ◌++◌, length, take, drop, refl, sym, ap, ◌∙◌, arith, cond, min, None, Some, inl, inr}
use Rattle.std.proofs.lemmas.Bool.{cases_lt, false≢true}
use native.Mathlib.Numerals.{unary_clauses}
use Rattle.std.proofs.lemmas.List.{take_all, length-take, drop-take, drop-drop}
use Rattle.std.specs.Io.BufRead.{drop_through}
use Rattle.memchr.specs.Find.{IsFirstByte, is_byte}
use Rattle.bike_stream.specs.Lines.{has_feed, first_line}
use Rattle.bike_stream.proofs.Feeds.{splits_at, is_whole}

-- keeping a piece after what is kept is keeping the whole
pub take_again : (n : ℕ) (xs ys : List ℕ) → take n (take n xs ++ ys) ≡ take n (xs ++ ys)
take_again zero xs ys = refl
take_again (suc n) [] ys = refl
take_again (suc n) (x ∷ xs) ys = ap (λ t. x ∷ t) (take_again n xs ys)

take_over : (n : ℕ) (xs ys : List ℕ) → length xs ≤ n → take n (xs ++ ys) ≡ xs ++ take (n - length xs) ys
take_over n [] ys within = simp unary_clauses
take_over zero (x ∷ xs) ys within = absurd (omega arith)
take_over (suc n) (x ∷ xs) ys within = simp unary_clauses (ap (λ t. x ∷ t) (take_over n xs ys (omega arith)))

take_min : (n : ℕ) (xs : List ℕ) → take (min n (length xs)) xs ≡ take n xs
take_min n xs = elim (cases_lt n (length xs)) [
  | inl lt ↦ let e : min n (length xs) ≡ n = omega arith in rw e refl
  | inr ge ↦ let e : min n (length xs) ≡ length xs = omega arith in rw e (take_all (length xs) xs (omega arith) ∙ sym (take_all n xs (omega arith)))
]

-- what adding a piece leaves, where the vector has room
pub piece_added : (most : ℕ) (xs ys new : List ℕ) (fits : Bool) (count len cap : ℕ)
    → new ≡ cond fits (xs ++ take count ys) xs → (len + length (take count ys) ≤ cap → fits ≡ true)
    → count ≡ min (most - len) (length ys) → len ≡ length xs → len ≤ most → most ≤ cap → new ≡ take most (xs ++ ys)
piece_added most xs ys new fits count len cap is room at size within space =
    let short : len + length (take count ys) ≤ cap = omega (arith, length-take count ys) in
    let e : new ≡ xs ++ take count ys = rw (room short) at is in
    let c : count ≡ min (most - length xs) (length ys) = rw size at at in
    e ∙ (ap (λ n. xs ++ take n ys) c ∙ (ap (λ l. xs ++ l) (take_min (most - length xs) ys) ∙ sym (take_over most xs ys (omega arith))))

drop_past : (n : ℕ) (xs : List ℕ) → length xs ≤ n → drop n xs ≡ []
drop_past zero [] past = refl
drop_past zero (x ∷ xs) past = absurd (omega arith)
drop_past (suc n) [] past = refl
drop_past (suc n) (x ∷ xs) past = drop_past n xs (omega arith)

-- the window from start to end without its first n bytes
window_rest : (xs : List ℕ) (start end n : ℕ) → take (end - (start + n)) (drop (start + n) xs) ≡ drop n (take (end - start) (drop start xs))
window_rest xs start end n = elim (cases_lt (end - start) n) [
  | inl lt ↦
      let none : end - (start + n) ≡ 0 = omega arith in
      rw none (sym (drop_past n (take (end - start) (drop start xs)) (omega (arith, length-take (end - start) (drop start xs)))))
  | inr ge ↦
      let some : end - start ≡ n + (end - (start + n)) = omega arith in
      rw (some, drop-take, drop-drop) refl
]

-- what taking a piece of the window leaves
pub record TakesPiece (most : ℕ) (held old left taken : List ℕ) (ended : Bool) : Type 0 where
  pub found : ended ≡ has_feed held
  pub rest : left ≡ drop_through 10 held
  pub line : taken ≡ take most (old ++ first_line held)
  pub drained : ended ≡ false → left ≡ []

pub piece_found : (most : ℕ) (xs now held line taken : List ℕ) (start end k : ℕ) → now ≡ xs → take (end - start) (drop start xs) ≡ held
    → IsFirstByte (is_byte 10) (take (end - start) (drop start now)) (Some k)
    → taken ≡ take most (line ++ take k (take (end - start) (drop start now)))
    → TakesPiece most held line (take (end - (start + (k + 1))) (drop (start + (k + 1)) xs)) taken true
piece_found most xs now held line taken start end k same view found is =
    let s = splits_at held k (rw (same, view) at found) in
    let t : taken ≡ take most (line ++ take k held) = rw (same, view) at is in
    record {
      found = sym s.feed;
      rest = window_rest xs start end (k + 1) ∙ (ap (drop (k + 1)) view ∙ sym s.rest);
      line = t ∙ ap (λ l. take most (line ++ l)) (sym s.line);
      drained = λ f. absurd (false≢true (sym f));
    }

pub piece_whole : (most : ℕ) (xs now held line taken : List ℕ) (start end : ℕ) → now ≡ xs → take (end - start) (drop start xs) ≡ held
    → IsFirstByte (is_byte 10) (take (end - start) (drop start now)) None
    → taken ≡ take most (line ++ take (end - start) (drop start now))
    → TakesPiece most held line (take (end - end) (drop end xs)) taken false
piece_whole most xs now held line taken start end same view found is =
    let w = is_whole held (rw (same, view) at found) in
    let t : taken ≡ take most (line ++ held) = rw (same, view) at is in
    let none : end - end ≡ 0 = omega arith in
    record {
      found = sym w.feed;
      rest = rw none (sym w.rest);
      line = t ∙ ap (λ l. take most (line ++ l)) (sym w.line);
      drained = λ f. rw none refl;
    }
