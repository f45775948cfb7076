-- Where the first line feed stands, in a text and in texts that are joined.
use Rattle.std.proofs.Common.{◌≡◌, ◌≢◌, ℕ, zero, suc, ◌+◌, ◌<◌, true, false, List, [], ◌∷◌, ◌++◌, length, take, drop, refl, ap, ◌∙◌, arith, get_or, add-one, None, Some, inl, inr}
use Rattle.std.proofs.lemmas.Bool.{eq-eqb, ne_eqb, eqb-true}
use Rattle.std.proofs.lemmas.Bool.Decides.{eqb_tells}
use Rattle.std.proofs.lemmas.List.{append-nil}
use Rattle.std.specs.Io.BufRead.{drop_through}
use Rattle.memchr.specs.Find.{IsFirstByte, is_byte}
use Rattle.bike_stream.specs.Lines.{has_feed, first_line, IsFree}

-- what a text is taken apart into at its first line feed, the one at k
pub record SplitsAt (bytes : List ℕ) (k : ℕ) : Type 0 where
  pub feed : has_feed bytes ≡ true
  pub line : first_line bytes ≡ take k bytes
  pub rest : drop_through 10 bytes ≡ drop (k + 1) bytes

-- what it is where it has none
pub record IsWhole (bytes : List ℕ) : Type 0 where
  pub feed : has_feed bytes ≡ false
  pub line : first_line bytes ≡ bytes
  pub rest : drop_through 10 bytes ≡ []

splits : (bytes : List ℕ) (k : ℕ) → k < length bytes → get_or bytes k 0 ≡ 10 → ((j : ℕ) → j < k → get_or bytes j 0 ≢ 10)
    → (has_feed bytes ≡ true) × (first_line bytes ≡ take k bytes) × (drop_through 10 bytes ≡ drop (suc k) bytes)
splits [] k within at before = absurd (omega arith)
splits (b ∷ bytes) zero within at before = let is = eq-eqb b 10 at in rw is (refl, refl, refl)
splits (b ∷ bytes) (suc k) within at before =
    let isnt = ne_eqb b 10 (before 0 (omega arith)) in
    let later = splits bytes k (omega arith) at (λ j lt. before (suc j) (omega arith)) in
    rw isnt (later.0, ap (λ l. b ∷ l) later.1, later.2)

whole : (bytes : List ℕ) → ((j : ℕ) → j < length bytes → get_or bytes j 0 ≢ 10)
    → (has_feed bytes ≡ false) × (first_line bytes ≡ bytes) × (drop_through 10 bytes ≡ [])
whole [] none = (refl, refl, refl)
whole (b ∷ bytes) none =
    let isnt = ne_eqb b 10 (none 0 (omega arith)) in
    let later = whole bytes (λ j lt. none (suc j) (omega arith)) in
    rw isnt (later.0, ap (λ l. b ∷ l) later.1, later.2)

-- a search for the line feed that found it at k
pub splits_at : (bytes : List ℕ) (k : ℕ) → IsFirstByte (is_byte 10) bytes (Some k) → SplitsAt bytes k
splits_at bytes k found =
    let s = splits bytes k found.0.high (eqb-true _ _ found.1) (λ j lt is. found.0.before j (omega arith) lt (eq-eqb _ _ is)) in
    record { feed = s.0; line = s.1; rest = rw (add-one k) s.2 }

-- a search that found none
pub is_whole : (bytes : List ℕ) → IsFirstByte (is_byte 10) bytes None → IsWhole bytes
is_whole bytes found =
    let w = whole bytes (λ j lt is. found j (omega arith) lt (eq-eqb _ _ is)) in
    record { feed = w.0; line = w.1; rest = w.2 }

-- texts that are joined
feed_append : (xs ys : List ℕ) → IsFree xs → has_feed (xs ++ ys) ≡ has_feed ys
feed_append [] ys free = refl
feed_append (x ∷ xs) ys free = elim (eqb_tells x 10) [
  | inl is ↦ absurd (cc (rw is.0 at free))
  | inr isnt ↦ rw isnt.0 (feed_append xs ys (rw isnt.0 at free))
]

pub free_append : (xs ys : List ℕ) → IsFree xs → IsFree ys → IsFree (xs ++ ys)
free_append xs ys free more = feed_append xs ys free ∙ more

pub first_append : (xs ys : List ℕ) → IsFree xs → first_line (xs ++ ys) ≡ xs ++ first_line ys
first_append [] ys free = refl
first_append (x ∷ xs) ys free = elim (eqb_tells x 10) [
  | inl is ↦ absurd (cc (rw is.0 at free))
  | inr isnt ↦ rw isnt.0 (ap (λ l. x ∷ l) (first_append xs ys (rw isnt.0 at free)))
]

pub through_append : (xs ys : List ℕ) → IsFree xs → drop_through 10 (xs ++ ys) ≡ drop_through 10 ys
through_append [] ys free = refl
through_append (x ∷ xs) ys free = elim (eqb_tells x 10) [
  | inl is ↦ absurd (cc (rw is.0 at free))
  | inr isnt ↦ rw isnt.0 (through_append xs ys (rw isnt.0 at free))
]

-- a text that goes on after its first line feed
pub first_ended : (xs ys : List ℕ) → has_feed xs ≡ true → first_line (xs ++ ys) ≡ first_line xs
first_ended [] ys feed = absurd (cc feed)
first_ended (x ∷ xs) ys feed = elim (eqb_tells x 10) [
  | inl is ↦ rw is.0 refl
  | inr isnt ↦ rw isnt.0 (ap (λ l. x ∷ l) (first_ended xs ys (rw isnt.0 at feed)))
]

pub through_ended : (xs ys : List ℕ) → has_feed xs ≡ true → drop_through 10 (xs ++ ys) ≡ drop_through 10 xs ++ ys
through_ended [] ys feed = absurd (cc feed)
through_ended (x ∷ xs) ys feed = elim (eqb_tells x 10) [
  | inl is ↦ rw is.0 refl
  | inr isnt ↦ rw isnt.0 (through_ended xs ys (rw isnt.0 at feed))
]

-- a text without a line feed is one line
pub first_free : (xs : List ℕ) → IsFree xs → first_line xs ≡ xs
first_free xs free = let e : first_line (xs ++ []) ≡ xs ++ [] = first_append xs [] free in rw append-nil at e
