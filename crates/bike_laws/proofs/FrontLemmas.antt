-- What is left of a numbered list, of counts and of sums where the first items go.
use Rattle.std.proofs.Common.{◌≡◌, ◌⊎◌, inl, inr, ℕ, ℤ, zero, suc, pos, ◌+◌, ◌-◌, ◌≤◌, ◌+ℤ◌, List, [], ◌∷◌, ◌++◌, length, take, drop, length-drop, Bool, true, false, cond, eqb, leb}
use Rattle.std.proofs.Common.{Option, Some, None, refl, sym, ap, ap₂, ◌∙◌, arith}
use Rattle.std.specs.Prelude.{◌&&◌, ◌||◌, filter}
use Rattle.std.specs.List.{list_any, list_all}
use Rattle.std.specs.Ordering.{eq_by_cmp}
use Rattle.std.proofs.lemmas.Int.{ints}
use Rattle.std.proofs.lemmas.Option.{same_Some}
use Rattle.std.proofs.lemmas.Bool.Decides.{leb_tells}
use Rattle.bike_ledger.specs.Entries.{Entry}
use Rattle.bike_ledger.specs.Ledger.{total, refunded_of, given_back, given_back_of}
use Rattle.bike_operator.specs.declared.records.Rental.{Rental}
use Rattle.bike_operator.specs.Operator.{AcceptedRequest, Key, Numbered, item_at, item_in, item_numbered, item_changed, changed_in, number_changed, last_number, with_item, key_in}
use Rattle.bike_operator.specs.Operator.{kept_under, texts_cmp}
use Rattle.bike_operator.specs.Counts.{count, is_open}
use Rattle.bike_laws.specs.Archiving.{without}
use Rattle.bike_laws.proofs.FoundLemmas.{both_true}
use Rattle.bike_laws.proofs.EntryLemmas.{other_number}

-- ---- lists

pub take_front : {A : Type 0} (n : ℕ) (xs ys : List A) → n ≤ length xs → take n (xs ++ ys) ≡ take n xs
take_front zero xs ys h = refl
take_front (suc n) [] ys h = absurd (omega (arith, h))
take_front (suc n) (x ∷ xs) ys h = ap (λ l. x ∷ l) (take_front n xs ys (omega (arith, h)))

drop_front : {A : Type 0} (n : ℕ) (xs ys : List A) → n ≤ length xs → drop n (xs ++ ys) ≡ drop n xs ++ ys
drop_front zero xs ys h = refl
drop_front (suc n) [] ys h = absurd (omega (arith, h))
drop_front (suc n) (x ∷ xs) ys h = drop_front n xs ys (omega (arith, h))

item_past : {A : Type 0} (n j k : ℕ) (xs : List A) → k ≡ n + j → item_at j (drop n xs) ≡ item_at k xs
item_past zero j k xs e = ap (λ (m : ℕ). item_at m xs) (omega (arith, e))
item_past (suc n) j k [] e = refl
item_past (suc n) j zero (x ∷ xs) e = absurd (omega (arith, e))
item_past (suc n) j (suc k) (x ∷ xs) e = item_past n j k xs (omega (arith, e))

changed_past : {A : Type 0} (n j k : ℕ) (f : A → A) (xs : List A) → k ≡ n + j → item_changed j f (drop n xs) ≡ drop n (item_changed k f xs)
changed_past zero j k f xs e = ap (λ (m : ℕ). item_changed m f xs) (omega (arith, e))
changed_past (suc n) j k f [] e = refl
changed_past (suc n) j zero f (x ∷ xs) e = absurd (omega (arith, e))
changed_past (suc n) j (suc k) f (x ∷ xs) e = changed_past n j k f xs (omega (arith, e))

front_unchanged : {A : Type 0} (n k : ℕ) (f : A → A) (xs : List A) → n ≤ k → take n (item_changed k f xs) ≡ take n xs
front_unchanged zero k f xs h = refl
front_unchanged (suc n) k f [] h = refl
front_unchanged (suc n) zero f (x ∷ xs) h = absurd (omega (arith, h))
front_unchanged (suc n) (suc k) f (x ∷ xs) h = ap (λ l. x ∷ l) (front_unchanged n k f xs (omega (arith, h)))

-- ---- numbered lists

pub last_left : {A : Type 0} (n : ℕ) (l : Numbered A) → n ≤ length l.items → last_number (without n l) ≡ last_number l
last_left n l h = let e = length-drop n l.items in omega (arith, h, e)

-- a number behind the front finds what it found, and one of what was archived before finds nothing still
pub found_left : {A : Type 0} (n number : ℕ) (l : Numbered A) → (number ≤ l.archived) ⊎ (l.archived + n + 1 ≤ number) → item_numbered number (without n l) ≡ item_numbered number l
found_left n number l (inl low) =
    let here : number - (l.archived + n) ≡ 0 = omega (arith, low) in
    let there : number - l.archived ≡ 0 = omega (arith, low) in
    rw here (rw there refl)
found_left n number l (inr high) =
    let here : number - (l.archived + n) ≡ suc (number - (l.archived + n + 1)) = omega (arith, high) in
    let there : number - l.archived ≡ suc (n + (number - (l.archived + n + 1))) = omega (arith, high) in
    rw here (rw there (item_past n (number - (l.archived + n + 1)) (n + (number - (l.archived + n + 1))) l.items refl))

pub added_left : {A : Type 0} (n : ℕ) (l : Numbered A) (x : A) → n ≤ length l.items → with_item x (without n l) ≡ without n (with_item x l)
added_left n l x h = λ i. record { archived = l.archived + n; items = sym (drop_front n l.items (x ∷ []) h) i }

pub changed_left : {A : Type 0} (n number : ℕ) (f : A → A) (l : Numbered A) → l.archived + n + 1 ≤ number → number_changed number f (without n l) ≡ without n (number_changed number f l)
changed_left n number f l high =
    let here : number - (l.archived + n) ≡ suc (number - (l.archived + n + 1)) = omega (arith, high) in
    let there : number - l.archived ≡ suc (n + (number - (l.archived + n + 1))) = omega (arith, high) in
    let items : changed_in (number - (l.archived + n)) f (drop n l.items) ≡ drop n (changed_in (number - l.archived) f l.items) =
    rw here (rw there (changed_past n (number - (l.archived + n + 1)) (n + (number - (l.archived + n + 1))) f l.items refl)) in
    λ i. record { archived = l.archived + n; items = items i }

pub front_stays : {A : Type 0} (n number : ℕ) (f : A → A) (l : Numbered A) → l.archived + n + 1 ≤ number → take n (number_changed number f l).items ≡ take n l.items
front_stays n number f l high =
    let there : number - l.archived ≡ suc (n + (number - (l.archived + n + 1))) = omega (arith, high) in
    rw there (front_unchanged n (n + (number - (l.archived + n + 1))) f l.items (omega arith))

-- ---- what is kept under a key

pub kept_left : (n : ℕ) (key : Key) (h : List AcceptedRequest) → kept_under key (take n h) ≡ None → kept_under key (drop n h) ≡ kept_under key h
kept_left zero key h e = refl
kept_left (suc n) key [] e = refl
kept_left (suc n) key (a ∷ h) e = go (eq_by_cmp texts_cmp key (key_in a.request)) e (kept_left n key h) where
  go : (b : Bool) → cond b (Some a) (kept_under key (take n h)) ≡ None → (kept_under key (take n h) ≡ None → kept_under key (drop n h) ≡ kept_under key h)
      → kept_under key (drop n h) ≡ cond b (Some a) (kept_under key h)
  go true e rest = absurd cc
  go false e rest = rest e

-- ---- counts

pub none_counted : {A : Type 0} (n : ℕ) (test : A → Bool) (xs : List A) → list_any test (take n xs) ≡ false → count test (drop n xs) ≡ count test xs
none_counted zero test xs e = refl
none_counted (suc n) test [] e = refl
none_counted (suc n) test (x ∷ xs) e = go (test x) e (none_counted n test xs) where
  go : (b : Bool) → (b || list_any test (take n xs)) ≡ false → (list_any test (take n xs) ≡ false → count test (drop n xs) ≡ count test xs)
      → count test (drop n xs) ≡ length (cond b (x ∷ filter test xs) (filter test xs))
  go true e rest = absurd cc
  go false e rest = rest e

-- nobody rides in a rental that goes
pub none_rides : (n rider : ℕ) (rs : List Rental) → list_any is_open (take n rs) ≡ false
    → list_any (λ (r : Rental). eqb r.rider rider && is_open r) (drop n rs) ≡ list_any (λ (r : Rental). eqb r.rider rider && is_open r) rs
none_rides zero rider rs e = refl
none_rides (suc n) rider [] e = refl
none_rides (suc n) rider (r ∷ rs) e = go (is_open r) (eqb r.rider rider) e (none_rides n rider rs) where
  go : (b c : Bool) → (b || list_any is_open (take n rs)) ≡ false
      → (list_any is_open (take n rs) ≡ false → list_any (λ (r : Rental). eqb r.rider rider && is_open r) (drop n rs) ≡ list_any (λ (r : Rental). eqb r.rider rider && is_open r) rs)
      → list_any (λ (r : Rental). eqb r.rider rider && is_open r) (drop n rs) ≡ ((c && b) || list_any (λ (r : Rental). eqb r.rider rider && is_open r) rs)
  go true c e rest = absurd cc
  go false true e rest = rest e
  go false false e rest = rest e

-- an open rental doesn't stand among those that go
open_stays : (n k : ℕ) (rs : List Rental) (r : Rental) → list_any is_open (take n rs) ≡ false → item_at k rs ≡ Some r → is_open r ≡ true → n ≤ k
open_stays zero k rs r none found is = omega arith
open_stays (suc n) k [] r none found is = absurd cc
open_stays (suc n) zero (x ∷ rs) r none found is = absurd (go (is_open x) (ap (λ (y : Rental). is_open y) (same_Some x r found) ∙ is) none) where
  go : (b : Bool) → b ≡ true → (b || list_any is_open (take n rs)) ≡ false → ⊥
  go true h e = cc
  go false h e = cc
open_stays (suc n) (suc k) (x ∷ rs) r none found is = go (is_open x) none (λ rest. open_stays n k rs r rest found is) where
  go : (b : Bool) → (b || list_any is_open (take n rs)) ≡ false → (list_any is_open (take n rs) ≡ false → n ≤ k) → suc n ≤ suc k
  go true e rest = absurd cc
  go false e rest = let h = rest e in omega (arith, h)

pub open_behind : (n number : ℕ) (l : Numbered Rental) (r : Rental) → list_any is_open (take n l.items) ≡ false → item_numbered number l ≡ Some r → is_open r ≡ true → l.archived + n + 1 ≤ number
open_behind n number l r none found is = go (number - l.archived) refl found where
  go : (k : ℕ) → number - l.archived ≡ k → item_in k l.items ≡ Some r → l.archived + n + 1 ≤ number
  go zero e i = absurd cc
  go (suc k) e i = let h = open_stays n k l.items r none i is in omega (arith, e, h)

-- ---- sums

pub total_parts : (n : ℕ) (figure : Entry → ℤ) (es : List Entry) → total figure es ≡ total figure (take n es) +ℤ total figure (drop n es)
total_parts zero figure es = omega (arith, ints)
total_parts (suc n) figure [] = refl
total_parts (suc n) figure (e ∷ es) = let rest = total_parts n figure es in omega (arith, ints, rest)

-- refunds of a rental that stays stay with it
pub refunds_left : (n last number : ℕ) (es : List Entry) → list_all (λ (e : Entry). leb e.rental last) (take n es) ≡ true → last + 1 ≤ number
    → refunded_of number (drop n es) ≡ refunded_of number es
refunds_left zero last number es theirs behind = refl
refunds_left (suc n) last number [] theirs behind = refl
refunds_left (suc n) last number (e ∷ es) theirs behind =
    let parts = both_true (leb e.rental last) (list_all (λ (x : Entry). leb x.rental last) (take n es)) theirs in
    let rest = refunds_left n last number es parts.1 behind in
    let none : given_back_of number e ≡ pos 0 = ap (λ (b : Bool). cond b (given_back e.kind e.amount) (pos 0)) (apart parts.0) in
    omega (arith, ints, none, rest)
  where
    apart : leb e.rental last ≡ true → eqb e.rental number ≡ false
    apart low = other_number e.rental number (λ same. elim (leb_tells e.rental last) [
      | inl w ↦ (let le = w.1 in omega (arith, le, same, behind))
      | inr w ↦ cc
    ])
