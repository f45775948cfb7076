-- Numbered lists with an item added, or with one item changed.
use Rattle.std.proofs.Common.{◌≡◌, ◌≢◌, ◌⊎◌, inl, inr, ℕ, zero, suc, ◌+◌, ◌-◌, ◌≤◌, List, [], ◌∷◌, ◌++◌, length, length-append, Option, Some, None, refl, sym, ap, ◌∙◌, subst, add-one, arith}
use Rattle.bike_operator.specs.Operator.{Numbered, item_at, item_in, item_numbered, item_changed, changed_in, number_changed, last_number, with_item}
use Rattle.bike_laws.proofs.SingleSteps.MapLemmas.{IsKept, Same, Turned}

-- ---- added

pub item_last : {A : Type 0} (x : A) (xs : List A) → item_at (length xs) (xs ++ x ∷ []) ≡ Some x
item_last x [] = refl
item_last x (y ∷ ys) = item_last x ys

item_stays : {A : Type 0} (n : ℕ) (xs : List A) (x y : A) → item_at n xs ≡ Some y → item_at n (xs ++ x ∷ []) ≡ Some y
item_stays n [] x y h = absurd cc
item_stays zero (z ∷ xs) x y h = h
item_stays (suc n) (z ∷ xs) x y h = item_stays n xs x y h

item_or_last : {A : Type 0} (n : ℕ) (xs : List A) (x y : A) → item_at n (xs ++ x ∷ []) ≡ Some y → (item_at n xs ≡ Some y) ⊎ (n ≡ length xs) × (y ≡ x)
item_or_last zero [] x y h = inr (refl, cc)
item_or_last (suc n) [] x y h = absurd cc
item_or_last zero (z ∷ xs) x y h = inl h
item_or_last (suc n) (z ∷ xs) x y h = elim (item_or_last n xs x y h) [ inl i ↦ inl i | inr i ↦ inr (ap suc i.0, i.1) ]

item_within : {A : Type 0} (n : ℕ) (xs : List A) (y : A) → item_at n xs ≡ Some y → n + 1 ≤ length xs
item_within n [] y h = absurd cc
item_within zero (z ∷ xs) y h = omega arith
item_within (suc n) (z ∷ xs) y h = let i = item_within n xs y h in omega (arith, i)

in_last : {A : Type 0} (xs : List A) (x : A) → item_in (length xs + 1) (xs ++ x ∷ []) ≡ Some x
in_last xs x = rw (add-one (length xs)) (item_last x xs)

in_stays : {A : Type 0} (n : ℕ) (xs : List A) (x y : A) → item_in n xs ≡ Some y → item_in n (xs ++ x ∷ []) ≡ Some y
in_stays zero xs x y h = absurd cc
in_stays (suc n) xs x y h = item_stays n xs x y h

-- What has a number where an item was added: an item that was there, or the new one.
in_or_last : {A : Type 0} (n : ℕ) (xs : List A) (x y : A) → item_in n (xs ++ x ∷ []) ≡ Some y → (item_in n xs ≡ Some y) ⊎ (n ≡ length xs + 1) × (y ≡ x)
in_or_last zero xs x y h = absurd cc
in_or_last (suc n) xs x y h = elim (item_or_last n xs x y h) [ inl i ↦ inl i | inr i ↦ inr (let e = i.0 in omega (arith, e), i.1) ]

in_within : {A : Type 0} (n : ℕ) (xs : List A) (y : A) → item_in n xs ≡ Some y → n ≤ length xs
in_within zero xs y h = omega arith
in_within (suc n) xs y h = let i = item_within n xs y h in omega (arith, i)

-- ---- changed

-- What stands at a number where the item at another or the same number was changed.
pub data IsTurned {A : Type 0} (f : A → A) (n q : ℕ) (there own : Option A) (y : A) : Type 0 where
  Here : (x : A) → q ≡ n → there ≡ Some x → y ≡ f x → IsTurned f n q there own y
  Elsewhere : q ≢ n → own ≡ Some y → IsTurned f n q there own y

shifted : {A : Type 0} (f : A → A) (n q : ℕ) (there own : Option A) (y : A) → IsTurned f n q there own y → IsTurned f (suc n) (suc q) there own y
shifted f n q there own y (Here x e found is) = Here x (ap suc e) found is
shifted f n q there own y (Elsewhere apart found) = Elsewhere (λ e. apart (omega (arith, e))) found

item_turned : {A : Type 0} (n : ℕ) (f : A → A) (xs : List A) (q : ℕ) (y : A) → item_at q (item_changed n f xs) ≡ Some y → IsTurned f n q (item_at n xs) (item_at q xs) y
item_turned n f [] q y h = absurd cc
item_turned zero f (x ∷ xs) zero y h = Here x refl refl cc
item_turned zero f (x ∷ xs) (suc q) y h = Elsewhere (λ e. omega (arith, e)) h
item_turned (suc n) f (x ∷ xs) zero y h = Elsewhere (λ e. omega (arith, e)) h
item_turned (suc n) f (x ∷ xs) (suc q) y h = shifted f n q (item_at n xs) (item_at q xs) y (item_turned n f xs q y h)

in_turned : {A : Type 0} (n : ℕ) (f : A → A) (xs : List A) (q : ℕ) (y : A) → item_in q (changed_in n f xs) ≡ Some y → IsTurned f n q (item_in n xs) (item_in q xs) y
in_turned n f xs zero y h = absurd cc
in_turned zero f xs (suc q) y h = Elsewhere (λ e. omega (arith, e)) h
in_turned (suc n) f xs (suc q) y h = shifted f n q (item_at n xs) (item_at q xs) y (item_turned n f xs q y h)

item_apart : {A : Type 0} (n : ℕ) (f : A → A) (xs : List A) (q : ℕ) → q ≢ n → item_at q (item_changed n f xs) ≡ item_at q xs
item_apart n f [] q apart = refl
item_apart zero f (x ∷ xs) zero apart = absurd (apart refl)
item_apart zero f (x ∷ xs) (suc q) apart = refl
item_apart (suc n) f (x ∷ xs) zero apart = refl
item_apart (suc n) f (x ∷ xs) (suc q) apart = item_apart n f xs q (λ e. apart (ap suc e))

in_apart : {A : Type 0} (n : ℕ) (f : A → A) (xs : List A) (q : ℕ) → q ≢ n → item_in q (changed_in n f xs) ≡ item_in q xs
in_apart n f xs zero apart = refl
in_apart zero f xs (suc q) apart = refl
in_apart (suc n) f xs (suc q) apart = item_apart n f xs q (λ e. apart (ap suc e))

-- An item that was there goes on being there, the same or changed.
pub record HasItem {A : Type 0} (f : A → A) (x : A) (found : Option A) : Type 0 where
  pub row : A
  pub found_is : found ≡ Some row
  pub is : IsKept f x row

item_kept : {A : Type 0} (n : ℕ) (f : A → A) (xs : List A) (q : ℕ) (x : A) → item_at q xs ≡ Some x → HasItem f x (item_at q (item_changed n f xs))
item_kept n f [] q x h = absurd cc
item_kept zero f (z ∷ xs) zero x h = let e : z ≡ x = cc in record { row = f z; found_is = refl; is = Turned (ap f e) }
item_kept zero f (z ∷ xs) (suc q) x h = record { row = x; found_is = h; is = Same refl }
item_kept (suc n) f (z ∷ xs) zero x h = record { row = x; found_is = h; is = Same refl }
item_kept (suc n) f (z ∷ xs) (suc q) x h = item_kept n f xs q x h

in_kept : {A : Type 0} (n : ℕ) (f : A → A) (xs : List A) (q : ℕ) (x : A) → item_in q xs ≡ Some x → HasItem f x (item_in q (changed_in n f xs))
in_kept n f xs zero x h = absurd cc
in_kept zero f xs (suc q) x h = record { row = x; found_is = h; is = Same refl }
in_kept (suc n) f xs (suc q) x h = item_kept n f xs q x h

length-item_changed : {A : Type 0} (n : ℕ) (f : A → A) (xs : List A) → length (item_changed n f xs) ≡ length xs
length-item_changed n f [] = refl
length-item_changed zero f (x ∷ xs) = refl
length-item_changed (suc n) f (x ∷ xs) = ap suc (length-item_changed n f xs)

length-changed_in : {A : Type 0} (n : ℕ) (f : A → A) (xs : List A) → length (changed_in n f xs) ≡ length xs
length-changed_in zero f xs = refl
length-changed_in (suc n) f xs = length-item_changed n f xs

-- ---- by number

next_place : {A : Type 0} (l : Numbered A) → (last_number l + 1) - l.archived ≡ length l.items + 1
next_place l = omega arith

pub number_last : {A : Type 0} (l : Numbered A) (x : A) → item_numbered (last_number l + 1) (with_item x l) ≡ Some x
number_last l x = rw (next_place l) (in_last l.items x)

-- the item at a place has the number behind those that were archived
pub number_of_place : {A : Type 0} (n : ℕ) (l : Numbered A) (x : A) → item_at n l.items ≡ Some x → item_numbered (l.archived + suc n) l ≡ Some x
number_of_place n l x h = let e : (l.archived + suc n) - l.archived ≡ suc n = omega arith in rw e h

pub number_stays : {A : Type 0} (n : ℕ) (l : Numbered A) (x y : A) → item_numbered n l ≡ Some y → item_numbered n (with_item x l) ≡ Some y
number_stays n l x y h = in_stays (n - l.archived) l.items x y h

-- What has a number where an item was added: an item that was there, or the new one.
pub number_or_last : {A : Type 0} (n : ℕ) (l : Numbered A) (x y : A) → item_numbered n (with_item x l) ≡ Some y → (item_numbered n l ≡ Some y) ⊎ (n ≡ last_number l + 1) × (y ≡ x)
number_or_last n l x y h = elim (in_or_last (n - l.archived) l.items x y h) [ inl i ↦ inl i | inr i ↦ inr (let e = i.0 in omega (arith, e), i.1) ]

pub number_within : {A : Type 0} (n : ℕ) (l : Numbered A) (y : A) → item_numbered n l ≡ Some y → n ≤ last_number l
number_within n l y h = let w = in_within (n - l.archived) l.items y h in omega (arith, w)

-- an item that is there has a number behind those that were archived
pub number_behind : {A : Type 0} (n : ℕ) (l : Numbered A) (y : A) → item_numbered n l ≡ Some y → l.archived + 1 ≤ n
number_behind n l y h = go (n - l.archived) refl h where
  go : (k : ℕ) → n - l.archived ≡ k → item_in k l.items ≡ Some y → l.archived + 1 ≤ n
  go zero e i = absurd cc
  go (suc k) e i = omega (arith, e)

pub last_added : {A : Type 0} (l : Numbered A) (x : A) → last_number (with_item x l) ≡ last_number l + 1
last_added l x = let e = length-append l.items (x ∷ []) in omega (arith, e)

pub last_changed : {A : Type 0} (n : ℕ) (f : A → A) (l : Numbered A) → last_number (number_changed n f l) ≡ last_number l
last_changed n f l = let e = length-changed_in (n - l.archived) f l.items in omega (arith, e)

-- two numbers of which one is there stand at one place where they are one
same_place : {A : Type 0} (n q : ℕ) (l : Numbered A) (k : ℕ) → q - l.archived ≡ suc k → q - l.archived ≡ n - l.archived → q ≡ n
same_place n q l k some e = omega (arith, some, e)

pub number_turned : {A : Type 0} (n : ℕ) (f : A → A) (l : Numbered A) (q : ℕ) (y : A) → item_numbered q (number_changed n f l) ≡ Some y → IsTurned f n q (item_numbered n l) (item_numbered q l) y
number_turned n f l q y h = go (q - l.archived) refl (in_turned (n - l.archived) f l.items (q - l.archived) y h) where
  go : (k : ℕ) → q - l.archived ≡ k → IsTurned f (n - l.archived) (q - l.archived) (item_numbered n l) (item_numbered q l) y → IsTurned f n q (item_numbered n l) (item_numbered q l) y
  go k e (Elsewhere apart found) = Elsewhere (λ same. apart (ap (λ (m : ℕ). m - l.archived) same)) found
  go zero e (Here x same found is) =
      let here : n - l.archived ≡ 0 = sym same ∙ e in
      let none : item_in (n - l.archived) l.items ≡ None = ap (λ (m : ℕ). item_in m l.items) here in
      absurd cc
  go (suc k) e (Here x same found is) = Here x (same_place n q l k e same) found is

pub number_apart : {A : Type 0} (n : ℕ) (f : A → A) (l : Numbered A) (q : ℕ) → q ≢ n → item_numbered q (number_changed n f l) ≡ item_numbered q l
number_apart n f l q apart = go (q - l.archived) refl where
  go : (k : ℕ) → q - l.archived ≡ k → item_in (q - l.archived) (changed_in (n - l.archived) f l.items) ≡ item_in (q - l.archived) l.items
  go zero e = rw e refl
  go (suc k) e = in_apart (n - l.archived) f l.items (q - l.archived) (λ same. apart (same_place n q l k e same))

pub number_kept : {A : Type 0} (n : ℕ) (f : A → A) (l : Numbered A) (q : ℕ) (x : A) → item_numbered q l ≡ Some x → HasItem f x (item_numbered q (number_changed n f l))
number_kept n f l q x h = in_kept (n - l.archived) f l.items (q - l.archived) x h
