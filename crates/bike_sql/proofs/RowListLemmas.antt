-- Members of lists that are mapped, filtered or permuted.
use Rattle.std.proofs.Common.{◌≡◌, inl, inr, ℕ, zero, suc, ◌<◌, List, [], ◌∷◌, map, filter, find, length, get_or, slice_get, Option, Some, None, Bool, true, false, cond, refl, sym, ap, subst, ◌∙◌}
use Rattle.std.proofs.Common.{arith}
use Rattle.std.specs.List.{AllByRecursion, Contains, list_any, list_all}
use Rattle.std.specs.List.Sorted.{IsPermutation}
use Rattle.std.proofs.lemmas.Bool.{and_parts, or_parts}
use Rattle.std.proofs.lemmas.List.Sorted.{Contains-permutation}
use Rattle.sqlite_rules.specs.Lists.{Has}

pub same_some : {X : Type 0} {a b : X} → ◌≡◌ {A = Option X} (Some a) (Some b) → a ≡ b
same_some e = cc

pub no_list : {X : Type 0} (xs : List X) → length xs ≡ 0 → xs ≡ []
no_list [] h = refl
no_list (x ∷ xs) h = absurd (omega (arith, h))

pub has_map : {A B : Type 0} (f : A → B) (xs : List A) (x : A) → Has xs x → Has (map f xs) (f x)
has_map f [] x h = elim h [ ]
has_map f (y ∷ ys) x (inl is) = inl (ap f is)
has_map f (y ∷ ys) x (inr later) = inr (has_map f ys x later)

pub map_has : {A B : Type 0} (f : A → B) (xs : List A) (y : B) → Has (map f xs) y → (x : A) × Has xs x × (y ≡ f x)
map_has f [] y h = elim h [ ]
map_has f (x ∷ xs) y (inl is) = (x, inl refl, is)
map_has f (x ∷ xs) y (inr later) = let it = map_has f xs y later in (it.0, inr it.1, it.2)

pub map_map : {A B C : Type 0} (f : A → B) (g : B → C) (xs : List A) → map g (map f xs) ≡ map (λ x. g (f x)) xs
map_map f g [] = refl
map_map f g (x ∷ xs) = ap (λ l. g (f x) ∷ l) (map_map f g xs)

pub map_same : {A B : Type 0} (f g : A → B) → ((x : A) → f x ≡ g x) → (xs : List A) → map f xs ≡ map g xs
map_same f g same [] = refl
map_same f g same (x ∷ xs) = let e = same x in let rest = map_same f g same xs in cc

pub has_filter : {X : Type 0} (p : X → Bool) (xs : List X) (x : X) → Has (filter p xs) x → Has xs x × (p x ≡ true)
has_filter p [] x h = elim h [ ]
has_filter {X} p (y ∷ ys) x h = by (p y) refl h (has_filter p ys x)
  where
    by : (b : Bool) → p y ≡ b → Has (cond b (y ∷ filter p ys) (filter p ys)) x → (Has (filter p ys) x → Has ys x × (p x ≡ true)) → Has (y ∷ ys) x × (p x ≡ true)
    by true e (inl is) rest = (inl is, ap p is ∙ e)
    by true e (inr later) rest = let it = rest later in (inr it.0, it.1)
    by false e later rest = let it = rest later in (inr it.0, it.1)

pub filter_has : {X : Type 0} (p : X → Bool) (xs : List X) (x : X) → Has xs x → p x ≡ true → Has (filter p xs) x
filter_has p [] x h passes = elim h [ ]
filter_has {X} p (y ∷ ys) x h passes = by (p y) refl h (λ later. filter_has p ys x later passes)
  where
    by : (b : Bool) → p y ≡ b → Has (y ∷ ys) x → (Has ys x → Has (filter p ys) x) → Has (cond b (y ∷ filter p ys) (filter p ys)) x
    by true e (inl is) rest = inl is
    by true e (inr later) rest = inr (rest later)
    by false e (inl is) rest = absurd (let t : p y ≡ true = ap p (sym is) ∙ passes in cc)
    by false e (inr later) rest = rest later

pub filter_none : {X : Type 0} (p : X → Bool) (xs : List X) → ((x : X) → Has xs x → p x ≡ false) → filter p xs ≡ []
filter_none p [] none = refl
filter_none p (x ∷ xs) none = rw (none x (inl refl)) (filter_none p xs (λ y h. none y (inr h)))

pub filter_all : {X : Type 0} (xs : List X) → filter (λ _. true) xs ≡ xs
filter_all [] = refl
filter_all (x ∷ xs) = ap (λ l. x ∷ l) (filter_all xs)

pub filter_same : {X : Type 0} (p q : X → Bool) → ((x : X) → p x ≡ q x) → (xs : List X) → filter p xs ≡ filter q xs
filter_same p q same [] = refl
filter_same p q same (x ∷ xs) = rw (same x) (ap (λ l. cond (q x) (x ∷ l) l) (filter_same p q same xs))

pub find_only : {X : Type 0} (p : X → Bool) (xs : List X) (x : X) → Has xs x → p x ≡ true → ((y : X) → Has xs y → p y ≡ true → y ≡ x) → find p xs ≡ Some x
find_only p [] x h it one = elim h [ ]
find_only {X} p (y ∷ ys) x h it one = by (p y) refl h (λ later. find_only p ys x later it (λ z q. one z (inr q)))
  where
    by : (b : Bool) → p y ≡ b → Has (y ∷ ys) x → (Has ys x → find p ys ≡ Some x) → cond b (Some y) (find p ys) ≡ Some x
    by true e here rest = ap Some (one y (inl refl) e)
    by false e (inl is) rest = absurd (let t : p y ≡ true = ap p (sym is) ∙ it in cc)
    by false e (inr later) rest = rest later

pub find_none : {X : Type 0} (p : X → Bool) (xs : List X) → ((x : X) → Has xs x → p x ≡ false) → find p xs ≡ None
find_none p [] none = refl
find_none p (x ∷ xs) none = rw (none x (inl refl)) (find_none p xs (λ y h. none y (inr h)))

pub none_found : {X : Type 0} (p : X → Bool) (xs : List X) → find p xs ≡ None → (x : X) → Has xs x → p x ≡ false
none_found p [] none x h = elim h [ ]
none_found {X} p (y ∷ ys) none x h = by (p y) refl none h (λ rest later. none_found p ys rest x later)
  where
    by : (b : Bool) → p y ≡ b → cond b (Some y) (find p ys) ≡ None → Has (y ∷ ys) x → (find p ys ≡ None → Has ys x → p x ≡ false) → p x ≡ false
    by true e some here rest = absurd cc
    by false e none (inl is) rest = ap p is ∙ e
    by false e none (inr later) rest = rest none later

has_contains : {X : Type 0} (xs : List X) (x : X) → Has xs x → Contains xs x
has_contains [] x h = elim h [ ]
has_contains (y ∷ ys) x (inl is) = (0, omega arith, sym is)
has_contains (y ∷ ys) x (inr later) = let it = has_contains ys x later in (suc it.0, omega (arith, it.1), it.2)

pub get_has : {X : Type 0} (xs : List X) (x : X) (k : ℕ) → k < length xs → get_or xs k x ≡ x → Has xs x
get_has [] x k low is = absurd (omega (arith, low))
get_has (y ∷ ys) x zero low is = inl (sym is)
get_has (y ∷ ys) x (suc k) low is = inr (get_has ys x k (omega (arith, low)) is)

pub permuted : {X : Type 0} (xs ys : List X) (x : X) → IsPermutation xs ys → Has xs x → Has ys x
permuted xs ys x h has = let it = Contains-permutation xs ys x h (has_contains xs x has) in get_has ys x it.0 it.1 it.2

-- ---- what holds of each element

pub list_all_has : {X : Type 0} (p : X → Bool) (xs : List X) (x : X) → list_all p xs ≡ true → Has xs x → p x ≡ true
list_all_has p [] x h has = elim has [ ]
list_all_has p (y ∷ ys) x h (inl is) = ap p is ∙ (and_parts (p y) (list_all p ys) h).0
list_all_has p (y ∷ ys) x h (inr later) = list_all_has p ys x (and_parts (p y) (list_all p ys) h).1 later

pub list_any_has : {X : Type 0} (p : X → Bool) (xs : List X) (x : X) → list_any p xs ≡ false → Has xs x → p x ≡ false
list_any_has p [] x h has = elim has [ ]
list_any_has p (y ∷ ys) x h (inl is) = ap p is ∙ (or_parts (p y) (list_any p ys) h).0
list_any_has p (y ∷ ys) x h (inr later) = list_any_has p ys x (or_parts (p y) (list_any p ys) h).1 later

pub all_at : {X : Type 0} (P : X → Type 0) (xs : List X) (k : ℕ) (x : X) → AllByRecursion P xs → slice_get xs k ≡ Some x → P x
all_at P [] k x all is = absurd (cc)
all_at P (y ∷ ys) zero x all is = subst P (same_some is) all.0
all_at P (y ∷ ys) (suc k) x all is = all_at P ys k x all.1 is
