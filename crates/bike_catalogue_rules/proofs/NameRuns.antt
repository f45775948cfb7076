-- The names of one thing stand together: how many stand just before a row is how many of that thing have lesser languages.
use Rattle.std.proofs.Common.{◌≡◌, inl, inr, ◌⊎◌, ℕ, suc, ◌+◌, List, [], ◌∷◌, ◌++◌, length, length-append, map, filter, Bool, true, false, cond, ◌&&◌, Option, Some, None, refl, sym, ap, ap₂, ◌∙◌}
use Rattle.std.proofs.Common.{subst, arith}
use Rattle.std.specs.List.{filter_map, cons_option}
use Rattle.std.specs.Prelude.{option_map}
use Rattle.std.specs.Str.{bytes_eq}
use Rattle.std.specs.Ordering.{is_lt, ordering_reverse}
use Rattle.std.specs.declared.cmp.Ordering.{Ordering}
use Rattle.std.specs.declared.cmp.Ordering.TheVariants.{Less, Equal, Greater}
use Rattle.std.proofs.lemmas.Cmp.{tied_itself}
use Rattle.std.proofs.lemmas.List.Elements.{filter-append}
use Rattle.sqlite_value.specs.Order.{Row}
use Rattle.sqlite_rules.specs.Lists.{Has}
use Rattle.bike_sql.specs.View.{by_key}
use Rattle.bike_sql.proofs.OrderLemmas.{Rises, all_has}
use Rattle.bike_sql.proofs.TreeLemmas.{by_key_total}
use Rattle.bike_fields.specs.NameKinds.{kind_text}
use Rattle.bike_catalogue.specs.Rows.{MoreNameRow}
use Rattle.bike_operator.specs.Operator.{NameKey, text_cmp, name_key}
use Rattle.bike_operator.specs.Names.{is_name_of, part_at}
use Rattle.bike_readings.specs.Readings.{name_read}
use Rattle.bike_readings.specs.ReadOff.{name_in}
use Rattle.bike_catalogue_rules.specs.Names.{FurtherName, is_of_same, names_since}
use Rattle.bike_catalogue_rules.proofs.NameOrder.{AreOfSame, same_means, means_same, name_cmp, names_cmp, between, by_language}

-- ---- lists

filter_same : {A : Type 0} (p q : A → Bool) (xs : List A) → ((x : A) → Has xs x → p x ≡ q x) → filter p xs ≡ filter q xs
filter_same p q [] each = refl
filter_same p q (x ∷ xs) each = ap₂ (λ (b : Bool) (rest : List _). cond b (x ∷ rest) rest) (each x (inl refl)) (filter_same p q xs (λ y has. each y (inr has)))

filter_none : {A : Type 0} (p : A → Bool) (xs : List A) → ((x : A) → Has xs x → p x ≡ false) → filter p xs ≡ []
filter_none p [] each = refl
filter_none p (x ∷ xs) each = ap₂ (λ (b : Bool) (rest : List _). cond b (x ∷ rest) rest) (each x (inl refl)) (filter_none p xs (λ y has. each y (inr has)))

-- ---- names of one thing

-- the name is of the same thing as this one,
abbrev pub shares : FurtherName → Option FurtherName → Bool
shares e None = false
shares e (Some a) = is_of_same a e

-- and in a lesser language
abbrev pub precedes : FurtherName → Option FurtherName → Bool
precedes e None = false
precedes e (Some a) = is_of_same a e && is_lt (text_cmp a.2.language e.2.language)

-- the rows with names of the same thing
abbrev pub shared : FurtherName → List Row → List Row
shared e rows = filter (λ r. shares e (name_read r)) rows

-- of the rows below a name's, those with names of the same thing have lesser languages,
low_precedes : (r x : Row) (e : FurtherName) → name_read x ≡ Some e → by_key 3 r x ≡ Less → precedes e (name_read r) ≡ shares e (name_read r)
low_precedes r x e is low = go (name_read r) refl where
  go : (o : Option FurtherName) → name_read r ≡ o → precedes e o ≡ shares e o
  go None read = refl
  go (Some a) read = by (is_of_same a e) refl where
    by : (b : Bool) → is_of_same a e ≡ b → b && is_lt (text_cmp a.2.language e.2.language) ≡ b
    by false same = refl
    by true same = ap is_lt (sym (by_language a e (same_means a e same)) ∙ sym (names_cmp r x a e read is) ∙ low)

-- and of the others none
high_precedes : (r x : Row) (e : FurtherName) → name_read x ≡ Some e → (r ≡ x) ⊎ (by_key 3 x r ≡ Less) → precedes e (name_read r) ≡ false
high_precedes r x e is high = go (name_read r) refl where
  not_less : (o : Ordering) → o ≡ Equal ⊎ o ≡ Greater → is_lt o ≡ false
  not_less o (inl tie) = ap is_lt tie
  not_less o (inr above) = ap is_lt above

  go : (o : Option FurtherName) → name_read r ≡ o → precedes e o ≡ false
  go None read = refl
  go (Some a) read = by (is_of_same a e) refl where
    language : AreOfSame a e → (r ≡ x) ⊎ (by_key 3 x r ≡ Less) → text_cmp a.2.language e.2.language ≡ Equal ⊎ text_cmp a.2.language e.2.language ≡ Greater
    language same (inl here) =
        let tie : by_key 3 r x ≡ Equal = ap (λ (z : Row). by_key 3 r z) (sym here) ∙ tied_itself (by_key_total 3) r in
        inl (sym (by_language a e same) ∙ sym (names_cmp r x a e read is) ∙ tie)
    language same (inr later) =
        let above : by_key 3 r x ≡ Greater = (by_key_total 3).antisymm r x ∙ ap ordering_reverse later in
        inr (sym (by_language a e same) ∙ sym (names_cmp r x a e read is) ∙ above)

    by : (b : Bool) → is_of_same a e ≡ b → b && is_lt (text_cmp a.2.language e.2.language) ≡ false
    by false same = refl
    by true same = not_less (text_cmp a.2.language e.2.language) (language (same_means a e same) high)

pub below_last : (before : List Row) (x : Row) (rest : List Row) → Rises (by_key_total 3) (before ++ x ∷ rest) → (r : Row) → Has before r → by_key 3 r x ≡ Less
below_last [] x rest up r has = elim has [ ]
below_last (y ∷ before) x rest up r (inl is) = subst (λ (z : Row). by_key 3 z x ≡ Less) (sym is) (all_has (λ z. by_key 3 y z ≡ Less) (before ++ x ∷ rest) x up.0 (here before)) where
  here : (xs : List Row) → Has (xs ++ x ∷ rest) x
  here [] = inl refl
  here (z ∷ xs) = inr (here xs)
below_last (y ∷ before) x rest up r (inr later) = below_last before x rest up.1 r later

from_here : (before : List Row) (x : Row) (rest : List Row) → Rises (by_key_total 3) (before ++ x ∷ rest) → (r : Row) → Has (x ∷ rest) r → (r ≡ x) ⊎ (by_key 3 x r ≡ Less)
from_here [] x rest up r (inl is) = inl is
from_here [] x rest up r (inr later) = inr (all_has (λ z. by_key 3 x z ≡ Less) rest r up.0 later)
from_here (y ∷ before) x rest up r has = from_here before x rest up.1 r has

-- the names of the same thing in lesser languages stand before
pub preceding : (before : List Row) (x : Row) (rest : List Row) (e : FurtherName) → Rises (by_key_total 3) (before ++ x ∷ rest) → name_read x ≡ Some e
    → filter (λ r. precedes e (name_read r)) (before ++ x ∷ rest) ≡ shared e before
preceding before x rest e up is =
    filter-append (λ r. precedes e (name_read r)) before (x ∷ rest)
    ∙ ap₂ (λ (a b : List Row). a ++ b) (filter_same (λ r. precedes e (name_read r)) (λ r. shares e (name_read r)) before (λ r has. low_precedes r x e is (below_last before x rest up r has)))
    (filter_none (λ r. precedes e (name_read r)) (x ∷ rest) (λ r has. high_precedes r x e is (from_here before x rest up r has)))
    ∙ none_behind (shared e before)
  where
    none_behind : (xs : List Row) → xs ++ [] ≡ xs
    none_behind [] = refl
    none_behind (y ∷ xs) = ap (λ (l : List Row). y ∷ l) (none_behind xs)

-- ---- how many were just before

-- behind these rows: any name above them has so many of the same thing just before as there are at all
abbrev pub IsRun : List Row → Option FurtherName → ℕ → Type 0
IsRun before last run = (x : Row) (e : FurtherName) → name_read x ≡ Some e → ((r : Row) → Has before r → by_key 3 r x ≡ Less) → names_since last run e ≡ length (shared e before)

pub no_run : IsRun [] None 0
no_run = λ x e is low. refl

-- names of one thing share with the same
shares_as : (a e : FurtherName) → AreOfSame a e → (rows : List Row) → shared a rows ≡ shared e rows
shares_as a e same rows = filter_same (λ r. shares a (name_read r)) (λ r. shares e (name_read r)) rows (λ r has. go (name_read r)) where
  go : (o : Option FurtherName) → shares a o ≡ shares e o
  go None = refl
  go (Some b) = ap₂ (λ (k i : List ℕ). bytes_eq (kind_text b.0) k && bytes_eq b.1 i) same.kinds same.ids

pub next_is_run : (before : List Row) (last : Option FurtherName) (run : ℕ) (r : Row) (a : FurtherName) → IsRun before last run → name_read r ≡ Some a
    → ((z : Row) → Has before z → by_key 3 z r ≡ Less)
    → IsRun (before ++ r ∷ []) (Some a) (suc (names_since last run a))
next_is_run before last run r a so_far read below x e is low =
    by (is_of_same a e) refl ∙ sym (ap length (filter-append (λ z. shares e (name_read z)) before (r ∷ []))
    ∙ ap (λ (o : Option FurtherName). length (shared e before ++ cond (shares e o) (r ∷ []) [])) read)
  where
    earlier : (xs : List Row) (z : Row) → Has xs z → Has (xs ++ r ∷ []) z
    earlier [] z h = elim h [ ]
    earlier (y ∷ xs) z (inl here) = inl here
    earlier (y ∷ xs) z (inr later) = inr (earlier xs z later)

    has_last : (xs : List Row) → Has (xs ++ r ∷ []) r
    has_last [] = inl refl
    has_last (y ∷ xs) = inr (has_last xs)

    -- no name before is of a thing that has none in this row
    none_before : is_of_same a e ≡ false → shared e before ≡ []
    none_before apart = filter_none (λ z. shares e (name_read z)) before (λ z has. go z has (name_read z) refl) where
      go : (z : Row) → Has before z → (o : Option FurtherName) → name_read z ≡ o → shares e o ≡ false
      go z has None q = refl
      go z has (Some c) q = at (is_of_same c e) refl where
        at : (b : Bool) → is_of_same c e ≡ b → b ≡ false
        at false same = refl
        at true same =
            let first : name_cmp c a ≡ Less = sym (names_cmp z r c a q read) ∙ below z has in
            let second : name_cmp a e ≡ Less = sym (names_cmp r x a e read is) ∙ low r (has_last before) in
            let it : is_of_same a e ≡ true = means_same a e (between c a e (same_means c e same) first second) in
            absurd cc

    by : (b : Bool) → is_of_same a e ≡ b → cond b (suc (names_since last run a)) 0 ≡ length (shared e before ++ cond b (r ∷ []) [])
    by true same =
        let here : names_since last run a ≡ length (shared a before) = so_far r a read below in
        let there : length (shared a before) ≡ length (shared e before) = ap length (shares_as a e (same_means a e same) before) in
        let long : length (shared e before ++ r ∷ []) ≡ length (shared e before) + 1 = length-append (shared e before) (r ∷ []) in
        omega (arith, here, there, long)
    by false apart = ap (λ (l : List Row). length (l ++ [])) (sym (none_before apart))

-- ---- the operator's

-- a name by its key in the operator's names
abbrev pub name_entry : FurtherName → NameKey × List ℕ
name_entry a = (name_key a.0 a.1 a.2.language, a.2.name)

abbrev name_of_entry : NameKey × List ℕ → MoreNameRow
name_of_entry x = record { language = part_at x.0 2; name = x.1 }

module _ (e : FurtherName) where
  abbrev is_low : MoreNameRow → Bool
  is_low m = is_lt (text_cmp m.language e.2.language)

  abbrev is_its : NameKey × List ℕ → Bool
  is_its x = is_name_of e.0 e.1 x.0

  -- of these names those of the same thing in lesser languages
  abbrev pub low_names : List (NameKey × List ℕ) → List MoreNameRow
  low_names entries = filter is_low (map name_of_entry (filter is_its entries))

  -- one more row
  added : (o : Option FurtherName) (r : Row) (entries : List (NameKey × List ℕ)) (rows : List Row) → length (low_names entries) ≡ length rows
      → length (low_names (cons_option (option_map name_entry o) entries)) ≡ length (cond (precedes e o) (r ∷ rows) rows)
  added None r entries rows rest = rest
  added (Some a) r entries rows rest = of_same (is_of_same a e) where
    in_order : (c : Bool) → length (cond c (a.2 ∷ low_names entries) (low_names entries)) ≡ length (cond c (r ∷ rows) rows)
    in_order true = ap (λ (n : ℕ). suc n) rest
    in_order false = rest

    of_same : (b : Bool) → length (filter is_low (map name_of_entry (cond b (name_entry a ∷ filter is_its entries) (filter is_its entries)))) ≡ length (cond (b && is_low a.2) (r ∷ rows) rows)
    of_same true = in_order (is_low a.2)
    of_same false = rest

  pub spelled_before : (rows : List Row) → length (low_names (filter_map name_in rows)) ≡ length (filter (λ r. precedes e (name_read r)) rows)
  spelled_before [] = refl
  spelled_before (r ∷ rows) = added (name_read r) r (filter_map name_in rows) (filter (λ z. precedes e (name_read z)) rows) (spelled_before rows)
