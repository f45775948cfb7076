-- The pass over callers and keys in their order finds the least number of a row whose caller and key an earlier row has.
use Rattle.std.proofs.Common.{◌≡◌, ◌⊎◌, inl, inr, ℕ, zero, suc, List, [], ◌∷◌, ◌++◌, append_assoc, map, take, Bool, true, false, cond, ◌&&◌, Option, Some, None, refl, sym, ap, ap₂, subst, ◌∙◌, arith}
use Rattle.std.specs.Prelude.{IfSome}
use Rattle.std.specs.Cmp.{Equal-is}
use Rattle.std.specs.Ordering.{is_eq, is_lt, ordering_then, ordering_reverse}
use Rattle.std.specs.declared.cmp.Ordering.{Ordering}
use Rattle.std.specs.declared.cmp.Ordering.TheVariants.{Less, Equal, Greater}
use Rattle.std.proofs.lemmas.Bool.{true≢false}
use Rattle.std.proofs.lemmas.Cmp.{tied_itself}
use Rattle.std.proofs.lemmas.Option.{same_Some}
use Rattle.sqlite_value.specs.Order.{Row, column, value_cmp, row_cmp}
use Rattle.sqlite_value.proofs.KeyLemmas.{then_tied}
use Rattle.sqlite_value.proofs.OrderLemmas.{row_cmp_total}
use Rattle.sqlite_rules.specs.Lists.{Has}
use Rattle.bike_sql.specs.Keyed.{in_order}
use Rattle.bike_sql.specs.View.{by_key}
use Rattle.bike_sql.proofs.OrderLemmas.{Rises, all_has, rises, order_has, has_order}
use Rattle.bike_sql.proofs.RowListLemmas.{has_map, map_has}
use Rattle.bike_sql.proofs.TreeLemmas.{by_key_total}
use Rattle.bike_book.specs.Tables.{Tables, History}
use Rattle.bike_readings.specs.Rules.{AreInOrder, row_under}
use Rattle.bike_readings.proofs.Places.{has_under, under_has, same_key}
use Rattle.bike_judges.specs.Least.{least_key}
use Rattle.bike_judges.specs.Lines.{history_key_line}
use Rattle.bike_judges.specs.Verdicts.{IsFirstFailing}
use Rattle.bike_judges.proofs.ApartLines.{first_column}
use Rattle.bike_ledger_rules.specs.History.{has_same_key, number_again, least_again}
use Rattle.bike_ledger_rules.proofs.RiderFolds.{AreWide}

-- ---- the order of lines

abbrev line : Row → Row
line = history_key_line

abbrev Below : Row → Row → Type 0
Below y x = by_key 3 y x ≡ Less

-- what is below by more columns is not above by fewer
not_above : (n : ℕ) (a b : Row) → row_cmp (take (suc n) a) (take (suc n) b) ≡ Less → row_cmp (take n a) (take n b) ≡ Greater → ⊥
not_above zero a b low high = absurd cc
not_above (suc n) [] [] low high = absurd cc
not_above (suc n) [] (y ∷ b) low high = absurd cc
not_above (suc n) (x ∷ a) [] low high = absurd cc
not_above (suc n) (x ∷ a) (y ∷ b) low high = go (value_cmp x y) low high (not_above n a b) where
  go : (o : Ordering) → ordering_then o (row_cmp (take (suc n) a) (take (suc n) b)) ≡ Less → ordering_then o (row_cmp (take n a) (take n b)) ≡ Greater
      → (row_cmp (take (suc n) a) (take (suc n) b) ≡ Less → row_cmp (take n a) (take n b) ≡ Greater → ⊥) → ⊥
  go Less l h rest = absurd cc
  go Equal l h rest = rest l h
  go Greater l h rest = absurd cc

-- between two lines of one caller and key stand only such lines
between : (y l x : Row) → Below y l → Below l x → by_key 2 x y ≡ Equal → by_key 2 x l ≡ Equal
between y l x first second tie = go (by_key 2 x l) refl where
  go : (o : Ordering) → by_key 2 x l ≡ o → by_key 2 x l ≡ Equal
  go Less e =
      let high : by_key 2 l x ≡ Greater = (by_key_total 2).antisymm l x ∙ ap ordering_reverse e in
      absurd (not_above 2 l x second high)
  go Equal e = e
  go Greater e =
      let turned : by_key 2 y l ≡ by_key 2 x l = sym ((by_key_total 2).congr x y l tie) in
      absurd (not_above 2 y l first (turned ∙ e))

-- two tie where each does
pub both_tie : (p q : Ordering) → (is_eq p && is_eq q) ≡ is_eq (ordering_then p (ordering_then q Equal))
both_tie Less q = refl
both_tie Equal Less = refl
both_tie Equal Equal = refl
both_tie Equal Greater = refl
both_tie Greater q = refl

same_is : (a b : Row) → has_same_key (line a) (line b) ≡ is_eq (by_key 2 (line a) (line b))
same_is a b = both_tie (value_cmp (column a 2) (column b 2)) (value_cmp (column a 3) (column b 3))

-- where callers and keys tie, lines are in the order of their numbers
numbers_order : (p q r : Ordering) → is_eq (ordering_then p (ordering_then q Equal)) ≡ true → ordering_then p (ordering_then q (ordering_then r Equal)) ≡ ordering_then r Equal
numbers_order Less q r is = absurd cc
numbers_order Equal Less r is = absurd cc
numbers_order Equal Equal r is = refl
numbers_order Equal Greater r is = absurd cc
numbers_order Greater q r is = absurd cc

abbrev number : Row → Row
number x = column x 2 ∷ []

by_number : (x y : Row) → has_same_key (line x) (line y) ≡ true → by_key 3 (line y) (line x) ≡ row_cmp (number (line y)) (number (line x))
by_number x y is =
    numbers_order (value_cmp (column y 2) (column x 2)) (value_cmp (column y 3) (column x 3)) (value_cmp (column y 0) (column x 0)) turned
  where
    tie : by_key 2 (line x) (line y) ≡ Equal
    tie = (Equal-is (by_key 2 (line x) (line y))).0 (sym (same_is x y) ∙ is)

    turned : is_eq (by_key 2 (line y) (line x)) ≡ true
    turned = ap is_eq ((by_key_total 2).antisymm (line y) (line x) ∙ ap ordering_reverse tie)

-- ---- one more line

pub next_line : (found last : Option Row) (x : Row) (left : List Row) → least_again found last (x ∷ left) ≡ least_again (least_key found (number_again last x)) (Some x) left
unfolding least_again
next_line found last x left = refl

pub no_line : (found last : Option Row) → least_again found last [] ≡ found
unfolding least_again
no_line found last = refl

-- ---- the pass over lines

module _ (all : List Row) (up : Rises (by_key_total 3) all) (lined : (x : Row) → Has all x → (r : Row) × (x ≡ line r)) where
  -- an earlier line has the caller and key of this one
  pub record Again (x : Row) : Type 0 where
    pub earlier : Row
    pub has : Has all earlier
    pub below : by_key 3 earlier x ≡ Less
    pub same : has_same_key x earlier ≡ true

  -- among these, the least number of a line that comes again
  pub record Came (found : Option Row) (seen : List Row) : Type 0 where
    pub least : (x : Row) → Has seen x → Again x → (k : Row) × (found ≡ Some k) × (row_cmp (number x) k ≡ Less → ⊥)
    pub own : (k : Row) → found ≡ Some k → (x : Row) × Has all x × Again x × (k ≡ number x)

  -- this is the last of these
  abbrev IsLast : List Row → Option Row → Type 0
  IsLast seen None = seen ≡ []
  IsLast seen (Some l) = Has seen l × ((y : Row) → Has seen y → Below y l ⊎ (y ≡ l))

  ties : (x y : Row) → Has all x → Has all y → has_same_key x y ≡ is_eq (by_key 2 x y)
  ties x y h g = let a = lined x h in let b = lined y g in rw (a.1, b.1) (same_is a.0 b.0)

  -- ---- one more line

  has_last : (xs : List Row) (x : Row) → Has (xs ++ x ∷ []) x
  has_last [] x = inl refl
  has_last (y ∷ xs) x = inr (has_last xs x)

  has_either : (xs : List Row) (x z : Row) → Has (xs ++ x ∷ []) z → Has xs z ⊎ (z ≡ x)
  has_either [] x z (inl is) = inr is
  has_either [] x z (inr none) = elim none [ ]
  has_either (y ∷ xs) x z (inl is) = inl (inl is)
  has_either (y ∷ xs) x z (inr later) = elim (has_either xs x z later) [ inl h ↦ inl (inr h) | inr is ↦ inr is ]

  has_before : (xs : List Row) (x : Row) (rest : List Row) (y : Row) → Has xs y → Has (xs ++ x ∷ rest) y
  has_before [] x rest y h = elim h [ ]
  has_before (z ∷ xs) x rest y (inl is) = inl is
  has_before (z ∷ xs) x rest y (inr later) = inr (has_before xs x rest y later)

  -- what stands before a line is below it
  before_below : (xs : List Row) (x : Row) (rest : List Row) → Rises (by_key_total 3) (xs ++ x ∷ rest) → (y : Row) → Has xs y → Below y x
  before_below [] x rest rising y h = elim h [ ]
  before_below (z ∷ xs) x rest rising y (inl is) =
      ap (λ (w : Row). by_key 3 w x) is ∙ all_has (λ w. by_key 3 z w ≡ Less) (xs ++ x ∷ rest) x rising.0 (here xs)
    where
      here : (ws : List Row) → Has (ws ++ x ∷ rest) x
      here [] = inl refl
      here (w ∷ ws) = inr (here ws)
  before_below (z ∷ xs) x rest rising y (inr later) = before_below xs x rest rising.1 y later

  -- and what is below it stands before it
  below_before : (xs : List Row) (x : Row) (rest : List Row) → Rises (by_key_total 3) (xs ++ x ∷ rest) → (y : Row) → Has (xs ++ x ∷ rest) y → Below y x → Has xs y
  below_before [] x rest rising y (inl is) low =
      let tie : by_key 3 x x ≡ Equal = tied_itself (by_key_total 3) x in let itself : by_key 3 x x ≡ Less = ap (λ (w : Row). by_key 3 w x) (sym is) ∙ low in absurd cc
  below_before [] x rest rising y (inr later) low =
      let above : by_key 3 x y ≡ Less = all_has (λ w. by_key 3 x w ≡ Less) rest y rising.0 later in
      let back : by_key 3 y x ≡ Greater = (by_key_total 3).antisymm y x ∙ ap ordering_reverse above in
      absurd cc
  below_before (z ∷ xs) x rest rising y (inl is) low = inl is
  below_before (z ∷ xs) x rest rising y (inr later) low = inr (below_before xs x rest rising.1 y later low)

  low_least : (found : Option Row) (n : Row) → (k : Row) × (least_key found (Some n) ≡ Some k) × (row_cmp n k ≡ Less → ⊥)
  low_least None n = (n, refl, λ low. let tie = tied_itself row_cmp_total n in cc)
  low_least (Some a) n = go (is_lt (row_cmp n a)) refl where
    go : (b : Bool) → is_lt (row_cmp n a) ≡ b → (k : Row) × (cond b (Some n) (Some a) ≡ Some k) × (row_cmp n k ≡ Less → ⊥)
    go true e = (n, refl, λ low. let tie = tied_itself row_cmp_total n in cc)
    go false e = (a, refl, λ low. let t : is_lt (row_cmp n a) ≡ true = ap is_lt low in cc)

  -- what is not below a number that was found is not below the lesser of two
  kept_least : (found : Option Row) (n m : Row) → (k : Row) × (found ≡ Some k) × (row_cmp m k ≡ Less → ⊥) → (k : Row) × (least_key found (Some n) ≡ Some k) × (row_cmp m k ≡ Less → ⊥)
  kept_least None n m it = absurd (let e = it.1 in cc)
  kept_least (Some a) n m it = go (is_lt (row_cmp n a)) refl where
    same : a ≡ it.0
    same = same_Some a it.0 it.1

    far : row_cmp m a ≡ Less → ⊥
    far low = it.2 (ap (row_cmp m) (sym same) ∙ low)

    go : (b : Bool) → is_lt (row_cmp n a) ≡ b → (k : Row) × (cond b (Some n) (Some a) ≡ Some k) × (row_cmp m k ≡ Less → ⊥)
    go true e = (n, refl, λ low. far (row_cmp_total.trans m n a low (less (row_cmp n a) e)))
      where
        less : (o : Ordering) → is_lt o ≡ true → o ≡ Less
        less Less is = refl
        less Equal is = absurd cc
        less Greater is = absurd cc
    go false e = (a, refl, far)

  own_least : (found : Option Row) (n : Row) (k : Row) → least_key found (Some n) ≡ Some k → (found ≡ Some k) ⊎ (k ≡ n)
  own_least None n k is = inr (sym (same_Some n k is))
  own_least (Some a) n k is = go (is_lt (row_cmp n a)) is where
    go : (b : Bool) → cond b (Some n) (Some a) ≡ Some k → (Some a ≡ Some k) ⊎ (k ≡ n)
    go true e = inr (sym (same_Some n k e))
    go false e = inl e

  none_least : (found : Option Row) → least_key found None ≡ found
  none_least None = refl
  none_least (Some a) = refl

  one_more : (found : Option Row) (seen : List Row) (x : Row) → Has all x → Came found seen → Again x → Came (least_key found (Some (number x))) (seen ++ x ∷ [])
  one_more found seen x has came again = record {
    least = λ z h two. elim (has_either seen x z h) [
      | inl before ↦ kept_least found (number x) (number z) (came.least z before two)
      | inr is ↦ subst (λ (w : Row). (k : Row) × (least_key found (Some (number x)) ≡ Some k) × (row_cmp (number w) k ≡ Less → ⊥)) (sym is) (low_least found (number x))
    ];
    own = λ k is. elim (own_least found (number x) k is) [ inl before ↦ came.own k before | inr here ↦ (x, has, again, here) ];
  }

  none_more : (found : Option Row) (seen : List Row) (x : Row) → Came found seen → (Again x → ⊥) → Came (least_key found None) (seen ++ x ∷ [])
  none_more found seen x came not_again = subst (λ (f : Option Row). Came f (seen ++ x ∷ [])) (sym (none_least found)) (record {
    least = λ z h two. elim (has_either seen x z h) [
      | inl before ↦ came.least z before two
      | inr is ↦ absurd (not_again (subst Again is two))
    ];
    own = came.own;
  })

  pass : (seen rest : List Row) → all ≡ seen ++ rest → (last found : Option Row) → IsLast seen last → Came found seen → (v : Option Row) → least_again found last rest ≡ v → Came v (seen ++ rest)
  unfolding least_again
  pass seen [] is last found at came v e = subst (λ (f : Option Row). Came f (seen ++ [])) e (subst (Came found) (sym (nothing seen)) came) where
    nothing : (xs : List Row) → xs ++ [] ≡ xs
    nothing [] = refl
    nothing (x ∷ xs) = ap (λ (ys : List Row). x ∷ ys) (nothing xs)
  pass seen (x ∷ rest) is last found at came v e =
      subst (Came v) (append_assoc seen (x ∷ []) rest)
      (pass (seen ++ x ∷ []) rest (is ∙ sym (append_assoc seen (x ∷ []) rest)) (Some x) (least_key found (number_again last x)) now_last (now_came last at) v e)
    where
      rising : Rises (by_key_total 3) (seen ++ x ∷ rest)
      rising = subst (Rises (by_key_total 3)) is up

      here : (ws : List Row) → Has (ws ++ x ∷ rest) x
      here [] = inl refl
      here (w ∷ ws) = inr (here ws)

      has_x : Has all x
      has_x = subst (λ (ws : List Row). Has ws x) (sym is) (here seen)

      now_last : IsLast (seen ++ x ∷ []) (Some x)
      now_last = (has_last seen x, λ y h. elim (has_either seen x y h) [ inl before ↦ inl (before_below seen x rest rising y before) | inr same ↦ inr same ])

      earlier_seen : (again : Again x) → Has seen again.earlier
      earlier_seen again = below_before seen x rest rising again.earlier (subst (λ (ws : List Row). Has ws again.earlier) is again.has) again.below

      now_came : (o : Option Row) → IsLast seen o → Came (least_key found (number_again o x)) (seen ++ x ∷ [])
      now_came None none = none_more found seen x came (λ again. elim (subst (λ (ws : List Row). Has ws again.earlier) none (earlier_seen again)) [ ])
      now_came (Some l) it = go (has_same_key x l) refl where
        has_l : Has all l
        has_l = subst (λ (ws : List Row). Has ws l) (sym is) (has_before seen x rest l it.0)

        low : Below l x
        low = before_below seen x rest rising l it.0

        go : (b : Bool) → has_same_key x l ≡ b → Came (least_key found (cond b (Some (number x)) None)) (seen ++ x ∷ [])
        go true same = one_more found seen x has_x came (record { earlier = l; has = has_l; below = low; same = same })
        go false apart = none_more found seen x came (λ again. elim (it.1 again.earlier (earlier_seen again)) [
          | inl before ↦
              let tie : by_key 2 x again.earlier ≡ Equal = (Equal-is (by_key 2 x again.earlier)).0 (sym (ties x again.earlier has_x again.has) ∙ again.same) in
              let near : by_key 2 x l ≡ Equal = between again.earlier l x before low tie in
              absurd (true≢false (sym (ap is_eq near) ∙ sym (ties x l has_x has_l) ∙ apart))
          | inr same ↦ absurd (true≢false (sym again.same ∙ ap (has_same_key x) same ∙ apart))
        ])

  pub lines_came : (v : Option Row) → least_again None None all ≡ v → Came v all
  lines_came v e = pass [] all refl None None refl (record { least = λ x h again. elim h [ ]; own = λ k is. absurd cc }) v e

-- ---- the table

-- two rows have one caller and key
abbrev pub have_one_key : Row → Row → Bool
have_one_key a b = has_same_key (history_key_line a) (history_key_line b)

-- no row of a lesser number has the caller and key of the row under this number
abbrev pub IsAnew : Tables → Row → Type 0
IsAnew t key = (r other : Row) → row_under t History key ≡ Some r → Has t.history other → by_key 1 other r ≡ Less → have_one_key r other ≡ true → ⊥

module _ (t : Tables) (up : AreInOrder t) (wide : AreWide 6 t.history) where
  abbrev rows : List Row
  rows = t.history

  abbrev lines : List Row
  lines = in_order (by_key 3) (map history_key_line rows)

  key_is : (r : Row) → Has rows r → take 1 r ≡ number (line r)
  key_is r has = first_column r (let w = wide r has in omega (arith, w))

  in_number : (a b : Row) → Has rows a → Has rows b → row_cmp (number (line a)) (number (line b)) ≡ by_key 1 a b
  in_number a b h g = sym (ap₂ row_cmp (key_is a h) (key_is b g))

  apart : (a b : Row) → Has (map line rows) a → Has (map line rows) b → by_key 3 a b ≡ Equal → a ≡ b
  apart a b h g tie =
      let x = map_has line rows a h in
      let y = map_has line rows b g in
      let both : by_key 3 (line x.0) (line y.0) ≡ Equal = sym (ap₂ (by_key 3) x.2 y.2) ∙ tie in
      let first = then_tied (value_cmp (column x.0 2) (column y.0 2)) _ both in
      let second = then_tied (value_cmp (column x.0 3) (column y.0 3)) _ first.1 in
      x.2 ∙ ap line (same_key 1 rows x.0 y.0 (up History) x.1 y.1 (sym (in_number x.0 y.0 x.1 y.1) ∙ second.1)) ∙ sym y.2

  rising : Rises (by_key_total 3) lines
  rising = rises (by_key_total 3) (map line rows)

  from_row : (x : Row) → Has lines x → (r : Row) × Has rows r × (x ≡ line r)
  from_row x h = map_has line rows x (order_has (by_key_total 3) (map line rows) x h)

  lined : (x : Row) → Has lines x → (r : Row) × (x ≡ line r)
  lined x h = let it = from_row x h in (it.0, it.2)

  has_line : (r : Row) → Has rows r → Has lines (line r)
  has_line r h = has_order (by_key_total 3) (map line rows) apart (line r) (has_map line rows r h)

  -- a row whose caller and key an earlier row has
  again_row : (r other : Row) → Has rows r → Has rows other → by_key 1 other r ≡ Less → have_one_key r other ≡ true → Again lines rising lined (line r)
  again_row r other h g low same = record {
    earlier = line other;
    has = has_line other g;
    below = by_number r other same ∙ in_number other r g h ∙ low;
    same = same;
  }

  pub keys_verdict : (v : Option Row) → least_again None None lines ≡ v → IsFirstFailing t History (IsAnew t) v
  keys_verdict None e = λ key r other is has low same.
      let it = (lines_came lines rising lined None e).least (line r) (has_line r (under_has 1 key rows r is).0) (again_row r other (under_has 1 key rows r is).0 has low same) in
      let none = it.1 in
      cc
  keys_verdict (Some k) e =
      let came = lines_came lines rising lined (Some k) e in
      let own = came.own k refl in
      let from = from_row own.0 own.1 in
      let again = own.2 in
      let k_is : k ≡ take 1 from.0 = own.3 ∙ ap number from.2 ∙ sym (key_is from.0 from.1) in
      let under : row_under t History k ≡ Some from.0 = ap (row_under t History) k_is ∙ has_under 1 rows from.0 (up History) from.1 in
      record {
        bad = λ anew.
            let other = from_row again.earlier again.has in
            let same : have_one_key from.0 other.0 ≡ true = sym (ap₂ has_same_key from.2 other.2) ∙ again.same in
            let low : by_key 1 other.0 from.0 ≡ Less =
            sym (in_number other.0 from.0 other.1 from.1) ∙ sym (by_number from.0 other.0 same) ∙ sym (ap₂ (by_key 3) other.2 from.2) ∙ again.below in
            anew from.0 other.0 under other.1 low same;
        own = subst (λ (o : Option Row). IfSome o (λ row. take 1 row ≡ k)) (sym under) (sym k_is);
        before = λ key less r other is has low same.
            let at = under_has 1 key rows r is in
            let it = came.least (line r) (has_line r at.0) (again_row r other at.0 has low same) in
            let k_same : k ≡ it.0 = same_Some k it.0 it.1 in
            it.2 (ap₂ row_cmp (sym (key_is r at.0)) (sym k_same) ∙ row_cmp_total.congr (take 1 r) key k at.1 ∙ less);
      }
