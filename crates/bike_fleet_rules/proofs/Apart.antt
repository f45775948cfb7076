-- Lines of heads and of what belongs to them have keys of their own.
use Rattle.std.proofs.Common.{◌≡◌, inl, inr, ℕ, suc, List, [], ◌∷◌, ◌++◌, map, pos, Bool, false, refl, sym, ap, ◌∙◌, arith}
use Rattle.std.specs.Prelude.{take}
use Rattle.std.specs.List.{AllByRecursion, IsDistinct}
use Rattle.std.specs.Ordering.{is_eq, ordering_then, eq_by_cmp}
use Rattle.std.specs.declared.cmp.Ordering.{Ordering}
use Rattle.std.specs.declared.cmp.Ordering.TheVariants.{Less, Equal, Greater}
use Rattle.sqlite_value.specs.declared.value.Value.{Value}
use Rattle.sqlite_value.specs.declared.value.Value.TheVariants.{Int}
use Rattle.sqlite_value.specs.Order.{Row, column, value_cmp, row_cmp}
use Rattle.sqlite_value.proofs.OrderLemmas.{then-Equal}
use Rattle.bike_book.proofs.Keys.{value_cmp-number_value}
use Rattle.std.specs.Cmp.{nat_cmp_is}
use Rattle.sqlite_rules.specs.Lists.{Has}
use Rattle.bike_sql.specs.View.{by_key}
use Rattle.bike_sql.proofs.OrderLemmas.{Rises, all_has, all_from}
use Rattle.bike_sql.proofs.TreeLemmas.{by_key_total}
use Rattle.bike_sql.proofs.RowListLemmas.{map_has}
use Rattle.bike_sql.proofs.SortLemmas.{AreApartAll}
use Rattle.bike_judges.specs.Lines.{line, head}

-- rows begin with a key of one column
abbrev pub BeginWithOne : List Row → Type 0
BeginWithOne rows = (row : Row) → Has rows row → take 1 row ≡ column row 0 ∷ []

module _ {X : Type 0} (eq : X → X → Bool) where
  all_append : (x : X) (xs ys : List X) → AllByRecursion (λ y. eq x y ≡ false) xs → AllByRecursion (λ y. eq x y ≡ false) ys → AllByRecursion (λ y. eq x y ≡ false) (xs ++ ys)
  all_append x [] ys a b = b
  all_append x (z ∷ xs) ys a b = (a.0, all_append x xs ys a.1 b)

  distinct_append : (xs ys : List X) → IsDistinct eq xs → IsDistinct eq ys → ((x y : X) → Has xs x → Has ys y → eq x y ≡ false) → IsDistinct eq (xs ++ ys)
  unfolding IsDistinct
  distinct_append [] ys a b apart = b
  distinct_append (x ∷ xs) ys a b apart =
      (all_append x xs ys a.0 (all_from (λ y. eq x y ≡ false) ys (λ y h. apart x y (inl refl) h)), distinct_append xs ys a.1 b (λ z y h k. apart z y (inr h) k))

module _ (keys : ℕ) (f : Row → Row) where
  -- lines of rows in their order
  distinct_lines : (rows : List Row) → Rises (by_key_total 1) rows → BeginWithOne rows → ((r s : Row) → value_cmp (column r 0) (column s 0) ≡ Less → is_eq (by_key keys (f r) (f s)) ≡ false)
      → IsDistinct (eq_by_cmp (by_key keys)) (map f rows)
  unfolding IsDistinct
  distinct_lines [] up one apart = tt
  distinct_lines (r ∷ rows) up one apart = (all_from (λ y. eq_by_cmp (by_key keys) (f r) y ≡ false) (map f rows) each, distinct_lines rows up.1 (λ s h. one s (inr h)) apart) where
    each : (y : Row) → Has (map f rows) y → eq_by_cmp (by_key keys) (f r) y ≡ false
    each y h =
        let it = map_has f rows y h in
        let low : by_key 1 r it.0 ≡ Less = all_has (λ s. by_key 1 r s ≡ Less) rows it.0 up.0 it.1 in
        let cmp : value_cmp (column r 0) (column it.0 0) ≡ Less =
        sym (then-Equal (value_cmp (column r 0) (column it.0 0))) ∙ sym (ap (λ (a : Row). row_cmp a (column it.0 0 ∷ [])) (one r (inl refl)) ∙ refl)
        ∙ sym (ap (row_cmp (take 1 r)) (one it.0 (inr it.1))) ∙ low in
        ap (λ (z : Row). eq_by_cmp (by_key keys) (f r) z) it.2 ∙ apart r it.0 cmp

-- ---- heads and items

not_less : (a b : Ordering) → a ≡ Less → is_eq (ordering_then a b) ≡ false
not_less a b e = ap (λ (o : Ordering). is_eq (ordering_then o b)) e

-- an owner's order decides before what comes later
later_less : (a b c : Ordering) → b ≡ Less → is_eq (ordering_then a (ordering_then b c)) ≡ false
later_less Less b c e = refl
later_less Equal b c e = not_less b c e
later_less Greater b c e = refl

last_less : (a b c d : Ordering) → c ≡ Less → is_eq (ordering_then a (ordering_then b (ordering_then c d))) ≡ false
last_less Less b c d e = refl
last_less Equal b c d e = later_less b c d e
last_less Greater b c d e = refl

heads_apart : (spare : ℕ) (rows : List Row) → Rises (by_key_total 1) rows → BeginWithOne rows → IsDistinct (eq_by_cmp (by_key 3)) (map (head spare) rows)
heads_apart spare rows up one =
    distinct_lines 3 (head spare) rows up one (λ r s low.
    not_less (value_cmp (column r 0) (column s 0)) (ordering_then (value_cmp (Int (pos 0)) (Int (pos 0))) (ordering_then (value_cmp (Int (pos 0)) (Int (pos 0))) Equal)) low)

module _ (spare place : ℕ) (owner : Row → Value) where
  abbrev item : Row → Row
  item row = line (owner row) (pos (suc place)) (column row 0) spare row

  items_apart : (rows : List Row) → Rises (by_key_total 1) rows → BeginWithOne rows → IsDistinct (eq_by_cmp (by_key 3)) (map item rows)
  items_apart rows up one =
      distinct_lines 3 item rows up one (λ r s low.
      last_less (value_cmp (owner r) (owner s)) (value_cmp (Int (pos (suc place))) (Int (pos (suc place)))) (value_cmp (column r 0) (column s 0)) Equal low)

  -- THE LINES of two tables are apart
  pub lines_apart : (wide : ℕ) (heads items : List Row) → Rises (by_key_total 1) heads → Rises (by_key_total 1) items → BeginWithOne heads → BeginWithOne items
      → AreApartAll (by_key_total 3) (map (head wide) heads ++ map item items)
  lines_apart wide heads items up down one other =
      distinct_append (eq_by_cmp (by_key 3)) (map (head wide) heads) (map item items) (heads_apart wide heads up one) (items_apart items down other) (λ x y h k.
      let a = map_has (head wide) heads x h in
      let b = map_has item items y k in
      let low : value_cmp (Int (pos 0)) (Int (pos (suc place))) ≡ Less = value_cmp-number_value 0 (suc place) ∙ sym (nat_cmp_is 0 (suc place) Less (omega arith)) in
      ap (λ (z : Row). eq_by_cmp (by_key 3) z y) a.2 ∙ ap (eq_by_cmp (by_key 3) (head wide a.0)) b.2
      ∙ later_less (value_cmp (column a.0 0) (owner b.0)) (value_cmp (Int (pos 0)) (Int (pos (suc place)))) (ordering_then (value_cmp (Int (pos 0)) (column b.0 0)) Equal) low)
