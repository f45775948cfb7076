-- Rows that are read: what they spell stands in their order, and is stored as they are.
use Rattle.std.proofs.Common.{◌≡◌, inl, inr, ℕ, List, [], ◌∷◌, map, Bool, true, false, cond, ◌&&◌, T, Option, Some, None, refl, sym, ap, ap₂, subst, ◌∙◌}
use Rattle.std.specs.List.{filter_map, cons_option, AllByRecursion}
use Rattle.std.specs.Ordering.{is_lt, eq_by_cmp}
use Rattle.std.specs.declared.cmp.Ordering.{Ordering}
use Rattle.std.specs.declared.cmp.Ordering.TheVariants.{Less}
use Rattle.std.specs.Cmp.{Equal-is}
use Rattle.std.specs.FinMap as fin
use Rattle.std.specs.FinMap.{FinMap}
use Rattle.std.specs.FinMap.Entries as entries
use Rattle.sqlite_value.specs.Order.{Row, row_cmp}
use Rattle.sqlite_rules.specs.Lists.{Has}
use Rattle.bike_sql.specs.View.{by_key}
use Rattle.bike_sql.proofs.OrderLemmas.{Rises}
use Rattle.bike_sql.proofs.TreeLemmas.{by_key_total}
use Rattle.bike_book.proofs.MapRows.{StoresKeys, BeginsWithKey}

-- ---- read item by item

module _ {X Y : Type 0} (read : X → Option Y) where
  -- An item spells a value.
  pub record IsRead (xs : List X) (y : Y) : Type 0 where
    pub item : X
    pub has : Has xs item
    pub read_is : read item ≡ Some y

  one_more : (x : X) (xs : List X) (y : Y) → IsRead xs y → IsRead (x ∷ xs) y
  one_more x xs y it = record { item = it.item; has = inr it.has; read_is = it.read_is }

  pub read_of : (xs : List X) (y : Y) → Has (filter_map read xs) y → IsRead xs y
  read_of [] y has = elim has [ ]
  read_of (x ∷ xs) y has = go (read x) refl has (read_of xs y) where
    go : (o : Option Y) → read x ≡ o → Has (cons_option o (filter_map read xs)) y → (Has (filter_map read xs) y → IsRead xs y) → IsRead (x ∷ xs) y
    go None e there rest = one_more x xs y (rest there)
    go (Some z) e (inl is) rest = record { item = x; has = inl refl; read_is = e ∙ ap (λ (v : Y). Some v) (sym is) }
    go (Some z) e (inr later) rest = one_more x xs y (rest later)

  pub has_read : (xs : List X) (x : X) (y : Y) → Has xs x → read x ≡ Some y → Has (filter_map read xs) y
  has_read [] x y has is = elim has [ ]
  has_read (z ∷ xs) x y (inl same) is =
      let here : read z ≡ Some y = ap read (sym same) ∙ is in
      ap_has (filter_map read xs) (read z) here
    where
      ap_has : (ys : List Y) (o : Option Y) → o ≡ Some y → Has (cons_option o ys) y
      ap_has ys None e = absurd cc
      ap_has ys (Some v) e = inl cc
  has_read (z ∷ xs) x y (inr later) is = go (read z) (has_read xs x y later is) where
    go : (o : Option Y) → Has (filter_map read xs) y → Has (cons_option o (filter_map read xs)) y
    go None rest = rest
    go (Some v) rest = inr rest

  module _ (store : Y → X) where
    -- what is stored is read as it was
    pub stored_read : (ys : List Y) → ((y : Y) → Has ys y → read (store y) ≡ Some y) → filter_map read (map store ys) ≡ ys
    stored_read [] back = refl
    stored_read (y ∷ ys) back =
        ap (λ (o : Option Y). cons_option o (filter_map read (map store ys))) (back y (inl refl)) ∙ ap (λ (zs : List Y). y ∷ zs) (stored_read ys (λ z has. back z (inr has)))

    -- The item spells a value that is stored as this item.
    pub record IsStored (x : X) : Type 0 where
      pub value : Y
      pub read_is : read x ≡ Some value
      pub store_is : x ≡ store value

    -- what is read is stored as it stood
    pub read_stored : (xs : List X) → ((x : X) → Has xs x → IsStored x) → map store (filter_map read xs) ≡ xs
    read_stored [] each = refl
    read_stored (x ∷ xs) each =
        let it = each x (inl refl) in
        ap (λ (o : Option Y). map store (cons_option o (filter_map read xs))) it.read_is
        ∙ ap₂ (λ (z : X) (zs : List X). z ∷ zs) (sym it.store_is) (read_stored xs (λ z has. each z (inr has)))

-- ---- entries of a map

from_t : (b : Bool) → b ≡ true → T b
from_t true e = tt
from_t false e = absurd cc

both_t : (a b : Bool) → T a → T b → T (a && b)
both_t true b s t = t
both_t false b s t = s

module _ {K X : Type 0} {R : K → K → Ordering} {keys : ℕ} {key_row : K → Row} {IsGood : K → Type 0} (h : StoresKeys R keys key_row IsGood) where
  pub find_has : (k : K) (v : X) (es : List (K × X)) → entries.find R k es ≡ Some v → Has es (k, v)
  find_has k v [] found = absurd cc
  find_has k v (e ∷ es) found = go (eq_by_cmp R k e.0) refl found (find_has k v es) where
    go : (b : Bool) → eq_by_cmp R k e.0 ≡ b → cond b (Some e.1) (entries.find R k es) ≡ Some v → (entries.find R k es ≡ Some v → Has es (k, v)) → Has (e ∷ es) (k, v)
    go true tie is rest =
        let key : k ≡ e.0 = h.same k e.0 ((Equal-is (R k e.0)).0 tie) in
        let value : e.1 ≡ v = cc in
        inl (ap₂ (λ (x : K) (y : X). (x, y)) key (sym value))
    go false apart is rest = inr (rest is)

  module _ (row : K × X → Row) (begins : BeginsWithKey h row) where
    below : (x : K × X) (es : List (K × X)) → IsGood x.0 → ((e : K × X) → Has es e → IsGood e.0) → AllByRecursion (λ y. by_key keys (row x) y ≡ Less) (map row es) → T (entries.below_all R x.0 es)
    below x [] here good up = tt
    below x (e ∷ es) here good up =
        let low : R x.0 e.0 ≡ Less = sym (h.compares x.0 e.0 here (good e (inl refl))) ∙ sym (ap₂ row_cmp (begins x) (begins e)) ∙ up.0 in
        both_t (is_lt (R x.0 e.0)) (entries.below_all R x.0 es) (from_t (is_lt (R x.0 e.0)) (ap is_lt low)) (below x es here (λ z has. good z (inr has)) up.1)

    pub are_sorted : (es : List (K × X)) → ((e : K × X) → Has es e → IsGood e.0) → Rises (by_key_total keys) (map row es) → T (entries.is_sorted R es)
    are_sorted [] good up = tt
    are_sorted (e ∷ es) good up =
        both_t (entries.below_all R e.0 es) (entries.is_sorted R es) (below e es (good e (inl refl)) (λ z has. good z (inr has)) up.0) (are_sorted es (λ z has. good z (inr has)) up.1)

    -- The rows are those of a map, each under its key.
    pub record AreRowsOf (read : Row → Option (K × X)) (rows : List Row) (m : FinMap R X) : Type 0 where
      pub rows_are : rows ≡ map row (fin.entries m)
      pub entries_are : fin.entries m ≡ filter_map read rows
      pub found : (k : K) (v : X) → fin.get m k ≡ Some v → IsRead read rows (k, v)

    -- rows in the order of their keys, each of which spells an entry that is stored as it, are those of the map of these entries
    pub read_map : (read : Row → Option (K × X)) (rows : List Row) → Rises (by_key_total keys) rows → ((r : Row) → Has rows r → IsStored read row r)
        → ((r : Row) (e : K × X) → Has rows r → read r ≡ Some e → IsGood e.0) → AreRowsOf read rows (fin.from_sorted (filter_map read rows))
    read_map read rows up stored good =
        let es = filter_map read rows in
        let same : map row es ≡ rows = read_stored read row rows stored in
        let each : (e : K × X) → Has es e → IsGood e.0 = λ e has. let it = read_of read rows e has in good it.item e it.has it.read_is in
        let sorted = are_sorted es each (subst (Rises (by_key_total keys)) (sym same) up) in
        let listed : fin.entries (fin.from_sorted {R = R} es) ≡ es = fin.entries-from_sorted R es sorted in
        record {
          rows_are = sym same ∙ ap (map row) (sym listed);
          entries_are = listed;
          found = λ k v is. read_of read rows (k, v) (find_has k v es (sym (fin.get-from_sorted R es k sorted) ∙ is));
        }

  -- a map is that of its entries
  pub same_map : (m : FinMap R X) (es : List (K × X)) → es ≡ fin.entries m → fin.from_sorted es ≡ m
  same_map m es is =
      let sorted : T (entries.is_sorted R es) = subst (λ xs. T (entries.is_sorted R xs)) (sym is) (fin.entries_sorted m) in
      fin.same_entries_map (fin.from_sorted es) m (fin.entries-from_sorted R es sorted ∙ is)
