-- Entries in the order of their keys, as rows: the row found under a key, a row added, and columns set in the row of a key.
use Rattle.std.proofs.Common.{◌≡◌, inl, inr, ℕ, List, [], ◌∷◌, Bool, true, false, cond, T, Option, Some, None, refl, sym, ap, ap₂, ◌∙◌}
use Rattle.std.specs.Prelude.{map, filter, take, not, ◌&&◌, option_map, unwrap_or}
use Rattle.std.specs.Ordering.{is_eq, is_lt, eq_by_cmp, ordering_reverse}
use Rattle.std.specs.declared.cmp.Ordering.{Ordering}
use Rattle.std.specs.declared.cmp.Ordering.TheVariants.{Less, Equal, Greater}
use Rattle.std.specs.Cmp.{IsTotalOrder, eq_by_cmp_equiv, Equal-is}
use Rattle.std.specs.FinMap as fin
use Rattle.std.specs.FinMap.{FinMap, IsAntisymmetric}
use Rattle.std.specs.FinMap.Entries as entries
use Rattle.sqlite_value.specs.Order.{Row, row_cmp}
use Rattle.sqlite_rules.specs.Lists.{Has}
use Rattle.bike_sql.specs.View.{by_key, row_with, put_row_by, rows_after_update, rows_after_removal}
use Rattle.bike_operator.specs.Steps.{found_changed, key_changed}

pub both : (a b : Bool) → T (a && b) → T a × T b
both true true t = (tt, tt)
both true false t = absurd t
both false b t = absurd t

less_is : (r : Ordering) → T (is_lt r) → r ≡ Less
less_is Less t = refl
less_is Equal t = absurd t
less_is Greater t = absurd t

not_less : (r : Ordering) → r ≡ Less → is_eq r ≡ false
not_less r e = ap is_eq e

not_greater : (r : Ordering) → r ≡ Greater → is_eq r ≡ false
not_greater r e = ap is_eq e

reversed_eq : (r : Ordering) → is_eq (ordering_reverse r) ≡ is_eq r
reversed_eq Less = refl
reversed_eq Equal = refl
reversed_eq Greater = refl

-- ---- members of sorted entries

module _ {K X : Type 0} {R : K → K → Ordering} (total : IsTotalOrder R) where
  pub below_has : (k : K) (es : List (K × X)) (e : K × X) → T (entries.below_all R k es) → Has es e → R k e.0 ≡ Less
  below_has k [] e h has = elim has [ ]
  below_has k (x ∷ es) e h (inl is) = ap (λ (z : K × X). R k z.0) is ∙ less_is (R k x.0) (both (is_lt (R k x.0)) (entries.below_all R k es) h).0
  below_has k (x ∷ es) e h (inr later) = below_has k es e (both (is_lt (R k x.0)) (entries.below_all R k es) h).1 later

  pub has_find : (es : List (K × X)) (e : K × X) → T (entries.is_sorted R es) → Has es e → entries.find R e.0 es ≡ Some e.1
  has_find [] e h has = elim has [ ]
  has_find (x ∷ es) e h (inl is) =
      let tie : eq_by_cmp R e.0 x.0 ≡ true = ap (λ (z : K × X). eq_by_cmp R e.0 z.0) (sym is) ∙ (eq_by_cmp_equiv total).refl e.0 in
      ap (λ (b : Bool). cond b (Some x.1) (entries.find R e.0 es)) tie ∙ ap (λ (z : K × X). Some z.1) (sym is)
  has_find (x ∷ es) e h (inr later) =
      let parts = both (entries.below_all R x.0 es) (entries.is_sorted R es) h in
      let below : R x.0 e.0 ≡ Less = below_has x.0 es e parts.0 later in
      let apart : eq_by_cmp R e.0 x.0 ≡ false = (eq_by_cmp_equiv total).symm e.0 x.0 ∙ not_less (R x.0 e.0) below in
      ap (λ (b : Bool). cond b (Some x.1) (entries.find R e.0 es)) apart ∙ has_find es e parts.1 later

  -- an entry of a map is what is found under its key
  pub has_get : (m : FinMap R X) (e : K × X) → Has (fin.entries m) e → fin.get m e.0 ≡ Some e.1
  has_get m e has = fin.get-entries m e.0 ∙ has_find (fin.entries m) e (fin.entries_sorted m) has

-- where nothing is found under a key, each entry has another
module _ {K X : Type 0} (R : K → K → Ordering) (k : K) where
  none_apart : (es : List (K × X)) (e : K × X) → entries.find R k es ≡ None → Has es e → eq_by_cmp R k e.0 ≡ false
  none_apart [] e none has = elim has [ ]
  none_apart (x ∷ es) e none has = go (eq_by_cmp R k x.0) refl none has (none_apart es e) where
    go : (b : Bool) → eq_by_cmp R k x.0 ≡ b → cond b (Some x.1) (entries.find R k es) ≡ None → Has (x ∷ es) e → (entries.find R k es ≡ None → Has es e → eq_by_cmp R k e.0 ≡ false)
        → eq_by_cmp R k e.0 ≡ false
    go true tie found has rest = absurd cc
    go false apart found (inl is) rest = ap (λ (z : K × X). eq_by_cmp R k z.0) is ∙ apart
    go false apart found (inr later) rest = rest found later

-- The keys are stored in the first columns, and in their order, in which only equal keys tie.
pub record StoresKeys {K : Type 0} (R : K → K → Ordering) (keys : ℕ) (key_row : K → Row) (IsGood : K → Type 0) : Type 0 where
  pub total : IsTotalOrder R
  pub same : IsAntisymmetric R
  pub compares : (a b : K) → IsGood a → IsGood b → row_cmp (key_row a) (key_row b) ≡ R a b

module _ {K X : Type 0} {R : K → K → Ordering} {keys : ℕ} {key_row : K → Row} {IsGood : K → Type 0} (h : StoresKeys R keys key_row IsGood) where
  -- a row of an entry begins with its key
  abbrev pub BeginsWithKey : (K × X → Row) → Type 0
  BeginsWithKey row = (e : K × X) → take keys (row e) ≡ key_row e.0

  -- the rows of the entries with other keys are the same
  abbrev pub SameApart : K → (K × X → Row) → (K × X → Row) → List (K × X) → Type 0
  SameApart k row next es = (e : K × X) → Has es e → IsGood e.0 × (eq_by_cmp R k e.0 ≡ false → row e ≡ next e)

  pub same_rows : (row next : K × X → Row) (es : List (K × X)) → ((e : K × X) → Has es e → row e ≡ next e) → map row es ≡ map next es
  same_rows row next [] same = refl
  same_rows row next (e ∷ es) same = ap₂ (λ (x : Row) (xs : List Row). x ∷ xs) (same e (inl refl)) (same_rows row next es (λ x has. same x (inr has)))

  -- a row has the key of its entry alone
  tested_key : (row : K × X → Row) → BeginsWithKey row → (k : K) → IsGood k → (e : K × X) → IsGood e.0 → is_eq (row_cmp (take keys (row e)) (key_row k)) ≡ eq_by_cmp R k e.0
  tested_key row begins k good e its =
      ap (λ (c : Row). is_eq (row_cmp c (key_row k))) (begins e) ∙ ap is_eq (h.compares e.0 k its good ∙ h.total.antisymm e.0 k) ∙ reversed_eq (R k e.0)

  -- ---- a row found

  pub found_sorted : (row : K × X → Row) → BeginsWithKey row → (k : K) → IsGood k → (es : List (K × X)) → ((e : K × X) → Has es e → IsGood e.0)
      → row_with keys (key_row k) (map row es) ≡ option_map (λ v. row (k, v)) (entries.find R k es)
  found_sorted row begins k good [] each = refl
  found_sorted row begins k good (e ∷ es) each = go (found_sorted row begins k good es (λ x has. each x (inr has))) (eq_by_cmp R k e.0) refl where
    tested : is_eq (row_cmp (take keys (row e)) (key_row k)) ≡ eq_by_cmp R k e.0
    tested = tested_key row begins k good e (each e (inl refl))

    go : row_with keys (key_row k) (map row es) ≡ option_map (λ v. row (k, v)) (entries.find R k es) → (b : Bool) → eq_by_cmp R k e.0 ≡ b
        → cond (is_eq (row_cmp (take keys (row e)) (key_row k))) (Some (row e)) (row_with keys (key_row k) (map row es))
        ≡ option_map (λ v. row (k, v)) (cond b (Some e.1) (entries.find R k es))
    go later true is = let t = tested ∙ is in let key : k ≡ e.0 = h.same k e.0 ((Equal-is (R k e.0)).0 is) in rw t (ap (λ (x : K). Some (row (x, e.1))) (sym key))
    go later false is = let t = tested ∙ is in rw t later

  -- ---- a row added, or put in place of the one of its key

  pub put_sorted : (row next : K × X → Row) → BeginsWithKey row → BeginsWithKey next → (k : K) (v : X) → IsGood k → (es : List (K × X)) → T (entries.is_sorted R es)
      → SameApart k row next es → put_row_by keys (next (k, v)) (map row es) ≡ map next (entries.put R k v es)
  put_sorted row next begins begins_next k v good [] sorted each = refl
  put_sorted row next begins begins_next k v good (e ∷ es) sorted each =
      let parts = both (entries.below_all R e.0 es) (entries.is_sorted R es) sorted in
      go parts.0 (put_sorted row next begins begins_next k v good es parts.1 (λ x has. each x (inr has))) (R k e.0) refl
    where
      order : (r : Ordering) → R k e.0 ≡ r → by_key keys (row e) (next (k, v)) ≡ ordering_reverse r
      order r is = ap₂ row_cmp (begins e) (begins_next (k, v)) ∙ h.compares e.0 k (each e (inl refl)).0 good ∙ h.total.antisymm e.0 k ∙ ap ordering_reverse is

      -- what comes later is above the key
      above : T (entries.below_all R e.0 es) → R k e.0 ≡ Less → (x : K × X) → Has es x → R k x.0 ≡ Less
      above below less x has = h.total.trans k e.0 x.0 less (below_has h.total e.0 es x below has)

      go : T (entries.below_all R e.0 es) → put_row_by keys (next (k, v)) (map row es) ≡ map next (entries.put R k v es) → (r : Ordering) → R k e.0 ≡ r
          → put_row_by keys (next (k, v)) (row e ∷ map row es) ≡ map next (entries.by_order r ((k, v) ∷ e ∷ es) ((e.0, v) ∷ es) (e ∷ entries.put R k v es))
      go below later Less is =
          let o : by_key keys (row e) (next (k, v)) ≡ Greater = order Less is in
          let first : row e ≡ next e = (each e (inl refl)).1 (not_less (R k e.0) is) in
          let rest : map row es ≡ map next es = same_rows row next es (λ x has. (each x (inr has)).1 (not_less (R k x.0) (above below is x has))) in
          rw o (ap₂ (λ (x : Row) (xs : List Row). next (k, v) ∷ x ∷ xs) first rest)
      go below later Equal is =
          let o : by_key keys (row e) (next (k, v)) ≡ Equal = order Equal is in
          let key : k ≡ e.0 = h.same k e.0 is in
          let rest : map row es ≡ map next es =
          same_rows row next es (λ x has. (each x (inr has)).1 (not_less (R k x.0) (ap (λ (z : K). R z x.0) key ∙ below_has h.total e.0 es x below has))) in
          rw o (ap₂ (λ (z : K) (xs : List Row). next (z, v) ∷ xs) key rest)
      go below later Greater is =
          let o : by_key keys (row e) (next (k, v)) ≡ Less = order Greater is in
          let first : row e ≡ next e = (each e (inl refl)).1 (not_greater (R k e.0) is) in
          rw o (ap₂ (λ (x : Row) (xs : List Row). x ∷ xs) first later)

  -- ---- columns set

  -- in the row of a key that is there
  pub set_sorted : (row next : K × X → Row) → BeginsWithKey row → BeginsWithKey next → (k : K) → IsGood k → (change : Row → Row) (es : List (K × X)) → T (entries.is_sorted R es)
      → (v w : X) → entries.find R k es ≡ Some v → change (row (k, v)) ≡ next (k, w) → SameApart k row next es
      → rows_after_update keys (key_row k) change (map row es) ≡ map next (entries.put R k w es)
  set_sorted row next begins begins_next k good change es sorted v w found is each =
      let there : row_with keys (key_row k) (map row es) ≡ Some (row (k, v)) =
      found_sorted row begins k good es (λ e has. (each e has).0) ∙ ap (option_map (λ x. row (k, x))) found in
      ap (λ (o : Option Row). unwrap_or (option_map (λ r. put_row_by keys (change r) (map row es)) o) (map row es)) there
      ∙ ap (λ (r : Row). put_row_by keys r (map row es)) is ∙ put_sorted row next begins begins_next k w good es sorted each

  -- and no row of a key that isn't
  pub unset_sorted : (row next : K × X → Row) → BeginsWithKey row → (k : K) → IsGood k → (change : Row → Row) (es : List (K × X))
      → entries.find R k es ≡ None → SameApart k row next es → rows_after_update keys (key_row k) change (map row es) ≡ map next es
  unset_sorted row next begins k good change es none each =
      let there : row_with keys (key_row k) (map row es) ≡ None =
      found_sorted row begins k good es (λ e has. (each e has).0) ∙ ap (option_map (λ x. row (k, x))) none in
      ap (λ (o : Option Row). unwrap_or (option_map (λ r. put_row_by keys (change r) (map row es)) o) (map row es)) there
      ∙ same_rows row next es (λ e has. (each e has).1 (none_apart R k es e none has))

  -- ---- a row removed

  removed_sorted : (row : K × X → Row) → BeginsWithKey row → (k : K) → IsGood k → (es : List (K × X)) → ((e : K × X) → Has es e → IsGood e.0)
      → rows_after_removal keys (key_row k) (map row es) ≡ map row (filter (λ e. not (eq_by_cmp R k e.0)) es)
  removed_sorted row begins k good [] each = refl
  removed_sorted row begins k good (e ∷ es) each =
      go (is_eq (row_cmp (take keys (row e)) (key_row k))) (eq_by_cmp R k e.0) (tested_key row begins k good e (each e (inl refl)))
      (removed_sorted row begins k good es (λ x has. each x (inr has)))
    where
      go : (a b : Bool) → a ≡ b → rows_after_removal keys (key_row k) (map row es) ≡ map row (filter (λ x. not (eq_by_cmp R k x.0)) es)
          → cond (not a) (row e ∷ rows_after_removal keys (key_row k) (map row es)) (rows_after_removal keys (key_row k) (map row es))
          ≡ map row (cond (not b) (e ∷ filter (λ x. not (eq_by_cmp R k x.0)) es) (filter (λ x. not (eq_by_cmp R k x.0)) es))
      go true true same later = later
      go false false same later = ap (λ (rows : List Row). row e ∷ rows) later
      go true false same later = absurd cc
      go false true same later = absurd cc

  -- ---- the same of a map

  -- its keys can be stored, and the rows of other keys are the same
  abbrev pub SameOthers : K → (K × X → Row) → (K × X → Row) → FinMap R X → Type 0
  SameOthers k row next m = (q : K) (y : X) → fin.get m q ≡ Some y → IsGood q × (eq_by_cmp R k q ≡ false → row (q, y) ≡ next (q, y))

  others_apart : (k : K) (row next : K × X → Row) (m : FinMap R X) → SameOthers k row next m → SameApart k row next (fin.entries m)
  others_apart k row next m each e has = each e.0 e.1 (has_get h.total m e has)

  pub found_entries : (row : K × X → Row) → BeginsWithKey row → (k : K) → IsGood k → (m : FinMap R X) → ((q : K) (y : X) → fin.get m q ≡ Some y → IsGood q)
      → row_with keys (key_row k) (map row (fin.entries m)) ≡ option_map (λ v. row (k, v)) (fin.get m k)
  found_entries row begins k good m each =
      found_sorted row begins k good (fin.entries m) (λ e has. each e.0 e.1 (has_get h.total m e has)) ∙ ap (option_map (λ v. row (k, v))) (sym (fin.get-entries m k))

  pub same_entries : (row next : K × X → Row) (m : FinMap R X) → ((q : K) (y : X) → fin.get m q ≡ Some y → row (q, y) ≡ next (q, y)) → map row (fin.entries m) ≡ map next (fin.entries m)
  same_entries row next m each = same_rows row next (fin.entries m) (λ e has. each e.0 e.1 (has_get h.total m e has))

  pub put_entries : (row next : K × X → Row) → BeginsWithKey row → BeginsWithKey next → (m : FinMap R X) (k : K) (v : X) → IsGood k → SameOthers k row next m
      → put_row_by keys (next (k, v)) (map row (fin.entries m)) ≡ map next (fin.entries (fin.insert m k v))
  put_entries row next begins begins_next m k v good each =
      put_sorted row next begins begins_next k v good (fin.entries m) (fin.entries_sorted m) (others_apart k row next m each) ∙ ap (map next) (sym (fin.entries-insert h.total m k v))

  entries_removed : (m : FinMap R X) (k : K) → fin.entries (fin.remove m k) ≡ filter (λ e. not (eq_by_cmp R k e.0)) (fin.entries m)
  entries_removed m k =
      let sorted = entries.is_sorted-where_key R stays (fin.entries m) (fin.entries_sorted m) in
      ap fin.entries (fin.same_map h.total h.same (fin.remove m k) (fin.from_sorted left) (λ q. fin.get-remove h.total m k q ∙ found q ∙ sym (fin.get-from_sorted R left q sorted)))
      ∙ fin.entries-from_sorted R left sorted
    where
      stays : K → Bool
      stays x = not (eq_by_cmp R k x)

      left : List (K × X)
      left = filter (λ e. stays e.0) (fin.entries m)

      turned : (b : Bool) (o : Option X) → cond b None o ≡ cond (not b) o None
      turned true o = refl
      turned false o = refl

      found : (q : K) → cond (eq_by_cmp R q k) None (fin.get m q) ≡ entries.find R q left
      found q =
          ap (λ (b : Bool). cond b None (fin.get m q)) ((eq_by_cmp_equiv h.total).symm q k) ∙ turned (eq_by_cmp R k q) (fin.get m q)
          ∙ ap (λ (o : Option X). cond (stays q) o None) (fin.get-entries m q)
          ∙ sym (entries.find-where_key R stays q (λ x tie. ap stays (sym (h.same q x tie))) (fin.entries m))

  -- a record is removed, where it is there, and so is its row
  pub removed_entries : (row : K × X → Row) → BeginsWithKey row → (m : FinMap R X) (k : K) → IsGood k → ((q : K) (y : X) → fin.get m q ≡ Some y → IsGood q)
      → rows_after_removal keys (key_row k) (map row (fin.entries m)) ≡ map row (fin.entries (fin.remove m k))
  removed_entries row begins m k good each =
      removed_sorted row begins k good (fin.entries m) (λ e has. each e.0 e.1 (has_get h.total m e has)) ∙ ap (map row) (sym (entries_removed m k))

  -- columns are set in the row of a record that is there
  pub set_entries : (row next : K × X → Row) → BeginsWithKey row → BeginsWithKey next → (m : FinMap R X) (k : K) → IsGood k → (change : Row → Row) (v w : X)
      → fin.get m k ≡ Some v → change (row (k, v)) ≡ next (k, w) → SameOthers k row next m
      → rows_after_update keys (key_row k) change (map row (fin.entries m)) ≡ map next (fin.entries (fin.insert m k w))
  set_entries row next begins begins_next m k good change v w found is each =
      set_sorted row next begins begins_next k good change (fin.entries m) (fin.entries_sorted m) v w (sym (fin.get-entries m k) ∙ found) is (others_apart k row next m each)
      ∙ ap (map next) (sym (fin.entries-insert h.total m k w))

  -- and the rows are the same where none is there
  pub unset_entries : (row next : K × X → Row) → BeginsWithKey row → (m : FinMap R X) (k : K) → IsGood k → (change : Row → Row)
      → fin.get m k ≡ None → SameOthers k row next m → rows_after_update keys (key_row k) change (map row (fin.entries m)) ≡ map next (fin.entries m)
  unset_entries row next begins m k good change none each =
      unset_sorted row next begins k good change (fin.entries m) (sym (fin.get-entries m k) ∙ none) (others_apart k row next m each)

  -- A record is changed where it is there, and so is its row.
  pub changed_entries : (row next : K × X → Row) → BeginsWithKey row → BeginsWithKey next → (m : FinMap R X) (k : K) → IsGood k → (change : Row → Row) (f : X → X)
      → ((v : X) → fin.get m k ≡ Some v → change (row (k, v)) ≡ next (k, f v)) → SameOthers k row next m
      → rows_after_update keys (key_row k) change (map row (fin.entries m)) ≡ map next (fin.entries (key_changed m k f))
  changed_entries row next begins begins_next m k good change f is each = go (fin.get m k) refl where
    go : (o : Option X) → fin.get m k ≡ o → rows_after_update keys (key_row k) change (map row (fin.entries m)) ≡ map next (fin.entries (found_changed m k f o))
    go None none = unset_entries row next begins m k good change none each
    go (Some v) found = set_entries row next begins begins_next m k good change v (f v) found (is v found) each

  -- what is put under a key where it is already
  inserted_same : (m : FinMap R X) (k : K) (v : X) → fin.get m k ≡ Some v → fin.insert m k v ≡ m
  inserted_same m k v found = fin.same_map h.total h.same (fin.insert m k v) m (λ q. fin.get-insert h.total m k v q ∙ go q (eq_by_cmp R q k) refl) where
    go : (q : K) (b : Bool) → eq_by_cmp R q k ≡ b → cond b (Some v) (fin.get m q) ≡ fin.get m q
    go q true tie = let key : q ≡ k = h.same q k ((Equal-is (R q k)).0 tie) in sym (ap (fin.get m) key ∙ found)
    go q false apart = refl

  -- The map stays, and what is stored beside the record of one key changes.
  pub kept_entries : (row next : K × X → Row) → BeginsWithKey row → BeginsWithKey next → (m : FinMap R X) (k : K) → IsGood k → (change : Row → Row)
      → ((v : X) → fin.get m k ≡ Some v → change (row (k, v)) ≡ next (k, v)) → SameOthers k row next m
      → rows_after_update keys (key_row k) change (map row (fin.entries m)) ≡ map next (fin.entries m)
  kept_entries row next begins begins_next m k good change is each = go (fin.get m k) refl where
    go : (o : Option X) → fin.get m k ≡ o → rows_after_update keys (key_row k) change (map row (fin.entries m)) ≡ map next (fin.entries m)
    go None none = unset_entries row next begins m k good change none each
    go (Some v) found =
        set_entries row next begins begins_next m k good change v v found (is v found) each ∙ ap (λ (z : FinMap R X). map next (fin.entries z)) (inserted_same m k v found)
