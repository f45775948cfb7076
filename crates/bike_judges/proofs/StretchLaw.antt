-- The verdict of a pass over lines in stretches: the least key whose head, with all items that are its own, isn't good.
use Rattle.std.proofs.Common.{◌≡◌, ◌⊎◌, inl, inr, ℕ, suc, ◌<◌, ◌≤◌, List, [], ◌∷◌, ◌++◌, append_assoc, map, filter, fold, Bool, true, false, not, cond, pos, Option, Some, None, refl, sym, ap, subst}
use Rattle.std.proofs.Common.{◌∙◌, arith}
use Rattle.std.specs.Prelude.{take}
use Rattle.std.specs.Ordering.{ordering_then, ordering_reverse, nat_cmp}
use Rattle.std.specs.Cmp.{ranked}
use Rattle.std.specs.declared.cmp.Ordering.{Ordering}
use Rattle.std.specs.declared.cmp.Ordering.TheVariants.{Less, Equal, Greater}
use Rattle.std.proofs.lemmas.Bool.{true≢false}
use Rattle.sqlite_value.specs.declared.value.Value.{Value}
use Rattle.sqlite_value.specs.declared.value.Value.TheVariants.{Int}
use Rattle.sqlite_value.specs.Order.{Row, column, value_cmp, row_cmp}
use Rattle.sqlite_value.proofs.OrderLemmas.{value_cmp_total, value_cmp-Int, then-Equal}
use Rattle.sqlite_rules.specs.Lists.{Has}
use Rattle.bike_sql.specs.Keyed.{in_order}
use Rattle.bike_sql.specs.View.{by_key}
use Rattle.bike_sql.proofs.RowListLemmas.{has_filter, filter_has, map_has, permuted}
use Rattle.bike_sql.proofs.LineLemmas.{has_append}
use Rattle.bike_sql.proofs.OrderLemmas.{Rises, rises, all_has, all_from, same_list, order_has}
use Rattle.bike_sql.proofs.TreeLemmas.{by_key_total}
use Rattle.bike_sql.proofs.SortLemmas.{AreApartAll, order_permutes}
use Rattle.bike_book.proofs.Keys.{value_cmp-number_value}
use Rattle.bike_book.specs.Tables.{TableName, Tables, rows_in, keys_of}
use Rattle.bike_readings.specs.Rules.{AreInOrder}
use Rattle.bike_judges.specs.declared.pass.Opening.{Opening}
use Rattle.bike_judges.specs.declared.pass.Opening.TheVariants.{Head, Unread, Item}
use Rattle.bike_judges.specs.Lines.{head, merge_of_two, merge_of_three}
use Rattle.bike_judges.specs.Passes.{first_failing, pass, pass_line, closed, is_good_with, Demands}
use Rattle.bike_judges.specs.Verdicts.{IsFirstFailing}
use Rattle.bike_judges.proofs.LineLaw.{lines_verdict}
use Rattle.bike_judges.proofs.FoldOrder.{is_owned, fold_owned, first_failing_same, rises_filter}

-- The table has a key of one column, which each row has.
pub record HasOneKey (t : Tables) (name : TableName) : Type 0 where
  pub one : keys_of name ≡ 1
  pub first : (row : Row) → Has (rows_in t name) row → take 1 row ≡ column row 0 ∷ []

-- ---- the order of lines: their owner, the place of their table, and their own key

-- a line below another has a lesser owner, or the same and no greater place
ranks : (a b : Row) (p q : ℕ) → column a 1 ≡ Int (pos p) → column b 1 ≡ Int (pos q) → by_key 3 a b ≡ Less
    → (value_cmp (column a 0) (column b 0) ≡ Less) ⊎ ((value_cmp (column a 0) (column b 0) ≡ Equal) × (p ≤ q))
ranks [] b p q first second low = absurd cc
ranks (x ∷ []) b p q first second low = absurd cc
ranks (x ∷ y ∷ us) [] p q first second low = absurd cc
ranks (x ∷ y ∷ us) (z ∷ []) p q first second low = absurd cc
ranks (x ∷ y ∷ us) (z ∷ w ∷ vs) p q first second low = go (value_cmp x z) refl low where
  places : value_cmp y w ≡ nat_cmp p q
  places = ap (λ (v : Value). value_cmp v w) first ∙ ap (value_cmp (Int (pos p))) second ∙ value_cmp-number_value p q

  not_past : (o : Ordering) → value_cmp y w ≡ o → ordering_then o (row_cmp (take 1 us) (take 1 vs)) ≡ Less → p ≤ q
  not_past Less e rest = let low : p < q = ranked p q Less (sym e ∙ places) in omega (arith, low)
  not_past Equal e rest = let same : p ≡ q = ranked p q Equal (sym e ∙ places) in omega (arith, same)
  not_past Greater e rest = absurd cc

  go : (o : Ordering) → value_cmp x z ≡ o → ordering_then o (ordering_then (value_cmp y w) (row_cmp (take 1 us) (take 1 vs))) ≡ Less
      → (value_cmp x z ≡ Less) ⊎ ((value_cmp x z ≡ Equal) × (p ≤ q))
  go Less e rest = inl e
  go Equal e rest = inr (e, not_past (value_cmp y w) refl rest)
  go Greater e rest = absurd cc

-- the lines of each owner stand in their order
abbrev pub AreOwnedInOrder : List Row → Type 0
AreOwnedInOrder xs = (v : Value) → Rises (by_key_total 3) (filter (is_owned v) xs)

-- heads are in the order of their owners
heads_cmp : (spare : ℕ) (r s : Row) → by_key 3 (head spare r) (head spare s) ≡ value_cmp (column r 0) (column s 0)
heads_cmp spare r s =
    let same : value_cmp (Int (pos 0)) (Int (pos 0)) ≡ Equal = value_cmp-Int (pos 0) (pos 0) in
    ap (λ (o : Ordering). ordering_then (value_cmp (column r 0) (column s 0)) (ordering_then o (ordering_then o Equal))) same
    ∙ then-Equal (value_cmp (column r 0) (column s 0))

module _ {A : Type 0} (begins : Row → Opening A) (more : A → Row → A) (good : ℕ → A → Bool) (key : A → Row) (owner : A → Value) where
  -- Each head line opens an account of its own, to which only the owner's lines are added.
  pub record AreAccounts (spare : ℕ) : Type 0 where
    pub heads : (row : Row) → begins (head spare row) ≡ Item → ⊥
    pub owner_is : (row : Row) (a : A) → begins (head spare row) ≡ Head a → owner a ≡ column row 0
    pub key_is : (a : A) → key a ≡ owner a ∷ []
    pub keeps : (a : A) (x : Row) → owner (more a x) ≡ owner a
    pub others : (a : A) (x : Row) → (value_cmp (column x 0) (owner a) ≡ Equal → ⊥) → more a x ≡ a

  -- The lines of a table whose rows belong to heads: none is a head, and they stand behind their head.
  pub record AreItems (line : Row → Row) : Type 0 where
    pub item : (row : Row) → begins (line row) ≡ Item
    pub place : (row : Row) → (n : ℕ) × (column (line row) 1 ≡ Int (pos (suc n)))

  module _ (spare : ℕ) (accounts : AreAccounts spare) where
    abbrev is_item : Opening A → Bool
    is_item (Head a) = false
    is_item Unread = false
    is_item Item = true

    -- a line is added that is no head
    abbrev add : Opening A → A → Row → A
    add o a x = cond (is_item o) (more a x) a

    abbrev added : A → Row → A
    added a x = add (begins x) a x

    -- the heads among lines
    abbrev is_head : Row → Bool
    is_head x = not (is_item (begins x))

    abbrev heads_of : List Row → List Row
    heads_of = filter is_head

    -- a head with all these lines
    abbrev test : List Row → ℕ → Row → Bool
    test xs n x = is_good_with begins added good key (take 1) xs n (begins x)

    abbrev failing : List Row → ℕ → List Row → Option Row
    failing xs n = first_failing (test xs) (take 1) n

    abbrev close : Option A → ℕ → Option Row → Option Row
    close = closed begins more good key (take 1)

    abbrev run : Option A → ℕ → List Row → Option Row
    run = pass begins more good key (take 1)

    abbrev IsHeadLine : Row → Type 0
    IsHeadLine x = (row : Row) × (x ≡ head spare row)

    abbrev IsItemLine : Row → Type 0
    IsItemLine x = (begins x ≡ Item) × ((n : ℕ) × (column x 1 ≡ Int (pos (suc n))))

    abbrev AreLines : List Row → Type 0
    AreLines xs = (x : Row) → Has xs x → IsHeadLine x ⊎ IsItemLine x

    abbrev Up : List Row → Type 0
    Up = Rises (by_key_total 3)

    -- the account is of a lesser owner than all these
    abbrev IsBelow : A → List Row → Type 0
    IsBelow a xs = (y : Row) → Has xs y → value_cmp (owner a) (column y 0) ≡ Less

    -- ---- what is added

    flip : (v w : Value) → value_cmp v w ≡ Less → value_cmp w v ≡ Equal → ⊥
    flip v w low tie = let back : value_cmp v w ≡ Equal = value_cmp_total.antisymm v w ∙ ap ordering_reverse tie in cc

    untouched : (a : A) (x : Row) → value_cmp (owner a) (column x 0) ≡ Less → added a x ≡ a
    untouched a x low = go (is_item (begins x)) where
      go : (b : Bool) → cond b (more a x) a ≡ a
      go true = accounts.others a x (λ tie. flip (owner a) (column x 0) low tie)
      go false = refl

    untouched_by : (a : A) (xs : List Row) → IsBelow a xs → fold added a xs ≡ a
    untouched_by a [] low = refl
    untouched_by a (x ∷ xs) low = ap (λ (c : A). fold added c xs) (untouched a x (low x (inl refl))) ∙ untouched_by a xs (λ y h. low y (inr h))

    own_still : (xs : List Row) (a : A) → owner (fold added a xs) ≡ owner a
    own_still [] a = refl
    own_still (x ∷ xs) a = own_still xs (added a x) ∙ go (is_item (begins x)) where
      go : (b : Bool) → owner (cond b (more a x) a) ≡ owner a
      go true = accounts.keeps a x
      go false = refl

    -- the items alone are added
    abbrev items_among : List Row → List Row
    items_among = filter (λ x. is_item (begins x))

    fold_items : (xs : List Row) (a : A) → fold added a xs ≡ fold more a (items_among xs)
    fold_items [] a = refl
    fold_items (x ∷ xs) a = go (is_item (begins x)) (fold_items xs) where
      go : (b : Bool) → ((c : A) → fold added c xs ≡ fold more c (items_among xs)) → fold added (cond b (more a x) a) xs ≡ fold more a (cond b (x ∷ items_among xs) (items_among xs))
      go true rest = rest (more a x)
      go false rest = rest a

    -- ---- one line of the pass

    -- a line changes nothing for the heads behind it
    behind : (x : Row) (xs : List Row) → AreLines (x ∷ xs) → Up (x ∷ xs) → (n : ℕ) (h : Row) → Has (heads_of xs) h → test (x ∷ xs) n h ≡ test xs n h
    behind x xs lines up n h has = go (begins h) refl where
      passed : Has xs h × (is_head h ≡ true)
      passed = has_filter is_head xs h has

      low : by_key 3 x h ≡ Less
      low = all_has (λ y. by_key 3 x y ≡ Less) xs h up.0 passed.0

      it_is : IsHeadLine h
      it_is = elim (lines h (inr passed.0)) [ inl it ↦ it | inr item ↦ absurd (true≢false (sym passed.1 ∙ ap (λ (o : Opening A). not (is_item o)) item.0)) ]

      kept : (a : A) → begins h ≡ Head a → IsHeadLine x ⊎ IsItemLine x → added a x ≡ a
      kept a e (inl it) = go_head (begins x) refl where
        go_head : (o : Opening A) → begins x ≡ o → add o a x ≡ a
        go_head (Head b) f = refl
        go_head Unread f = refl
        go_head Item f = absurd (accounts.heads it.0 (ap begins (sym it.1) ∙ f))
      kept a e (inr item) = go_item (is_item (begins x)) where
        owned : owner a ≡ column h 0
        owned = accounts.owner_is it_is.0 a (ap begins (sym it_is.1) ∙ e) ∙ ap (λ (z : Row). column z 0) (sym it_is.1)

        lower : value_cmp (column x 0) (column h 0) ≡ Less
        lower = elim (ranks x h (suc item.1.0) 0 item.1.1 (ap (λ (z : Row). column z 1) it_is.1) low) [ inl less ↦ less | inr same ↦ absurd (let s = same.1 in omega (arith, s)) ]

        go_item : (b : Bool) → cond b (more a x) a ≡ a
        go_item true =
            accounts.others a x
            (λ tie. let t : value_cmp (column x 0) (column h 0) ≡ Equal = ap (value_cmp (column x 0)) (sym owned) ∙ tie in let less : value_cmp (column x 0) (column h 0) ≡ Less = lower in cc)
        go_item false = refl

      go : (o : Opening A) → begins h ≡ o → is_good_with begins added good key (take 1) (x ∷ xs) n o ≡ is_good_with begins added good key (take 1) xs n o
      go (Head a) e = ap (λ (c : A). good n (fold added c xs)) (kept a e (lines x (inl refl)))
      go Unread e = refl
      go Item e = refl

    later : (x : Row) (xs : List Row) → AreLines (x ∷ xs) → Up (x ∷ xs) → (n : ℕ) → failing (x ∷ xs) n (heads_of xs) ≡ failing xs n (heads_of xs)
    later x xs lines up n = first_failing_same (test (x ∷ xs)) (test xs) (take 1) n (heads_of xs) (behind x xs lines up)

    item_step : (x : Row) (xs : List Row) → AreLines (x ∷ xs) → Up (x ∷ xs) → begins x ≡ Item → (n : ℕ) → failing (x ∷ xs) n (heads_of (x ∷ xs)) ≡ failing xs n (heads_of xs)
    item_step x xs lines up e n = ap (λ (o : Opening A). failing (x ∷ xs) n (cond (not (is_item o)) (x ∷ heads_of xs) (heads_of xs))) e ∙ later x xs lines up n

    unread_step : (x : Row) (xs : List Row) → begins x ≡ Unread → (n : ℕ) → failing (x ∷ xs) n (heads_of (x ∷ xs)) ≡ Some (take 1 x)
    unfolding first_failing
    unread_step x xs e n =
        ap (λ (o : Opening A). failing (x ∷ xs) n (cond (not (is_item o)) (x ∷ heads_of xs) (heads_of xs))) e
        ∙ ap (λ (o : Opening A). cond (is_good_with begins added good key (take 1) (x ∷ xs) n o) (failing (x ∷ xs) (suc n) (heads_of xs)) (Some (take 1 x))) e

    head_step : (x : Row) (xs : List Row) → AreLines (x ∷ xs) → Up (x ∷ xs) → (b : A) → begins x ≡ Head b → owner b ≡ column x 0 → take 1 x ≡ column x 0 ∷ [] → (n : ℕ)
        → failing (x ∷ xs) n (heads_of (x ∷ xs)) ≡ close (Some (fold added b xs)) n (failing xs (suc n) (heads_of xs))
    unfolding first_failing
    head_step x xs lines up b e owned first n =
        ap (λ (o : Opening A). failing (x ∷ xs) n (cond (not (is_item o)) (x ∷ heads_of xs) (heads_of xs))) e
        ∙ ap (λ (o : Opening A). cond (is_good_with begins added good key (take 1) (x ∷ xs) n o) (failing (x ∷ xs) (suc n) (heads_of xs)) (Some (take 1 x))) e
        ∙ ap (λ (o : Opening A). cond (good n (fold added (add o b x) xs)) (failing (x ∷ xs) (suc n) (heads_of xs)) (Some (take 1 x))) e
        ∙ ap (λ (v : Option Row). cond (good n (fold added b xs)) v (Some (take 1 x))) (later x xs lines up (suc n))
        ∙ ap (λ (k : Row). cond (good n (fold added b xs)) (failing xs (suc n) (heads_of xs)) (Some k)) key_is
      where
        key_is : take 1 x ≡ key (fold added b xs)
        key_is = first ∙ ap (λ (v : Value). v ∷ []) (sym owned ∙ sym (own_still xs b)) ∙ sym (accounts.key_is (fold added b xs))

    -- ---- the pass

    -- a line that is a head: what it opens
    record Opens (x : Row) (o : Opening A) : Type 0 where
      no_item : o ≡ Item → ⊥
      owned : (b : A) → o ≡ Head b → owner b ≡ column x 0
      first : take 1 x ≡ column x 0 ∷ []
      place : column x 1 ≡ Int (pos 0)

    opens : (x : Row) → IsHeadLine x → Opens x (begins x)
    opens x it = subst (λ (z : Row). Opens z (begins z)) (sym it.1) (record { no_item = accounts.heads it.0; owned = accounts.owner_is it.0; first = refl; place = refl })

    -- an account of a lesser owner than a head is of a lesser one than all behind that
    place_of : (y : Row) → IsHeadLine y ⊎ IsItemLine y → (q : ℕ) × (column y 1 ≡ Int (pos q))
    place_of y (inl it) = (0, ap (λ (z : Row). column z 1) it.1)
    place_of y (inr item) = (suc item.1.0, item.1.1)

    no_higher : (v w u : Value) → value_cmp v w ≡ Less → value_cmp w u ≡ Equal → value_cmp v u ≡ Less
    no_higher v w u low tie =
        let same : value_cmp w v ≡ value_cmp u v = value_cmp_total.congr w u v tie in
        value_cmp_total.antisymm v u ∙ ap ordering_reverse (sym same) ∙ sym (value_cmp_total.antisymm v w) ∙ low

    all_below : (a : A) (x : Row) (xs : List Row) → AreLines (x ∷ xs) → Up (x ∷ xs) → IsHeadLine x → value_cmp (owner a) (column x 0) ≡ Less → IsBelow a (x ∷ xs)
    all_below a x xs lines up it low y (inl is) = ap (λ (z : Row). value_cmp (owner a) (column z 0)) is ∙ low
    all_below a x xs lines up it low y (inr has) =
        let q = place_of y (lines y (inr has)) in
        elim (ranks x y 0 q.0 (opens x it).place q.1 (all_has (λ z. by_key 3 x z ≡ Less) xs y up.0 has)) [
          | inl less ↦ value_cmp_total.trans (owner a) (column x 0) (column y 0) low less
          | inr same ↦ no_higher (owner a) (column x 0) (column y 0) low same.0
        ]

    -- the heads behind a head have greater owners
    heads_above : (x : Row) (xs : List Row) → Up (x ∷ xs) → IsHeadLine x → (y : Row) → Has xs y → IsHeadLine y → value_cmp (column x 0) (column y 0) ≡ Less
    heads_above x xs up it y has also =
        let low : by_key 3 x y ≡ Less = all_has (λ z. by_key 3 x z ≡ Less) xs y up.0 has in
        ap (λ (z : Row). value_cmp (column z 0) (column y 0)) it.1 ∙ ap (λ (z : Row). value_cmp (column it.0 0) (column z 0)) also.1
        ∙ sym (heads_cmp spare it.0 also.0) ∙ ap (λ (z : Row). by_key 3 z (head spare also.0)) (sym it.1) ∙ ap (by_key 3 x) (sym also.1) ∙ low

    -- with an open account, of a lesser owner than each head to come
    open_pass : (xs : List Row) → AreLines xs → Up xs → (a : A) → ((y : Row) → Has xs y → IsHeadLine y → value_cmp (owner a) (column y 0) ≡ Less) → (n : ℕ)
        → run (Some a) n xs ≡ close (Some (fold added a xs)) n (failing xs (suc n) (heads_of xs))
    unfolding pass first_failing
    open_pass [] lines up a low n = refl
    open_pass (x ∷ xs) lines up a low n = go (lines x (inl refl)) (open_pass xs (λ y h. lines y (inr h)) up.1) where
      go : IsHeadLine x ⊎ IsItemLine x
          → ((c : A) → ((y : Row) → Has xs y → IsHeadLine y → value_cmp (owner c) (column y 0) ≡ Less) → (m : ℕ)
          → run (Some c) m xs ≡ close (Some (fold added c xs)) m (failing xs (suc m) (heads_of xs)))
          → pass_line begins more good key (take 1) (Some a) n x (begins x) (λ other m. run other m xs) ≡ close (Some (fold added a (x ∷ xs))) n (failing (x ∷ xs) (suc n) (heads_of (x ∷ xs)))
      go (inr item) rest =
          ap (λ (o : Opening A). pass_line begins more good key (take 1) (Some a) n x o (λ other m. run other m xs)) item.0
          ∙ rest (more a x) (λ y h it. ap (λ (v : Value). value_cmp v (column y 0)) (accounts.keeps a x) ∙ low y (inr h) it) n
          ∙ ap (λ (o : Opening A). close (Some (fold added (add o a x) xs)) n (failing xs (suc n) (heads_of xs))) (sym item.0)
          ∙ ap (close (Some (fold added a (x ∷ xs))) n) (sym (item_step x xs lines up item.0 (suc n)))
      go (inl it) rest =
          by (begins x) refl (opens x it) ∙ ap (λ (c : A). close (Some c) n (failing (x ∷ xs) (suc n) (heads_of (x ∷ xs))))
          (sym (untouched_by a (x ∷ xs) (all_below a x xs lines up it (low x (inl refl) it)))) where
            by : (o : Opening A) → begins x ≡ o → Opens x o → pass_line begins more good key (take 1) (Some a) n x o (λ other m. run other m xs)
                ≡ close (Some a) n (failing (x ∷ xs) (suc n) (heads_of (x ∷ xs)))
            by (Head b) e it_opens =
                let owned : owner b ≡ column x 0 = it_opens.owned b refl in
                ap (close (Some a) n)
                (rest b (λ y h also. ap (λ (v : Value). value_cmp v (column y 0)) owned ∙ heads_above x xs up it y h also) (suc n) ∙ sym (head_step x xs lines up b e owned it_opens.first (suc n)))
            by Unread e it_opens = ap (close (Some a) n) (sym (unread_step x xs e (suc n)))
            by Item e it_opens = absurd (it_opens.no_item refl)

    -- before the first head
    whole_pass : (xs : List Row) → AreLines xs → Up xs → (n : ℕ) → run None n xs ≡ failing xs n (heads_of xs)
    unfolding pass first_failing
    whole_pass [] lines up n = refl
    whole_pass (x ∷ xs) lines up n = go (lines x (inl refl)) (whole_pass xs (λ y h. lines y (inr h)) up.1 n) where
      go : IsHeadLine x ⊎ IsItemLine x → run None n xs ≡ failing xs n (heads_of xs)
          → pass_line begins more good key (take 1) None n x (begins x) (λ other m. run other m xs) ≡ failing (x ∷ xs) n (heads_of (x ∷ xs))
      go (inr item) rest =
          ap (λ (o : Opening A). pass_line begins more good key (take 1) None n x o (λ other m. run other m xs)) item.0
          ∙ rest ∙ sym (item_step x xs lines up item.0 n)
      go (inl it) rest = by (begins x) refl (opens x it) where
        by : (o : Opening A) → begins x ≡ o → Opens x o → pass_line begins more good key (take 1) None n x o (λ other m. run other m xs) ≡ failing (x ∷ xs) n (heads_of (x ∷ xs))
        by (Head b) e it_opens =
            let owned : owner b ≡ column x 0 = it_opens.owned b refl in
            open_pass xs (λ y h. lines y (inr h)) up.1 b (λ y h also. ap (λ (v : Value). value_cmp v (column y 0)) owned ∙ heads_above x xs up it y h also) n
            ∙ sym (head_step x xs lines up b e owned it_opens.first n)
        by Unread e it_opens = sym (unread_step x xs e n)
        by Item e it_opens = absurd (it_opens.no_item refl)

  module _ (t : Tables) (name : TableName) (up : AreInOrder t) (has : HasOneKey t name) (spare : ℕ) (accounts : AreAccounts spare) where
    -- the head with all these lines
    abbrev pub with_items : List Row → ℕ → Row → Bool
    with_items items n row = is_good_with begins more good key (take 1) items n (begins (head spare row))

    abbrev rows : List Row
    rows = rows_in t name

    module _ (items : List Row) (all_items : (x : Row) → Has items x → IsItemLine spare accounts x) (owned : AreOwnedInOrder items)
        (apart : AreApartAll (by_key_total 3) (map (head spare) rows ++ items)) where
      abbrev both : List Row
      both = map (head spare) rows ++ items

      abbrev sorted : List Row
      sorted = in_order (by_key 3) both

      both_lines : AreLines spare accounts both
      both_lines x h = elim (has_append (map (head spare) rows) items x h) [
        | inl first ↦ (let row = map_has (head spare) rows x first in inl (row.0, row.2))
        | inr second ↦ inr (all_items x second)
      ]

      lines : AreLines spare accounts sorted
      lines x h = both_lines x (order_has (by_key_total 3) both x h)

      all_sorted : (x : Row) → Has both x → Has sorted x
      all_sorted x h = permuted both sorted x (order_permutes (by_key_total 3) both apart) h

      -- the heads among them are those of the table
      heads_rise : (rs : List Row) → ((r : Row) → Has rs r → take 1 r ≡ column r 0 ∷ []) → Rises (by_key_total 1) rs → Rises (by_key_total 3) (map (head spare) rs)
      heads_rise [] first rising = tt
      heads_rise (r ∷ rs) first rising = (
        all_from (λ y. by_key 3 (head spare r) y ≡ Less) (map (head spare) rs) (λ y h.
            let s = map_has (head spare) rs y h in
            let low : by_key 1 r s.0 ≡ Less = all_has (λ z. by_key 1 r z ≡ Less) rs s.0 rising.0 s.1 in
            let one : by_key 1 r s.0 ≡ ordering_then (value_cmp (column r 0) (column s.0 0)) Equal = ap (λ (z : Row). row_cmp z (take 1 s.0)) (first r (inl refl)) ∙ ap (row_cmp (column r 0 ∷ [])) (first s.0 (inr s.1)) in
            ap (by_key 3 (head spare r)) s.2 ∙ heads_cmp spare r s.0 ∙ sym (then-Equal (value_cmp (column r 0) (column s.0 0))) ∙ sym one ∙ low),
        heads_rise rs (λ s h. first s (inr h)) rising.1,
      )

      heads_are : heads_of spare accounts sorted ≡ map (head spare) rows
      heads_are =
          same_list (by_key_total 3) (heads_of spare accounts sorted) (map (head spare) rows)
          (rises_filter (λ a b. by_key 3 a b ≡ Less) (is_head spare accounts) sorted (rises (by_key_total 3) both))
          (heads_rise rows has.first (subst (λ (n : ℕ). Rises (by_key_total n) rows) has.one (up name)))
          (λ x h. let it = has_filter (is_head spare accounts) sorted x h in
          elim (has_append (map (head spare) rows) items x (order_has (by_key_total 3) both x it.0)) [
            | inl first ↦ first
            | inr second ↦ absurd (true≢false (sym it.1 ∙ ap (λ (o : Opening A). not (is_item spare accounts o)) (all_items x second).0))
          ])
          (λ x h. filter_has (is_head spare accounts) sorted x (all_sorted x (first_has x h)) (passes x h))
        where
          first_has : (x : Row) → Has (map (head spare) rows) x → Has both x
          first_has x h = go (map (head spare) rows) h where
            go : (zs : List Row) → Has zs x → Has (zs ++ items) x
            go [] h = elim h [ ]
            go (z ∷ zs) (inl is) = inl is
            go (z ∷ zs) (inr there) = inr (go zs there)

          passes : (x : Row) → Has (map (head spare) rows) x → is_head spare accounts x ≡ true
          passes x h = go (begins x) (opens spare accounts x (let row = map_has (head spare) rows x h in (row.0, row.2))) where
            go : (o : Opening A) → Opens spare accounts x o → not (is_item spare accounts o) ≡ true
            go (Head b) it = refl
            go Unread it = refl
            go Item it = absurd (it.no_item refl)

      passes_item : (x : Row) → Has items x → is_item spare accounts (begins x) ≡ true
      passes_item x h = ap (is_item spare accounts) (all_items x h).0

      -- what is added for one owner among them are its items, in their order
      owned_among : (v : Value) → filter (is_owned v) (items_among spare accounts sorted) ≡ filter (is_owned v) items
      owned_among v =
          same_list (by_key_total 3) (filter (is_owned v) (items_among spare accounts sorted)) (filter (is_owned v) items)
          (rises_filter (λ a b. by_key 3 a b ≡ Less) (is_owned v) (items_among spare accounts sorted)
          (rises_filter (λ a b. by_key 3 a b ≡ Less) (λ x. is_item spare accounts (begins x)) sorted (rises (by_key_total 3) both)))
          (owned v)
          (λ x h.
          let outer = has_filter (is_owned v) (items_among spare accounts sorted) x h in
          let inner = has_filter (λ y. is_item spare accounts (begins y)) sorted x outer.0 in
          filter_has (is_owned v) items x (among x (order_has (by_key_total 3) both x inner.0) inner.1) outer.1)
          (λ x h.
          let it = has_filter (is_owned v) items x h in
          filter_has (is_owned v) (items_among spare accounts sorted) x
          (filter_has (λ y. is_item spare accounts (begins y)) sorted x (all_sorted x (has_second (map (head spare) rows) items x it.0)) (passes_item x it.0)) it.1)
        where
          among : (x : Row) → Has both x → is_item spare accounts (begins x) ≡ true → Has items x
          among x h is = elim (has_append (map (head spare) rows) items x h) [
            | inl first ↦ absurd (let head = map_has (head spare) rows x first in no_head (begins x) (opens spare accounts x (head.0, head.2)) is)
            | inr second ↦ second
          ]
            where
              no_head : (o : Opening A) → Opens spare accounts x o → is_item spare accounts o ≡ true → ⊥
              no_head (Head b) it e = cc
              no_head Unread it e = cc
              no_head Item it e = it.no_item refl

          has_second : (xs ys : List Row) (x : Row) → Has ys x → Has (xs ++ ys) x
          has_second [] ys x h = h
          has_second (z ∷ xs) ys x h = inr (has_second xs ys x h)

      sums : (a : A) → fold (added spare accounts) a sorted ≡ fold more a items
      sums a =
          fold_items spare accounts sorted a ∙ fold_owned more owner accounts.keeps accounts.others (items_among spare accounts sorted) a
          ∙ ap (fold more a) (owned_among (owner a)) ∙ sym (fold_owned more owner accounts.keeps accounts.others items a)

      same_test : (n : ℕ) (x : Row) → test spare accounts sorted n x ≡ is_good_with begins more good key (take 1) items n (begins x)
      same_test n x = go (begins x) where
        go : (o : Opening A) → is_good_with begins (added spare accounts) good key (take 1) sorted n o ≡ is_good_with begins more good key (take 1) items n o
        go (Head a) = ap (good n) (sums a)
        go Unread = refl
        go Item = refl

      pub verdict_of : (verdict : Option Row) → pass begins more good key (take 1) None 0 sorted ≡ verdict → IsFirstFailing t name (Demands t name (with_items items)) verdict
      verdict_of verdict is =
          lines_verdict t name up (head spare) (λ n x. is_good_with begins more good key (take 1) items n (begins x)) (take 1)
          (λ row h. sym (has.first row h) ∙ ap (λ (n : ℕ). take n row) (sym has.one)) verdict
          (sym (first_failing_same (test spare accounts sorted) (λ n x. is_good_with begins more good key (take 1) items n (begins x)) (take 1) 0 (map (head spare) rows) (λ n x h. same_test n x))
          ∙ ap (failing spare accounts sorted 0) (sym heads_are)
          ∙ sym (whole_pass spare accounts sorted lines (rises (by_key_total 3) both) 0) ∙ is)

    items_of : (line : Row → Row) (ys : List Row) → AreItems line → (x : Row) → Has (map line ys) x → IsItemLine spare accounts x
    items_of line ys items x h = let it = map_has line ys x h in subst (IsItemLine spare accounts) (sym it.2) (items.item it.0, items.place it.0)

    -- THE VERDICT of two tables
    pub merged_verdict : (second : Row → Row) (ys : List Row) → AreItems second → AreOwnedInOrder (map second ys)
        → AreApartAll (by_key_total 3) (map (head spare) (rows_in t name) ++ map second ys)
        → (verdict : Option Row) → pass begins more good key (take 1) None 0 (merge_of_two 3 (head spare) (rows_in t name) second ys) ≡ verdict
        → IsFirstFailing t name (Demands t name (with_items (map second ys))) verdict
    merged_verdict second ys items owned apart = verdict_of (map second ys) (items_of second ys items) owned apart

    -- and of three
    pub merged_of_three_verdict : (second : Row → Row) (ys : List Row) (third : Row → Row) (zs : List Row) → AreItems second → AreItems third
        → AreOwnedInOrder (map second ys ++ map third zs)
        → AreApartAll (by_key_total 3) ((map (head spare) (rows_in t name) ++ map second ys) ++ map third zs)
        → (verdict : Option Row) → pass begins more good key (take 1) None 0 (merge_of_three 3 (head spare) (rows_in t name) second ys third zs) ≡ verdict
        → IsFirstFailing t name (Demands t name (with_items (map second ys ++ map third zs))) verdict
    merged_of_three_verdict second ys third zs items also owned apart verdict is =
        let joined : (map (head spare) rows ++ map second ys) ++ map third zs ≡ map (head spare) rows ++ (map second ys ++ map third zs) = append_assoc (map (head spare) rows) (map second ys) (map third zs) in
        verdict_of (map second ys ++ map third zs)
        (λ x h. elim (has_append (map second ys) (map third zs) x h) [ inl here ↦ items_of second ys items x here | inr there ↦ items_of third zs also x there ])
        owned (subst (AreApartAll (by_key_total 3)) joined apart) verdict
        (ap (λ (xs : List Row). pass begins more good key (take 1) None 0 (in_order (by_key 3) xs)) (sym joined) ∙ is)
