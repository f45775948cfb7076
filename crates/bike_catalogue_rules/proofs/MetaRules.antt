-- The first row of meta that isn't the one of the newest version with good sums, or that this is missing, is the verdict on meta.
use Rattle.std.proofs.Common.{◌≡◌, inl, inr, ℕ, ℤ, List, [], ◌∷◌, Bool, true, false, cond, ◌&&◌, Option, Some, None, refl, sym, ap, ◌∙◌, subst}
use Rattle.std.specs.Prelude.{take, IfSome, ◌==◌}
use Rattle.std.specs.Option.{IsSomeAnd}
use Rattle.std.specs.Ordering.{is_lt, ordering_reverse}
use Rattle.std.specs.declared.cmp.Ordering.{Ordering}
use Rattle.std.specs.declared.cmp.Ordering.TheVariants.{Less, Equal, Greater}
use Rattle.std.proofs.lemmas.Bool.{and_from, eqb-true, eq-eqb}
use Rattle.std.proofs.lemmas.Cmp.{tied_itself}
use Rattle.sqlite_value.specs.Order.{Row, row_cmp}
use Rattle.sqlite_value.proofs.OrderLemmas.{row_cmp_total}
use Rattle.sqlite_rules.specs.Lists.{Has}
use Rattle.bike_fields.proofs.Lengths.{both_hold}
use Rattle.bike_sql.specs.View.{by_key}
use Rattle.bike_sql.proofs.OrderLemmas.{Rises, all_has}
use Rattle.bike_sql.proofs.TreeLemmas.{by_key_total}
use Rattle.bike_book.specs.declared.version.TheConstants.{NEWEST}
use Rattle.bike_book.specs.Tables.{Tables, Meta}
use Rattle.bike_readings.specs.Readings.{meta_read}
use Rattle.bike_readings.proofs.CatalogueRows.{meta_reading}
use Rattle.bike_readings.specs.ReadOff.{operator_of, archived_of}
use Rattle.bike_readings.specs.Demands.{IsGoodMeta}
use Rattle.bike_readings.specs.Rules.{AreInOrder, IsGoodAt, IsGoodKey, row_under, rows_below}
use Rattle.bike_readings.proofs.Places.{has_under, under_has}
use Rattle.bike_readings.proofs.RowRules.{some_with}
use Rattle.bike_judges.specs.Verdicts.{IsTableVerdict}
use Rattle.bike_judges.specs.Least.{least_key}
use Rattle.bike_judges.specs.Sums.{is_sum_of}
use Rattle.bike_judges.proofs.SumLaws.{sum_decides}
use Rattle.bike_catalogue_rules.specs.OneRow.{has_sums, is_meta as is_meta_of, one_key, first_meta}

module _ (t : Tables) (up : AreInOrder t) where
  -- how many entries were archived
  abbrev archived : ℕ
  archived = (archived_of t.books).1

  abbrev is_meta : Row → Bool
  is_meta = is_meta_of archived

  abbrev IsGood : Row → Type 0
  IsGood r = (n : ℕ) → IsSomeAnd (meta_read r) (IsGoodMeta (operator_of t) n)

  -- ---- one row

  meta_good : (r : Row) → is_meta r ≡ true → IsGood r
  meta_good r h n = go (meta_read r) refl h where
    go : (o : Option (ℕ × ℕ × ℤ × ℤ)) → meta_read r ≡ o → has_sums archived o ≡ true → IsSomeAnd o (IsGoodMeta (operator_of t) n)
    go None e h = absurd cc
    go (Some x) e h =
        let all = both_hold ((x.0 == NEWEST) && is_sum_of archived x.2) (is_sum_of archived x.3) h in
        let two = both_hold (x.0 == NEWEST) (is_sum_of archived x.2) all.0 in
        record { version_is = eqb-true x.0 NEWEST two.0; cash = (sum_decides archived x.2).0 two.1; revenue = (sum_decides archived x.3).0 all.1 }

  good_meta : (n : ℕ) (r : Row) → IsSomeAnd (meta_read r) (IsGoodMeta (operator_of t) n) → is_meta r ≡ true
  good_meta n r good =
      let it = some_with (IsGoodMeta (operator_of t) n) (meta_read r) good in
      ap (has_sums archived) it.value_is
      ∙ and_from ((it.value.0 == NEWEST) && is_sum_of archived it.value.2) (is_sum_of archived it.value.3)
      (and_from (it.value.0 == NEWEST) (is_sum_of archived it.value.2) (eq-eqb it.value.0 NEWEST it.fact.version_is) ((sum_decides archived it.value.2).1 it.fact.cash))
      ((sum_decides archived it.value.3).1 it.fact.revenue)

  -- the key of a good row is 1
  good_key : (r : Row) → is_meta r ≡ true → take 1 r ≡ one_key
  good_key r h = let it = some_with (IsGoodMeta (operator_of t) 0) (meta_read r) (meta_good r h 0) in ap (take 1) (meta_reading.sound r it.value it.value_is).0

  -- ---- a key

  good_under : (key : Row) → ((r : Row) → row_under t Meta key ≡ Some r → is_meta r ≡ true) → (row_under t Meta key ≡ None → key ≡ one_key → ⊥) → IsGoodKey t Meta key
  good_under key row none = go (row_under t Meta key) refl where
    go : (o : Option Row) → row_under t Meta key ≡ o → IsGoodAt t (operator_of t) Meta key (rows_below t Meta key) o
    go None e = none e
    go (Some r) e = meta_good r (row r e) (rows_below t Meta key)

  row_good : (key r : Row) → row_under t Meta key ≡ Some r → IsGoodKey t Meta key → is_meta r ≡ true
  row_good key r under good = good_meta (rows_below t Meta key) r (subst (IsGoodAt t (operator_of t) Meta key (rows_below t Meta key)) under good)

  none_bad : row_under t Meta one_key ≡ None → IsGoodKey t Meta one_key → ⊥
  none_bad none good = (subst (IsGoodAt t (operator_of t) Meta one_key (rows_below t Meta one_key)) none good) refl

  not_less : (a : Row) → row_cmp a a ≡ Less → ⊥
  not_less a low = let tie : row_cmp a a ≡ Equal = tied_itself row_cmp_total a in cc

  -- what is below the key isn't the key
  less_apart : (a b c : Row) → row_cmp a b ≡ Less → a ≡ c → b ≡ c → ⊥
  less_apart a b c low left right = not_less c (ap (λ (x : Row). row_cmp x c) (sym left) ∙ ap (row_cmp a) (sym right) ∙ low)

  module _ (r : Row) (rest : List Row) (is : t.meta ≡ r ∷ rest) where
    rise : Rises (by_key_total 1) (r ∷ rest)
    rise = subst (Rises (by_key_total 1)) is (up Meta)

    has : (x : Row) → Has (r ∷ rest) x → Has t.meta x
    has x h = subst (λ (xs : List Row). Has xs x) (sym is) h

    had : (x : Row) → Has t.meta x → Has (r ∷ rest) x
    had x h = subst (λ (xs : List Row). Has xs x) is h

    found : (x : Row) → Has (r ∷ rest) x → row_under t Meta (take 1 x) ≡ Some x
    found x h = has_under 1 t.meta x (up Meta) (has x h)

    -- no row stands below the first
    lowest : (x : Row) → Has (r ∷ rest) x → by_key 1 x r ≡ Less → ⊥
    lowest x (inl same) low = not_less (take 1 r) (ap (λ (z : Row). by_key 1 z r) (sym same) ∙ low)
    lowest x (inr later) low =
        let above : by_key 1 r x ≡ Less = all_has (λ y. by_key 1 r y ≡ Less) rest x rise.0 later in
        let back : by_key 1 x r ≡ Greater = (by_key_total 1).antisymm x r ∙ ap ordering_reverse above in
        absurd cc

    none_under : (other x : Row) → row_cmp other (take 1 r) ≡ Less → row_under t Meta other ≡ Some x → ⊥
    none_under other x low under =
        let it = under_has 1 other t.meta x under in
        lowest x (had x it.0) (row_cmp_total.congr (take 1 x) other (take 1 r) it.1 ∙ low)

    -- the first row is bad, and its key isn't above 1
    first_bad : is_meta r ≡ false → (row_cmp one_key (take 1 r) ≡ Less → ⊥) → IsTableVerdict t Meta (Some (take 1 r))
    first_bad fails high = record {
      bad = λ good. let passes = row_good (take 1 r) r (found r (inl refl)) good in absurd cc;
      own = subst (λ (o : Option Row). IfSome o (λ row. take 1 row ≡ take 1 r)) (sym (found r (inl refl))) refl;
      before = λ other low. good_under other (λ x under. absurd (none_under other x low under)) (λ none one. high (ap (λ (z : Row). row_cmp z (take 1 r)) (sym one) ∙ low));
    }

    -- the first row is above 1, which is missing
    missing : row_cmp one_key (take 1 r) ≡ Less → IsTableVerdict t Meta (Some one_key)
    missing low = go (row_under t Meta one_key) refl where
      go : (o : Option Row) → row_under t Meta one_key ≡ o → IsTableVerdict t Meta (Some one_key)
      go (Some x) e = absurd (none_under one_key x low e)
      go None e = record {
        bad = none_bad e;
        own = subst (λ (o : Option Row). IfSome o (λ row. take 1 row ≡ one_key)) (sym e) tt;
        before = λ other below.
            good_under other (λ x under. absurd (none_under other x (row_cmp_total.trans other one_key (take 1 r) below low) under)) (λ none one. less_apart other one_key one_key below one refl);
      }

    -- the row is there
    there : is_meta r ≡ true → row_under t Meta one_key ≡ Some r
    there passes = ap (row_under t Meta) (sym (good_key r passes)) ∙ found r (inl refl)

    lacks : is_meta r ≡ true → (key : Row) → row_under t Meta key ≡ None → key ≡ one_key → ⊥
    lacks passes key none one = let both : ◌≡◌ {A = Option Row} None (Some r) = sym none ∙ ap (row_under t Meta) one ∙ there passes in absurd cc

  only : (r : Row) → t.meta ≡ r ∷ [] → is_meta r ≡ true → IsTableVerdict t Meta None
  only r is passes = λ key. good_under key (λ x under. one x (had r [] is x (under_has 1 key t.meta x under).0)) (lacks r [] is passes key) where
    one : (x : Row) → Has (r ∷ []) x → is_meta x ≡ true
    one x (inl same) = ap is_meta same ∙ passes
    one x (inr none) = elim none [ ]

  second : (r x : Row) (rest : List Row) → t.meta ≡ r ∷ x ∷ rest → is_meta r ≡ true → IsTableVerdict t Meta (Some (take 1 x))
  second r x rest is passes = record {
    bad = λ good. (
        let also = row_good (take 1 x) x (found r (x ∷ rest) is x (inr (inl refl))) good in
        less_apart (take 1 r) (take 1 x) one_key (rise r (x ∷ rest) is).0.0 (good_key r passes) (good_key x also));
    own = subst (λ (o : Option Row). IfSome o (λ row. take 1 row ≡ take 1 x)) (sym (found r (x ∷ rest) is x (inr (inl refl)))) refl;
    before =
        λ other low. good_under other (λ y under. below y (had r (x ∷ rest) is y (under_has 1 other t.meta y under).0)
        (row_cmp_total.congr (take 1 y) other (take 1 x) (under_has 1 other t.meta y under).1 ∙ low)) (lacks r (x ∷ rest) is passes other);
  }
    where
      below : (y : Row) → Has (r ∷ x ∷ rest) y → by_key 1 y x ≡ Less → is_meta y ≡ true
      below y (inl same) low = ap is_meta same ∙ passes
      below y (inr (inl same)) low = absurd (not_less (take 1 x) (ap (λ (z : Row). by_key 1 z x) (sym same) ∙ low))
      below y (inr (inr later)) low =
          let above : by_key 1 x y ≡ Less = all_has (λ z. by_key 1 x z ≡ Less) rest y (rise r (x ∷ rest) is).1.0 later in
          let back : by_key 1 y x ≡ Greater = (by_key_total 1).antisymm y x ∙ ap ordering_reverse above in
          absurd cc

  -- ---- the verdict

  none_there : t.meta ≡ [] → IsTableVerdict t Meta (Some one_key)
  none_there is = record {
    bad = none_bad (none one_key);
    own = subst (λ (o : Option Row). IfSome o (λ row. take 1 row ≡ one_key)) (sym (none one_key)) tt;
    before =
        λ other low. good_under other (λ x under. let both : ◌≡◌ {A = Option Row} None (Some x) = sym (none other) ∙ under in absurd cc) (λ gone one. less_apart other one_key one_key low one refl);
  }
    where
      none : (key : Row) → row_under t Meta key ≡ None
      none key = ap (λ (rows : List Row). row_under (record t { meta = rows }) Meta key) is

  after_first : (r : Row) (rest : List Row) → t.meta ≡ r ∷ rest → is_meta r ≡ true → IsTableVerdict t Meta (first_meta is_meta true rest)
  unfolding first_meta
  after_first r [] is passes = only r is passes
  after_first r (x ∷ rest) is passes = second r x rest is passes

  at_first : (r : Row) (rest : List Row) → t.meta ≡ r ∷ rest → is_meta r ≡ false → IsTableVerdict t Meta (least_key (Some (take 1 r)) (Some one_key))
  at_first r rest is fails = go (row_cmp one_key (take 1 r)) refl where
    go : (o : Ordering) → row_cmp one_key (take 1 r) ≡ o → IsTableVerdict t Meta (cond (is_lt (row_cmp one_key (take 1 r))) (Some one_key) (Some (take 1 r)))
    go Less e = subst (λ (b : Bool). IsTableVerdict t Meta (cond b (Some one_key) (Some (take 1 r)))) (sym (ap is_lt e)) (missing r rest is e)
    go Equal e =
        subst (λ (b : Bool). IsTableVerdict t Meta (cond b (Some one_key) (Some (take 1 r)))) (sym (ap is_lt e)) (first_bad r rest is fails (λ low. let both : Less ≡ Equal = sym low ∙ e in absurd cc))
    go Greater e =
        subst (λ (b : Bool). IsTableVerdict t Meta (cond b (Some one_key) (Some (take 1 r)))) (sym (ap is_lt e))
        (first_bad r rest is fails (λ low. let both : Less ≡ Greater = sym low ∙ e in absurd cc))

  -- THE VERDICT on meta
  pub meta_verdict : IsTableVerdict t Meta (first_meta is_meta false t.meta)
  unfolding first_meta
  meta_verdict = go t.meta refl where
    go : (rows : List Row) → t.meta ≡ rows → IsTableVerdict t Meta (first_meta is_meta false t.meta)
    go [] is = subst (λ (rows : List Row). IsTableVerdict t Meta (first_meta is_meta false rows)) (sym is) (none_there is)
    go (r ∷ rest) is = subst (λ (rows : List Row). IsTableVerdict t Meta (first_meta is_meta false rows)) (sym is) (by (is_meta r) refl) where
      by : (b : Bool) → is_meta r ≡ b → IsTableVerdict t Meta (cond (is_meta r) (first_meta is_meta true rest) (least_key (Some (take 1 r)) (Some one_key)))
      by true e = subst (λ (b : Bool). IsTableVerdict t Meta (cond b (first_meta is_meta true rest) (least_key (Some (take 1 r)) (Some one_key)))) (sym e) (after_first r rest is e)
      by false e = subst (λ (b : Bool). IsTableVerdict t Meta (cond b (first_meta is_meta true rest) (least_key (Some (take 1 r)) (Some one_key)))) (sym e) (at_first r rest is e)
