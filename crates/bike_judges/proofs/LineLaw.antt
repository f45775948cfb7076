-- The verdict of a pass over lines by themselves: the least key whose row fails the test.
use Rattle.std.proofs.Common.{◌≡◌, inl, inr, ℕ, suc, List, [], ◌∷◌, ◌++◌, append_assoc, length, length-append, map, Bool, true, false, cond, Option, Some, None, refl, sym, ap, subst, ◌∙◌}
use Rattle.std.proofs.Common.{arith}
use Rattle.std.specs.Prelude.{take, IfSome}
use Rattle.std.specs.Ordering.{ordering_reverse}
use Rattle.std.specs.declared.cmp.Ordering.TheVariants.{Less, Equal}
use Rattle.std.proofs.lemmas.Cmp.{tied_itself}
use Rattle.sqlite_value.specs.Order.{Row, row_cmp}
use Rattle.sqlite_value.proofs.OrderLemmas.{row_cmp_total}
use Rattle.sqlite_rules.specs.Lists.{Has}
use Rattle.bike_sql.specs.View.{by_key}
use Rattle.bike_sql.proofs.OrderLemmas.{Rises, all_has}
use Rattle.bike_sql.proofs.TreeLemmas.{by_key_total}
use Rattle.bike_book.specs.Tables.{TableName, Tables, rows_in, keys_of}
use Rattle.bike_readings.specs.Rules.{AreInOrder, row_under, rows_below}
use Rattle.bike_readings.proofs.Places.{lesser, lesser_before, has_under, under_has}
use Rattle.bike_readings.proofs.RowRules.{below_tied}
use Rattle.bike_judges.specs.Passes.{first_failing, OfRow, Demands}
use Rattle.bike_judges.specs.Verdicts.{IsFirstFailing}

rest_rises : (keys : ℕ) (before rest : List Row) → Rises (by_key_total keys) (before ++ rest) → Rises (by_key_total keys) rest
rest_rises keys [] rest up = up
rest_rises keys (x ∷ before) rest up = rest_rises keys before rest up.1

module _ (t : Tables) (name : TableName) (up : AreInOrder t) (line : Row → Row) (test : ℕ → Row → Bool) (key : Row → Row)
    (key_is : (row : Row) → Has (rows_in t name) row → key (line row) ≡ take (keys_of name) row) where
  abbrev rows : List Row
  rows = rows_in t name

  abbrev keys : ℕ
  keys = keys_of name

  -- the test of a row at its place
  abbrev passes : Row → Bool
  passes r = test (lesser keys (take keys r) rows) (line r)

  -- the row among these that fails first
  record BadRow (among : List Row) (bad : Row) : Type 0 where
    row : Row
    has : Has among row
    fails : passes row ≡ false
    bad_is : bad ≡ take keys row
    earlier : (r : Row) → Has among r → by_key keys r row ≡ Less → passes r ≡ true

  abbrev Came : List Row → Option Row → Type 0
  Came among None = (r : Row) → Has among r → passes r ≡ true
  Came among (Some bad) = BadRow among bad

  one_more : (r : Row) (rest : List Row) (v : Option Row) → passes r ≡ true → Came rest v → Came (r ∷ rest) v
  one_more r rest None it came = λ x h. elim h [ inl is ↦ ap passes is ∙ it | inr later ↦ came x later ]
  one_more r rest (Some bad) it came = record {
    row = came.row;
    has = inr came.has;
    fails = came.fails;
    bad_is = came.bad_is;
    earlier = λ x h low. elim h [ inl is ↦ ap passes is ∙ it | inr later ↦ came.earlier x later low ];
  }

  first : (r : Row) (rest : List Row) → Rises (by_key_total keys) (r ∷ rest) → Has rows r → passes r ≡ false → Came (r ∷ rest) (Some (key (line r)))
  first r rest rising has fails = record {
    row = r;
    has = inl refl;
    fails = fails;
    bad_is = key_is r has;
    earlier = λ x h low. elim h [
      | inl is ↦ absurd (let tie : by_key keys r r ≡ Equal = tied_itself (by_key_total keys) r in let below : by_key keys r r ≡ Less = subst (λ (z : Row). by_key keys z r ≡ Less) is low in cc)
      | inr later ↦ absurd (
          let above : by_key keys r x ≡ Less = all_has (λ y. by_key keys r y ≡ Less) rest x rising.0 later in
          let back = (by_key_total keys).antisymm x r ∙ ap ordering_reverse above in
          cc
          )
    ];
  }

  each : (before rest : List Row) → rows ≡ before ++ rest → (v : Option Row) → first_failing test key (length before) (map line rest) ≡ v → Came rest v
  unfolding first_failing
  each before [] is v e = subst (Came []) e (λ r h. elim h [ ])
  each before (r ∷ rest) is v e = go (test (length before) (line r)) refl e (each (before ++ r ∷ []) rest (is ∙ sym (append_assoc before (r ∷ []) rest)) v) where
    at : lesser keys (take keys r) rows ≡ length before
    at = ap (lesser keys (take keys r)) is ∙ lesser_before keys before r rest (subst (Rises (by_key_total keys)) is (up name))

    here : (xs : List Row) → Has (xs ++ r ∷ rest) r
    here [] = inl refl
    here (z ∷ xs) = inr (here xs)

    long : length (before ++ r ∷ []) ≡ suc (length before)
    long = length-append before (r ∷ []) ∙ (omega arith)

    go : (b : Bool) → test (length before) (line r) ≡ b → cond b (first_failing test key (suc (length before)) (map line rest)) (Some (key (line r))) ≡ v
        → (first_failing test key (length (before ++ r ∷ [])) (map line rest) ≡ v → Came rest v) → Came (r ∷ rest) v
    go true it more later = one_more r rest v (ap (λ (n : ℕ). test n (line r)) at ∙ it) (later (ap (λ (n : ℕ). first_failing test key n (map line rest)) long ∙ more))
    go false it more later = subst (Came (r ∷ rest)) more
        (first r rest (rest_rises keys before (r ∷ rest) (subst (Rises (by_key_total keys)) is (up name))) (subst (λ (xs : List Row). Has xs r) (sym is) (here before))
        (ap (λ (n : ℕ). test n (line r)) at ∙ it))

  -- what is demanded under a key, where its row passes
  under : (other : Row) → ((r : Row) → Has rows r → row_cmp (take keys r) other ≡ Equal → passes r ≡ true) → Demands t name (λ n row. test n (line row)) other
  under other good = go (row_under t name other) refl where
    go : (o : Option Row) → row_under t name other ≡ o → OfRow (λ n row. test n (line row)) (rows_below t name other) o
    go None e = tt
    go (Some r) e =
        let there = under_has keys other rows r e in
        ap (λ (n : ℕ). test n (line r)) (sym (below_tied keys (take keys r) other there.1 rows)) ∙ good r there.0 there.1

  verdict_is : (v : Option Row) → Came rows v → IsFirstFailing t name (Demands t name (λ n row. test n (line row))) v
  verdict_is None came = λ other. under other (λ r has tie. came r has)
  verdict_is (Some bad) came =
      let found : row_under t name bad ≡ Some came.row = ap (row_under t name) came.bad_is ∙ has_under keys rows came.row (up name) came.has in
      record {
        bad = λ holds. (
            let good : test (rows_below t name bad) (line came.row) ≡ true = subst (OfRow (λ n row. test n (line row)) (rows_below t name bad)) found holds in
            let at : rows_below t name bad ≡ lesser keys (take keys came.row) rows = ap (rows_below t name) came.bad_is in
            let fails : test (rows_below t name bad) (line came.row) ≡ false = ap (λ (n : ℕ). test n (line came.row)) at ∙ came.fails in
            cc);
        own = subst (λ (o : Option Row). IfSome o (λ row. take keys row ≡ bad)) (sym found) (sym came.bad_is);
        before = λ other low. under other (λ r has tie.
            came.earlier r has (row_cmp_total.congr (take keys r) other (take keys came.row) tie ∙ ap (row_cmp other) (sym came.bad_is) ∙ low));
      }

  -- THE VERDICT of lines by themselves
  pub lines_verdict : (verdict : Option Row) → first_failing test key 0 (map line (rows_in t name)) ≡ verdict → IsFirstFailing t name (Demands t name (λ n row. test n (line row))) verdict
  lines_verdict verdict is = verdict_is verdict (each [] rows refl verdict is)

-- THE VERDICT of the rows themselves
pub rows_verdict : (t : Tables) (name : TableName) → AreInOrder t → (test : ℕ → Row → Bool) (key : Row → Row) → ((row : Row) → Has (rows_in t name) row → key row ≡ take (keys_of name) row)
    → (verdict : Option Row) → first_failing test key 0 (rows_in t name) ≡ verdict → IsFirstFailing t name (Demands t name test) verdict
rows_verdict t name up test key key_is verdict is =
    lines_verdict t name up (λ row. row) test key key_is verdict (ap (first_failing test key 0) (same (rows_in t name)) ∙ is)
  where
    same : (rows : List Row) → map (λ (row : Row). row) rows ≡ rows
    same [] = refl
    same (row ∷ rows) = ap (λ (l : List Row). row ∷ l) (same rows)
