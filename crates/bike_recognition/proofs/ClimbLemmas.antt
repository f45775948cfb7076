-- Numbers that climb when all rowids of a table are listed: the rowids are apart.
use Rattle.std.proofs.Common.{◌≡◌, ℕ, ℤ, ◌<ℤ◌, List, [], ◌∷◌, ◌++◌, map, true, false, Option, Some, None, Ordering, Less, Equal, Greater, refl, ap, subst, sym, ◌∙◌, arith}
use Rattle.std.specs.Prelude.{int_lt}
use Rattle.std.specs.Cmp.{int_ranks, eq_by_cmp_equiv}
use Rattle.std.specs.List.{AllByRecursion, IsDistinct}
use Rattle.std.specs.List.Sorted.{IsPermutation}
use Rattle.std.specs.Ordering.{int_cmp, eq_by_cmp, MatchOrdering}
use Rattle.std.proofs.lemmas.Bool.{true≢false}
use Rattle.std.proofs.lemmas.Int.{ints}
use Rattle.std.proofs.lemmas.List.Sorted.{IsPermutation-map, IsPermutation-sym}
use Rattle.std.proofs.lemmas.Map.Keys.{IsDistinct-IsPermutation}
use Rattle.sqlite_value.specs.declared.value.Value.{Value}
use Rattle.sqlite_value.specs.declared.value.Value.TheVariants.{Null, Int}
use Rattle.sqlite_value.specs.Order.{Row, value_cmp}
use Rattle.sqlite_value.proofs.OrderLemmas.{then-Equal, value_cmp-Int}
use Rattle.sqlite_sql.specs.Query.{Output, IsAnswerAs}
use Rattle.sqlite_sql.specs.Program.{overlay}
use Rattle.sqlite_sql.specs.Term.{col}
use Rattle.sqlite_trees.specs.Tree.{Trees, rowid}
use Rattle.sqlite_trees.specs.View.{is_int}
use Rattle.sqlite_rules.specs.Lists.{Has}
use Rattle.bike_sql.specs.Queries.{by_columns}
use Rattle.bike_sql.specs.View.{by_key, AreSpread}
use Rattle.bike_sql.proofs.AnswerLemmas.{out, answered}
use Rattle.bike_sql.proofs.RowListLemmas.{map_map, filter_all, has_map, map_has, permuted}
use Rattle.bike_sql.proofs.OrderLemmas.{Rises}
use Rattle.bike_sql.proofs.SortLemmas.{AreApartAll, rising_apart}
use Rattle.bike_sql.proofs.TreeLemmas.{by_key_total}
use Rattle.bike_recognition.specs.declared.rowids.Rowid.{Rowid}
use Rattle.bike_recognition.specs.Rowids.{rowids_query, AreApart, rowid_row, shown_rowid, is_above, Climb, ReachUpTo}

-- ---- one number more

below_both : {P Q : ℤ → Type 0} (ids : List ℤ) (n : ℤ) → ((m : ℤ) → P m → Q m) → AllByRecursion P ids → Q n → AllByRecursion Q (ids ++ n ∷ [])
below_both [] n to all last = (last, tt)
below_both (m ∷ ids) n to all last = (to m all.0, below_both ids n to all.1 last)

climb_on : (ids : List ℤ) (n : ℤ) → Climb ids → AllByRecursion (λ m. m <ℤ n) ids → Climb (ids ++ n ∷ [])
climb_on [] n climb low = (tt, tt)
climb_on (m ∷ ids) n climb low = (below_both ids n (λ _ h. h) climb.0 low.0, climb_on ids n climb.1 low.1)

int_below : (m n : ℤ) → int_lt m n ≡ true → m <ℤ n
int_below m n h = grind (arith, ints)

-- all are below a number that is above the last
reached : (last : Option Rowid) (id : Rowid) (ids : List ℤ) → ReachUpTo last ids → is_above last id ≡ true → AllByRecursion (λ m. m <ℤ id.number) ids
reached None id ids none above = subst (AllByRecursion (λ m. m <ℤ id.number)) (sym none) tt
reached (Some last) id ids reach above = reach id.number (int_below last.number id.number above)

pub climb_more : (last : Option Rowid) (id : Rowid) (ids : List ℤ) → Climb ids → ReachUpTo last ids → is_above last id ≡ true
    → Climb (ids ++ id.number ∷ []) × ReachUpTo (Some id) (ids ++ id.number ∷ [])
climb_more last id ids climb reach above =
    let low = reached last id ids reach above in
    (climb_on ids id.number climb low, λ n high. below_both ids id.number (λ m lower. omega (arith, ints, lower, high)) low high)

-- ---- all of them

by_number : (m n : ℤ) → m <ℤ n → by_key 1 (rowid_row m) (rowid_row n) ≡ Less
by_number m n low = then-Equal _ ∙ value_cmp-Int m n ∙ ranked (int_cmp m n) (int_ranks m n)
  where
    ranked : (o : Ordering) → MatchOrdering o (m <ℤ n) (m ≡ n) (n <ℤ m) → o ≡ Less
    ranked Less h = refl
    ranked Equal h = absurd (omega (arith, ints, h, low))
    ranked Greater h = absurd (omega (arith, ints, h, low))

rows_rise : (ids : List ℤ) → Climb ids → Rises (by_key_total 1) (map rowid_row ids)
rows_rise [] climb = tt
rows_rise (m ∷ ids) climb = (above_all ids climb.0, rows_rise ids climb.1)
  where
    above_all : (more : List ℤ) → AllByRecursion (λ n. m <ℤ n) more → AllByRecursion (λ row. by_key 1 (rowid_row m) row ≡ Less) (map rowid_row more)
    above_all [] h = tt
    above_all (n ∷ more) h = (by_number m n h.0, above_all more h.1)

one_value : (v : Value) (n : ℤ) → ◌≡◌ {A = Row} (v ∷ []) (rowid_row n) → is_int v ≡ true
one_value v n same = let e : v ≡ Int n = cc in ap is_int e

ties_not : (r : Row) (rows : List Row) → AllByRecursion (λ other. eq_by_cmp (by_key 1) (shown_rowid r) other ≡ false) (map shown_rowid rows)
    → AllByRecursion (λ x. value_cmp (rowid r) (rowid x) ≡ Equal → ⊥) rows
ties_not r [] h = tt
ties_not r (x ∷ rows) h = (no_tie, ties_not r rows h.1)
  where
    no_tie : value_cmp (rowid r) (rowid x) ≡ Equal → ⊥
    no_tie tie = let same : by_key 1 (shown_rowid r) (shown_rowid x) ≡ Equal = then-Equal (value_cmp (rowid r) (rowid x)) ∙ tie in true≢false (rw same at h.0)

spread_of : (rows : List Row) → AreApartAll (by_key_total 1) (map shown_rowid rows) → AreSpread rows
unfolding IsDistinct
spread_of [] h = tt
spread_of (r ∷ rows) h = (ties_not r rows h.0, spread_of rows h.1)

-- rowids that were all given, and climbed
pub given_apart : (rows : List Row) (ids : List ℤ) → Climb ids → IsPermutation (map shown_rowid rows) (map rowid_row ids) → AreApart rows
unfolding IsDistinct
given_apart rows ids climb same =
    (spread_of rows apart, λ r h. number r (map_has rowid_row ids (shown_rowid r) (permuted (map shown_rowid rows) (map rowid_row ids) (shown_rowid r) same (has_map shown_rowid rows r h))))
  where
    apart : AreApartAll (by_key_total 1) (map shown_rowid rows)
    apart =
        IsDistinct-IsPermutation (eq_by_cmp (by_key 1)) (eq_by_cmp_equiv (by_key_total 1)).symm (map rowid_row ids) (map shown_rowid rows) (IsPermutation-sym _ _ same)
        (rising_apart (by_key_total 1) (map rowid_row ids) (rows_rise ids climb))

    number : (r : Row) → (n : ℤ) × Has ids n × (shown_rowid r ≡ rowid_row n) → is_int (rowid r) ≡ true
    number r h = one_value (rowid r) h.0 h.2

-- the answer holds the rowid of each stored row, once for each
pub all_given : (tree : ℕ) (trees : Trees) (rows : List Row) → IsAnswerAs Null (rowids_query tree) (overlay trees []) [] rows → IsPermutation (map shown_rowid (trees tree)) rows
all_given tree trees rows answer =
    let order = by_columns (0 ∷ []) in
    let project = col 1 0 ∷ [] in
    let shows = out tree [] order project trees [] in
    let it = answered tree [] order project trees [] Null rows answer in
    let second = λ (o : Output). o.1 in
    let same : IsPermutation (map shows (trees tree)) it.outs = subst (λ rs. IsPermutation (map shows rs) it.outs) (filter_all (trees tree)) it.same in
    let moved = IsPermutation-map second (map shows (trees tree)) it.outs same in
    subst (IsPermutation (map shown_rowid (trees tree))) (sym it.shown) (subst (λ xs. IsPermutation xs (map second it.outs)) (map_map shows second (trees tree)) moved)
