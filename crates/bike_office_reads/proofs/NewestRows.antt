-- The statements that look for newest rentals, and whose rows they find. WHERE tests ORDER BY the key DESC LIMIT 1 answers the row with the last key of those that pass.
use Rattle.std.proofs.Common.{◌≡◌, ◌<◌, inl, inr, ℕ, suc, ℤ, pos, negsuc, List, [], ◌∷◌, codes, length, map, filter, find, take, slice_get, Bool, true, false, cond, ◌&&◌, ◌==◌, Option, Some, None}
use Rattle.std.proofs.Common.{Ordering, Less, Equal, Greater, refl, sym, ap, ap₂, subst, ◌∙◌, arith}
use Rattle.std.specs.Prelude.{fold, nat_lt, option_map}
use Rattle.std.specs.Ordering.{nat_cmp, is_eq, is_lt, is_gt, MatchOrdering}
use Rattle.std.specs.Cmp.{ranks, unsigned_tied}
use Rattle.std.specs.List.{list_all, list_any}
use Rattle.std.specs.List.Sorted.{IsSorted}
use Rattle.std.proofs.lemmas.Cmp.{tied_itself}
use Rattle.std.proofs.lemmas.Bool.{true≢false, lt-ltb, le-ltb}
use Rattle.std.proofs.lemmas.List.Sorted.{length_permutation}
use Rattle.std.proofs.lemmas.List.{length-map}
use Rattle.sqlite_value.specs.declared.value.Value.{Value}
use Rattle.sqlite_value.specs.declared.value.Value.TheVariants.{Null, Int, Real, Text, Blob}
use Rattle.sqlite_value.specs.declared.keys.Key.{Key}
use Rattle.sqlite_value.specs.declared.keys.Collation.TheVariants.{Binary}
use Rattle.sqlite_value.specs.Order.{Row, column, value_cmp, row_cmp}
use Rattle.sqlite_value.proofs.OrderLemmas.{value_cmp-Null, then-Equal}
use Rattle.sqlite_trees.specs.Tree.{rowid, IsAscending}
use Rattle.sqlite_trees.proofs.ListLemmas.{filter-map}
use Rattle.sqlite_sql.specs.Ops.{binary, is_true, is_null}
use Rattle.sqlite_sql.specs.Term.{Term, lit, col, op2, eval, eval_all, holds}
use Rattle.sqlite_sql.specs.declared.ops.BinaryOp.TheVariants.{Compare}
use Rattle.sqlite_sql.specs.declared.ops.CompareOp.TheVariants.{Gt}
use Rattle.sqlite_sql.specs.Query.{Output, output_cmp}
use Rattle.sqlite_sql.proofs.QueryLemmas.{output_cmp_total}
use Rattle.sqlite_rules.specs.Lists.{Has}
use Rattle.sqlite_tied.specs.Compute.{everything}
use Rattle.sqlite.specs.Effect.{Database}
use Rattle.bike_sql.specs.Keyed.{in_order}
use Rattle.bike_sql.specs.Layout.{Layout, table_of}
use Rattle.bike_sql.specs.View.{columns_of, by_key, rows_where, last_of}
use Rattle.bike_sql.specs.Stands.{rows_of, Stands}
use Rattle.bike_sql.specs.Queries.{table_query, limit_query, only_one, key_tests, key_in, null_tests}
use Rattle.bike_sql.specs.Answer.{MeansQuery, HasOneAnswer}
use Rattle.bike_sql.proofs.OrderLemmas.{AreApart, all_has, rises, order_has, has_order}
use Rattle.bike_sql.proofs.KeyLemmas.{IsKeyAt}
use Rattle.bike_sql.proofs.RowListLemmas.{map_map, has_map, map_has, has_filter, permuted, no_list, same_some}
use Rattle.bike_sql.proofs.TreeLemmas.{by_key_total, shown_apart}
use Rattle.bike_sql.proofs.AnswerLemmas.{passes, out, Answered, answered_page, out_from}
use Rattle.bike_sql.proofs.FrameLemmas.{rows_of_is}
use Rattle.bike_sql.proofs.PageLaw.{map_same_list, tests_null}
use Rattle.bike_sql.proofs.RangeLaw.{order_filter, filter_has_same}
use Rattle.bike_sql.proofs.SelectLaws.{AreShown, places_of, every_column, rows_passing}
use Rattle.bike_sql.proofs.SortLemmas.{ascends}
use Rattle.bike_sql.proofs.TestLemmas.{tests_key, truth_of}
use Rattle.bike_sql.proofs.TextLemmas.{IsSelect, select_means}
use Rattle.bike_sql.proofs.WalkLaw.{Finds, one_answer}
use Rattle.bike_ledger.specs.Entries.{Entry}
use Rattle.bike_ledger.specs.Ledger.{refunded_of}
use Rattle.bike_operator.specs.declared.records.Rental.{Rental}
use Rattle.bike_operator.specs.Operator.{Operator}
use Rattle.bike_operator.specs.Counts.{is_open}
use Rattle.bike_book.specs.Tables.{Rentals}
use Rattle.bike_book.specs.Rows.{number_value, rental_row}
use Rattle.bike_book.specs.Stored.{numbers_from, with_numbers, stored_rental}
use Rattle.bike_book.proofs.FoundNumbers.{finish_null}
use Rattle.bike_book.proofs.Keys.{value_cmp-number_value}
use Rattle.bike_schema.specs.Layouts.{layout_of}
use Rattle.bike_schema.proofs.AnswerLemmas.{FindsIn}
use Rattle.bike_schema.proofs.KeyLemmas.{table_key}
use Rattle.bike_book.specs.Found.{IsLast, rows_open}
use Rattle.bike_office_reads.specs.declared.newest.Ride.{Ride}
use Rattle.bike_office_reads.specs.Newest.{newest_rental, number_if_open, open_number_in, number_in, open_after, ride_of}
use Rattle.bike_schema.proofs.ListedLemmas.{ListsIn}

-- ---- the row with the last key

-- the last of rows that rise is the one that is below none
last_is : (keys : ℕ) (rows : List Row) (row : Row) → IsAscending (λ a b. by_key keys a b ≡ Less) rows → Has rows row → ((y : Row) → Has rows y → by_key keys row y ≡ Less → ⊥) → last_of rows ≡ row ∷ []
last_is keys [] row up has below = elim has [ ]
last_is keys (x ∷ []) row up (inl is) below = ap (λ r. r ∷ []) (sym is)
last_is keys (x ∷ []) row up (inr none) below = elim none [ ]
last_is keys (x ∷ y ∷ rows) row up (inl is) below = absurd (below y (inr (inl refl)) (subst (λ r. by_key keys r y ≡ Less) (sym is) up.0.0))
last_is keys (x ∷ y ∷ rows) row up (inr later) below = last_is keys (y ∷ rows) row up.1 later (λ z h. below z (inr h))

-- ORDER BY the INTEGER PRIMARY KEY DESC
abbrev pub down : List (Term × Key)
down = (col 1 0, record { collation = Binary; descending = true }) ∷ []

-- The key is an INTEGER PRIMARY KEY, the query shows each column, and its tests decide of a stored row what `test` does of the row that shows.
module _ (layout : Layout) (db : Database) (was : Stands db 1 layout) (text : List ℕ) (params : Row) (tests : List Term) (project : List Term) (names : List (List ℕ))
    (means : MeansQuery db.schema text (limit_query only_one (table_query was.tree tests down project)) names) (first : (r : Row) → take 1 (columns_of (table_of layout was.tree) r) ≡ rowid r ∷ [])
    (shows : (r : Row) → eval_all project (params ∷ r ∷ []) ≡ columns_of (table_of layout was.tree) r) (test : Row → Bool)
    (decides : (r : Row) → list_all (holds (params ∷ r ∷ [])) tests ≡ test (columns_of (table_of layout was.tree) r)) where
  abbrev f : Row → Row
  f = columns_of (table_of layout was.tree)

  abbrev stored : List Row
  stored = db.trees was.tree

  abbrev passed : Row → Bool
  passed = passes was.tree tests down project db.trees params

  abbrev found : List Row
  found = filter passed stored

  abbrev o : Row → Output
  o = out was.tree tests down project db.trees params

  abbrev all : List Row
  all = in_order (by_key 1) (map f found)

  found_apart : AreApart (by_key_total 1) (map f found)
  found_apart a b p q tie = shown_apart 1 (table_of layout was.tree) stored was.keyed a b (there a p) (there b q) tie where
    there : (x : Row) → Has (map f found) x → Has (map f stored) x
    there x h = let it = map_has f found x h in subst (Has (map f stored)) (sym it.2) (has_map f stored it.0 (has_filter passed stored it.0 it.1).0)

  cut : (outs : List Output) (rows : List Row) → (a : Answered was.tree tests down project db.trees params rows) → a.outs ≡ outs → take 1 (map (λ (x : Output). x.1) outs) ≡ last_of all
  cut [] rows a is =
      let none : found ≡ [] = no_list found (sym (length-map found o) ∙ sym (length_permutation (map o found) a.outs a.same) ∙ ap length is) in
      sym (ap (λ rs. last_of (in_order (by_key 1) (map f rs))) none)
  cut (x ∷ outs) rows a is =
      let from = out_from was.tree tests down project db.trees params rows a x (subst (λ xs. Has xs x) (sym is) (inl refl)) in
      let r = from.0 in
      let shown : x.1 ≡ f r = ap (λ (y : Output). y.1) from.2 ∙ shows r in
      let sorted = ascends (output_cmp_total (table_query was.tree tests down project)) (x ∷ outs) (subst (IsSorted (output_cmp (table_query was.tree tests down project))) is a.sorted) in
      sym (last_is 1 all x.1 (rises (by_key_total 1) (map f found)) (rw shown (has_order (by_key_total 1) (map f found) found_apart (f r) (has_map f found r from.1)))
      (λ y has low.
      let s = map_has f found y (order_has (by_key_total 1) (map f found) y has) in
      let out_s : Has (x ∷ outs) (o s.0) = subst (λ xs. Has xs (o s.0)) is (permuted (map o found) a.outs (o s.0) a.same (has_map o found s.0 s.1)) in
      elim out_s [
        | inl same ↦ (
            let one : y ≡ x.1 = s.2 ∙ sym (shows s.0) ∙ ap (λ (z : Output). z.1) same in
            let tie : by_key 1 x.1 x.1 ≡ Equal = tied_itself (by_key_total 1) x.1 in
            let less : by_key 1 x.1 x.1 ≡ Less = subst (λ z. by_key 1 x.1 z ≡ Less) one low in
            absurd (let e : Less ≡ Equal = sym less ∙ tie in cc)
            )
        | inr later ↦ (
            let not_below : is_lt (output_cmp (table_query was.tree tests down project) (o s.0) x) ≡ false = all_has (λ z. is_lt (output_cmp (table_query was.tree tests down project) z x) ≡ false) outs (o s.0) sorted.0 later in
            let compared : is_lt (output_cmp (table_query was.tree tests down project) (o s.0) (o r)) ≡ false = subst (λ z. is_lt (output_cmp (table_query was.tree tests down project) (o s.0) z) ≡ false) from.2 not_below in
            let less : row_cmp (rowid r ∷ []) (rowid s.0 ∷ []) ≡ Less = rowids r s.0 (rw (← shown, ← s.2) low) in
            absurd (true≢false (rw less at compared))
            )
      ]))
    where
      rowids : (a b : Row) → by_key 1 (f a) (f b) ≡ Less → row_cmp (rowid a ∷ []) (rowid b ∷ []) ≡ Less
      rowids a b h = rw (first a, first b) at h

  pub last_passing : HasOneAnswer db text params (last_of (filter test (rows_of 1 layout.name db)))
  last_passing = one_answer db text params (limit_query only_one (table_query was.tree tests down project)) names (last_of (filter test (rows_of 1 layout.name db))) means (λ rows answer.
      let it = answered_page was.tree tests down project db.trees params only_one Null rows answer in
      let passing : all ≡ filter test (rows_of 1 layout.name db) =
      ap (λ rs. in_order (by_key 1) (map f rs)) (filter_has_same passed (λ r. test (f r)) stored (λ r has. decides r))
      ∙ ap (in_order (by_key 1)) (sym (filter-map test f stored))
      ∙ order_filter (by_key_total 1) test (map f stored) (shown_apart 1 (table_of layout was.tree) stored was.keyed)
      ∙ ap (filter test) (sym (rows_of_is db 1 layout was)) in
      it.2 ∙ ap (take 1) it.1.shown ∙ cut it.1.outs it.0 it.1 refl ∙ ap last_of passing)

shows_every : (layout : Layout) (tree : ℕ) (params r : Row) → eval_all (every_column layout) (params ∷ r ∷ []) ≡ columns_of (table_of layout tree) r
shows_every layout tree params r = map_map _ (λ term. eval term (params ∷ r ∷ [])) _

-- SELECT * FROM the table WHERE the columns equal the parameters from one on ORDER BY its key DESC LIMIT 1
module _ {layout : Layout} (key : IsKeyAt 1 layout (0 ∷ [])) {db : Database} (was : Stands db 1 layout) {text : List ℕ} {params : Row} where
  last_with : (at : ℕ) (columns : List ℕ) → IsSelect (limit_query only_one (table_query 0 (key_tests at (places_of layout columns)) down (every_column layout))) layout text
      → list_any is_null (key_in at (places_of layout columns) params) ≡ false → AreShown layout columns
      → Finds db text params (slice_get (last_of (rows_where columns (key_in at (places_of layout columns) params) (rows_of 1 layout.name db))) 0)
  last_with at columns is solid same =
      let it = select_means (limit_query only_one (table_query 0 (key_tests at (places_of layout columns)) down (every_column layout))) layout text is db.schema was.at was.tree was.has in
      let values = key_in at (places_of layout columns) params in
      record {
        all = _;
        one =
            last_passing layout db was text params (key_tests at (places_of layout columns)) (every_column layout) it.0 it.1 key.first (shows_every layout was.tree params)
            (λ row. is_eq (row_cmp (map (column row) columns) values))
            (λ r. tests_key at (places_of layout columns) params r solid ∙ ap (λ k. is_eq (row_cmp k values)) (sym (same r)));
        first = refl;
      }

pub finds_newest : (rider : ℕ) → FindsIn (codes "SELECT * FROM rentals WHERE rider = ?1 ORDER BY rental DESC LIMIT 1") (number_value rider ∷ [])
    (λ t. slice_get (last_of (rows_where (1 ∷ []) (number_value rider ∷ []) t.rentals)) 0)
unfolding everything
finds_newest rider = record { finds = λ db has. last_with (table_key Rentals) (has Rentals) 0 (1 ∷ []) (λ tree. refl, refl) refl (λ r. refl) }

-- ---- the first row behind a number that is open

-- `>` with a whole number is the order of values
over_test : (v : Value) (n : ℤ) → is_true (binary (Compare Gt Binary) v (Int n)) ≡ is_gt (value_cmp v (Int n))
unfolding binary
over_test Null n = sym (ap is_gt (value_cmp-Null (Int n)))
over_test (Int m) n = truth_of (is_gt (value_cmp (Int m) (Int n)))
over_test (Real x) n = truth_of (is_gt (value_cmp (Real x) (Int n)))
over_test (Text t) n = truth_of (is_gt (value_cmp (Text t) (Int n)))
over_test (Blob b) n = truth_of (is_gt (value_cmp (Blob b) (Int n)))

-- the first column comes after the number, and the finish is NULL
abbrev pub is_open_behind : ℕ → Row → Bool
is_open_behind number row = is_gt (value_cmp (column row 0) (number_value number)) && list_all is_null (map (column row) (7 ∷ []))

abbrev behind_tests : List Term
behind_tests = op2 (Compare Gt Binary) (col 1 0) (col 0 0) ∷ null_tests (places_of (layout_of Rentals) (7 ∷ []))

decides_behind : (number : ℕ) (r : Row) → list_all (holds ((number_value number ∷ []) ∷ r ∷ [])) behind_tests ≡ is_open_behind number (columns_of (table_of (layout_of Rentals) 0) r)
decides_behind number r = ap₂ (λ (a b : Bool). a && b) (over_test (column r 0) (pos number)) (tests_null (places_of (layout_of Rentals) (7 ∷ [])) (number_value number ∷ []) r)

abbrev behind_text : List ℕ
behind_text = codes "SELECT * FROM rentals WHERE rental > ?1 AND finish IS NULL ORDER BY rental"

pub lists_open_after : (number : ℕ) → ListsIn behind_text (number_value number ∷ []) (λ t. filter (is_open_behind number) t.rentals)
unfolding everything
lists_open_after number = record {
  lists = λ db has. subst (HasOneAnswer db behind_text (number_value number ∷ [])) (map_same_list _)
      (rows_passing (table_key Rentals) (has Rentals) (every_column (layout_of Rentals)) (λ row. row) (λ r. refl) behind_tests (lit (Int (negsuc 0))) (is_open_behind number) (λ tree. refl, refl)
      (decides_behind number));
}

-- ---- the rentals whose rows they are

-- the last of these rows, or the one before them
abbrev last_or : Option Row → List Row → Option Row
last_or so_far [] = so_far
last_or so_far (row ∷ rows) = last_or (Some row) rows

last_of_is : (row : Row) (rows : List Row) → slice_get (last_of (row ∷ rows)) 0 ≡ last_or (Some row) rows
last_of_is row [] = refl
last_of_is row (next ∷ rows) = last_of_is next rows

none_before : (rows : List Row) → slice_get (last_of rows) 0 ≡ last_or None rows
none_before [] = refl
none_before (row ∷ rows) = last_of_is row rows

module _ {A : Type 0} (row : A → Row) (pass : Row → Bool) (test : A → Bool) (same : (x : A) → pass (row x) ≡ test x) where
  -- the last row that passes is that of the last that passes
  last_passed : (so_far : Option A) (xs : List A) → last_or (option_map row so_far) (filter pass (map row xs)) ≡ option_map row (fold (λ d x. cond (test x) (Some x) d) so_far xs)
  last_passed so_far [] = refl
  last_passed so_far (x ∷ xs) = rw (same x) (go (test x) (last_passed (Some x) xs) (last_passed so_far xs)) where
    go : (b : Bool) → last_or (Some (row x)) (filter pass (map row xs)) ≡ option_map row (fold (λ d y. cond (test y) (Some y) d) (Some x) xs)
        → last_or (option_map row so_far) (filter pass (map row xs)) ≡ option_map row (fold (λ d y. cond (test y) (Some y) d) so_far xs)
        → last_or (option_map row so_far) (cond b (row x ∷ filter pass (map row xs)) (filter pass (map row xs))) ≡ option_map row (fold (λ d y. cond (test y) (Some y) d) (cond b (Some x) so_far) xs)
    go true taken left = taken
    go false taken left = left

  -- and the first that of the first
  first_passed : (xs : List A) → slice_get (filter pass (map row xs)) 0 ≡ option_map row (find test xs)
  first_passed [] = refl
  first_passed (x ∷ xs) = rw (same x) (go (test x) (first_passed xs)) where
    go : (b : Bool) → slice_get (filter pass (map row xs)) 0 ≡ option_map row (find test xs)
        → slice_get (cond b (row x ∷ filter pass (map row xs)) (filter pass (map row xs))) 0 ≡ option_map row (cond b (Some x) (find test xs))
    go true rest = refl
    go false rest = rest

same_number : (a b : ℕ) → is_eq (row_cmp (number_value a ∷ []) (number_value b ∷ [])) ≡ (a == b)
same_number a b = ap is_eq (then-Equal (value_cmp (number_value a) (number_value b)) ∙ value_cmp-number_value a b) ∙ unsigned_tied a b

behind_is : (a b : ℕ) → is_gt (nat_cmp a b) ≡ nat_lt b a
behind_is a b = by (nat_cmp a b) (ranks a b) where
  by : (r : Ordering) → MatchOrdering r (a < b) (a ≡ b) (b < a) → is_gt r ≡ nat_lt b a
  by Less h = sym (le-ltb b a (omega (arith, h)))
  by Equal h = sym (le-ltb b a (omega (arith, h)))
  by Greater h = sym (lt-ltb b a h)

pub newest_found : (s : Operator) (rider : ℕ) → slice_get (last_of (rows_where (1 ∷ []) (number_value rider ∷ []) (map (stored_rental s.entries.items) (with_numbers s.rentals)))) 0
    ≡ option_map (stored_rental s.entries.items) (newest_rental s rider)
newest_found s rider =
    let passes = λ (row : Row). is_eq (row_cmp (map (column row) (1 ∷ [])) (number_value rider ∷ [])) in
    none_before (filter passes (map (stored_rental s.entries.items) (with_numbers s.rentals)))
    ∙ last_passed (stored_rental s.entries.items) passes (λ e. e.1.rider == rider) (λ e. same_number e.1.rider rider) None (with_numbers s.rentals)

pub open_found : (s : Operator) (number : ℕ) → slice_get (filter (is_open_behind number) (map (stored_rental s.entries.items) (with_numbers s.rentals))) 0
    ≡ option_map (stored_rental s.entries.items) (open_after s number)
open_found s number =
    first_passed (stored_rental s.entries.items) (is_open_behind number) (λ e. nat_lt number e.0 && is_open e.1)
    (λ e. ap₂ (λ (a b : Bool). a && b) (ap is_gt (value_cmp-number_value e.0 number) ∙ behind_is e.0 number) (finish_null s.entries.items e.0 e.1 e.1.closing)) (with_numbers s.rentals)

-- the number of each is greater than 0
pub all_open : (s : Operator) → filter (is_open_behind 0) (map (stored_rental s.entries.items) (with_numbers s.rentals)) ≡ rows_open (map (stored_rental s.entries.items) (with_numbers s.rentals))
all_open s = go s.rentals.archived s.rentals.items where
  go : (n : ℕ) (rs : List Rental) → filter (is_open_behind 0) (map (stored_rental s.entries.items) (numbers_from (suc n) rs))
      ≡ rows_open (map (stored_rental s.entries.items) (numbers_from (suc n) rs))
  go n [] = refl
  go n (r ∷ rs) =
      let row : Row = stored_rental s.entries.items (suc n, r) in
      ap₂ (λ (b : Bool) (rest : List Row). cond b (row ∷ rest) rest)
      (ap (λ (b : Bool). b && list_all is_null (map (column row) (7 ∷ []))) (ap is_gt (value_cmp-number_value (suc n) 0) ∙ behind_is (suc n) 0 ∙ lt-ltb 0 (suc n) (omega arith))) (go (suc n) rs)

-- ---- what is read of those rows

pub newest_last : (es : List Entry) (o : Option (ℕ × Rental)) → IsLast 0 (number_in o) (option_map (stored_rental es) o)
newest_last es None = refl
newest_last es (Some e) = refl

pub open_told : (es : List Entry) (o : Option (ℕ × Rental)) {row : Row} {x : Option ℕ} → Some row ≡ option_map (stored_rental es) o
    → ((number : ℕ) (r : Rental) (refunded : ℤ) → row ≡ rental_row number r refunded → x ≡ number_if_open (number, r)) → x ≡ open_number_in o
open_told es None is reads = absurd cc
open_told es (Some e) is reads = reads e.0 e.1 (refunded_of e.0 es) (same_some is)

pub none_told : (es : List Entry) (o : Option (ℕ × Rental)) → None ≡ option_map (stored_rental es) o → None ≡ open_number_in o
none_told es None is = refl
none_told es (Some e) is = absurd cc

pub ride_told : (es : List Entry) (o : Option (ℕ × Rental)) {row : Row} {x : Ride} → Some row ≡ option_map (stored_rental es) o
    → ((number : ℕ) (r : Rental) (refunded : ℤ) → row ≡ rental_row number r refunded → x ≡ ride_of (number, r))
    → Some x ≡ option_map ride_of o
ride_told es None is reads = absurd cc
ride_told es (Some e) is reads = ap Some (reads e.0 e.1 (refunded_of e.0 es) (same_some is))

pub no_ride : (es : List Entry) (o : Option (ℕ × Rental)) → None ≡ option_map (stored_rental es) o → None ≡ option_map ride_of o
no_ride es None is = refl
no_ride es (Some e) is = absurd cc
