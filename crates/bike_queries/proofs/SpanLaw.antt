-- The first row of a table whose number comes after one and whose moment lies in a span.
use Rattle.std.proofs.Common.{◌≡◌, ◌<◌, ◌≤◌, ℕ, ℤ, List, [], ◌∷◌, codes, filter, slice_get, min, Bool, true, false, not, ◌&&◌, Less, Equal, Greater, Ordering, refl, sym, ap, ap₂, subst, ◌∙◌, arith}
use Rattle.std.specs.Prelude.{nat_lt}
use Rattle.std.specs.Ordering.{nat_cmp, is_lt, is_gt, MatchOrdering}
use Rattle.std.specs.Cmp.{ranks}
use Rattle.std.proofs.lemmas.Bool.{lt-ltb, le-ltb, ltb-true, ltb-false}
use Rattle.sqlite_value.specs.declared.value.Value.{Value}
use Rattle.sqlite_value.specs.declared.value.Value.TheVariants.{Null, Int, Real, Text, Blob}
use Rattle.sqlite_value.specs.declared.keys.Collation.TheVariants.{Binary}
use Rattle.sqlite_value.specs.Order.{Row, column, value_cmp}
use Rattle.sqlite_value.proofs.OrderLemmas.{value_cmp-Null}
use Rattle.sqlite_tied.specs.Compute.{everything}
use Rattle.sqlite_sql.specs.Ops.{binary, is_true, is_null}
use Rattle.sqlite_sql.specs.Query.{Query}
use Rattle.sqlite_sql.specs.Term.{Term, col, op2}
use Rattle.sqlite_sql.specs.declared.ops.BinaryOp.TheVariants.{Compare}
use Rattle.sqlite_sql.specs.declared.ops.CompareOp.TheVariants.{Gt, Ge, Lt}
use Rattle.bike_sql.specs.Layout.{table_of}
use Rattle.bike_sql.specs.Queries.{table_query, limit_query, only_one, by_columns}
use Rattle.bike_sql.specs.View.{columns_of}
use Rattle.bike_sql.proofs.PageLaw.{map_same_list, at_least_test, below_test}
use Rattle.bike_sql.proofs.SelectLaws.{every_column, first_passing}
use Rattle.bike_sql.proofs.TestLemmas.{truth_of}
use Rattle.bike_sql.proofs.TextLemmas.{IsSelect}
use Rattle.bike_sql.proofs.WalkLaw.{Finds}
use Rattle.bike_book.specs.Tables.{TableName, rows_in, Rentals, Entries, History}
use Rattle.bike_book.specs.Rows.{number_value}
use Rattle.bike_book.proofs.Keys.{value_cmp-number_value}
use Rattle.bike_schema.specs.Layouts.{layout_of}
use Rattle.bike_schema.proofs.AnswerLemmas.{FindsIn, in_table}
use Rattle.bike_schema.proofs.KeyLemmas.{key_places, table_key}
use Rattle.bike_queries.specs.Spans.{lies_in}
use Rattle.bike_schema.proofs.WithinLaw.{and_true, shows_every}

-- ---- the tests of a WHERE

-- `>` with a whole number is the order of values
pub over_test : (v : Value) (n : ℤ) → is_true (binary (Compare Gt Binary) v (Int n)) ≡ is_gt (value_cmp v (Int n))
unfolding binary
over_test Null n = sym (ap is_gt (value_cmp-Null (Int n)))
over_test (Int m) n = truth_of (is_gt (value_cmp (Int m) (Int n)))
over_test (Real x) n = truth_of (is_gt (value_cmp (Real x) (Int n)))
over_test (Text t) n = truth_of (is_gt (value_cmp (Text t) (Int n)))
over_test (Blob b) n = truth_of (is_gt (value_cmp (Blob b) (Int n)))

-- the value is the begin or greater, and less than the end
abbrev pub is_between : ℕ → ℕ → Value → Bool
is_between begin end v = not (is_lt (value_cmp v (number_value begin))) && (not (is_null v) && is_lt (value_cmp v (number_value end)))

-- the first column comes after the number, and the one at a place lies in the span
abbrev pub is_spanned : ℕ → ℕ → ℕ → ℕ → Row → Bool
is_spanned at number begin end row = is_gt (value_cmp (column row 0) (number_value number)) && is_between begin end (column row at)

-- the rowid > ?1 AND the column at a place of the stored row >= ?2 AND it < ?3
abbrev pub span_tests : ℕ → List Term
span_tests place = op2 (Compare Gt Binary) (col 1 0) (col 0 0) ∷ op2 (Compare Ge Binary) (col 1 place) (col 0 1) ∷ op2 (Compare Lt Binary) (col 1 place) (col 0 2) ∷ []

-- SELECT * FROM the table WHERE those tests ORDER BY its key LIMIT 1
abbrev pub span_query : TableName → ℕ → Query
span_query t place = limit_query only_one (table_query 0 (span_tests place) (by_columns (key_places t)) (every_column (layout_of t)))

abbrev pub span_params : ℕ → ℕ → ℕ → Row
span_params number begin end = number_value number ∷ number_value begin ∷ number_value end ∷ []

-- the table's first column is its rowid, and the column that is tested is stored at the place
pub spanned_in : (t : TableName) {text : List ℕ} (at place : ℕ) (number begin end : ℕ) → ((r : Row) → column (columns_of (table_of (layout_of t) 0) r) 0 ≡ column r 0)
    → ((r : Row) → column (columns_of (table_of (layout_of t) 0) r) at ≡ column r place)
    → IsSelect (span_query t place) (layout_of t) text → FindsIn text (span_params number begin end) (λ tables. slice_get (filter (is_spanned at number begin end) (rows_in tables t)) 0)
spanned_in t {text} at place number begin end first shown is =
    in_table t (λ rows. slice_get (filter (is_spanned at number begin end) rows) 0) (λ db has.
    subst (λ rows. Finds db text (span_params number begin end) (slice_get rows 0)) (map_same_list _)
    (first_passing (table_key t) (has t) (every_column (layout_of t)) (λ row. row) (shows_every t (span_params number begin end)) (span_tests place) (is_spanned at number begin end)
    is (λ r.
    ap₂ (λ a b. a && b) (over_test (column r 0) _) (ap₂ (λ a b. a && (b && true)) (at_least_test (column r place) _) (below_test (column r place) _)
    ∙ ap (λ b. not (is_lt (value_cmp (column r place) (number_value begin))) && b) (and_true _))
    ∙ ap₂ (λ a b. is_gt (value_cmp a (number_value number)) && is_between begin end b) (sym (first r)) (sym (shown r)))))

-- ---- the statements

pub finds_entry_after : (number begin end : ℕ)
    → FindsIn (codes "SELECT * FROM entries WHERE entry > ?1 AND at >= ?2 AND at < ?3 ORDER BY entry LIMIT 1") (span_params number begin end)
    (λ t. slice_get (filter (is_spanned 5 number begin end) t.entries) 0)
unfolding everything
finds_entry_after number begin end = spanned_in Entries 5 6 number begin end (λ r. refl) (λ r. refl) (λ tree. refl, refl)

pub finds_ended_after : (number begin end : ℕ)
    → FindsIn (codes "SELECT * FROM rentals WHERE rental > ?1 AND finish >= ?2 AND finish < ?3 ORDER BY rental LIMIT 1") (span_params number begin end)
    (λ t. slice_get (filter (is_spanned 7 number begin end) t.rentals) 0)
unfolding everything
finds_ended_after number begin end = spanned_in Rentals 7 8 number begin end (λ r. refl) (λ r. refl) (λ tree. refl, refl)

pub finds_request_after : (number begin end : ℕ)
    → FindsIn (codes "SELECT * FROM history WHERE number > ?1 AND moment >= ?2 AND moment < ?3 ORDER BY number LIMIT 1") (span_params number begin end)
    (λ t. slice_get (filter (is_spanned 1 number begin end) t.history) 0)
unfolding everything
finds_request_after number begin end = spanned_in History 1 2 number begin end (λ r. refl) (λ r. refl) (λ tree. refl, refl)

-- ---- numbers in place of values

before_is : (a b : ℕ) → is_lt (nat_cmp a b) ≡ nat_lt a b
before_is a b = by (nat_cmp a b) (ranks a b) where
  by : (r : Ordering) → MatchOrdering r (a < b) (a ≡ b) (b < a) → is_lt r ≡ nat_lt a b
  by Less h = sym (lt-ltb a b h)
  by Equal h = sym (le-ltb a b (omega (arith, h)))
  by Greater h = sym (le-ltb a b (omega (arith, h)))

behind_is : (a b : ℕ) → is_gt (nat_cmp a b) ≡ nat_lt b a
behind_is a b = by (nat_cmp a b) (ranks a b) where
  by : (r : Ordering) → MatchOrdering r (a < b) (a ≡ b) (b < a) → is_gt r ≡ nat_lt b a
  by Less h = sym (le-ltb b a (omega (arith, h)))
  by Equal h = sym (le-ltb b a (omega (arith, h)))
  by Greater h = sym (lt-ltb b a h)

-- of a number up to the greatest, that it comes after a number or after the lesser of that and the greatest
same_behind : (number most n : ℕ) → n ≤ most → nat_lt (min number most) n ≡ nat_lt number n
same_behind number most n within = by (nat_lt number n) refl where
  by : (b : Bool) → nat_lt number n ≡ b → nat_lt (min number most) n ≡ b
  by true is = lt-ltb (min number most) n (omega (arith, ltb-true number n is))
  by false is = le-ltb (min number most) n (omega (arith, ltb-false number n is, within))

pub behind_number : (number n : ℕ) → is_gt (value_cmp (number_value n) (number_value number)) ≡ nat_lt number n
behind_number number n = ap is_gt (value_cmp-number_value n number) ∙ behind_is n number

between_is : (begin end at : ℕ) → is_between begin end (number_value at) ≡ lies_in begin end at
between_is begin end at =
    ap₂ (λ a b. not (is_lt a) && is_lt b) (value_cmp-number_value at begin) (value_cmp-number_value at end) ∙ ap₂ (λ a b. not a && b) (before_is at begin) (before_is at end)

null_between : (begin end : ℕ) → is_between begin end Null ≡ false
null_between begin end = ap (λ a. not (is_lt a) && false) (value_cmp-Null (number_value begin))

-- what the tests say of a row with this number and a moment
pub spanned_is : (at number begin end n moment : ℕ) (row : Row) → column row 0 ≡ number_value n → column row at ≡ number_value moment
    → is_spanned at number begin end row ≡ (nat_lt number n && lies_in begin end moment)
spanned_is at number begin end n moment row first shown =
    ap₂ (λ a b. is_gt (value_cmp a (number_value number)) && is_between begin end b) first shown
    ∙ ap₂ (λ a b. a && b) (behind_number number n) (between_is begin end moment)

-- .. of one whose number is at most the greatest
pub spanned_within : (at number most begin end n moment : ℕ) (row : Row) → n ≤ most → column row 0 ≡ number_value n → column row at ≡ number_value moment
    → is_spanned at (min number most) begin end row ≡ (nat_lt number n && lies_in begin end moment)
spanned_within at number most begin end n moment row within first shown =
    spanned_is at (min number most) begin end n moment row first shown ∙ ap (λ b. b && lies_in begin end moment) (same_behind number most n within)

-- .. and with NULL in place of the moment

pub never_spanned : (at number most begin end n : ℕ) (row : Row) → n ≤ most → column row 0 ≡ number_value n → column row at ≡ Null
    → is_spanned at (min number most) begin end row ≡ (nat_lt number n && false)
never_spanned at number most begin end n row within first shown =
    ap₂ (λ a b. is_gt (value_cmp a (number_value (min number most))) && is_between begin end b) first shown
    ∙ ap₂ (λ a b. a && b) (behind_number (min number most) n ∙ same_behind number most n within) (null_between begin end)
