-- What the tests of a key decide.
use Rattle.std.proofs.Common.{◌≡◌, ℕ, suc, List, [], ◌∷◌, map, Bool, true, false, ◌&&◌, Some, Ordering, Less, Equal, Greater, refl, sym, ap, ap₂, ◌∙◌}
use Rattle.std.specs.Ordering.{is_eq, ordering_then}
use Rattle.std.specs.List.{list_any, list_all}
use Rattle.std.proofs.lemmas.Bool.{or_parts, true≢false}
use Rattle.sqlite_value.specs.declared.value.Value.{Value}
use Rattle.sqlite_value.specs.declared.value.Value.TheVariants.{Null, Int, Real, Text, Blob}
use Rattle.sqlite_value.specs.declared.keys.Collation.TheVariants.{Binary}
use Rattle.sqlite_value.specs.Order.{Row, column, value_cmp, row_cmp}
use Rattle.sqlite_value.proofs.OrderLemmas.{value_cmp-Null}
use Rattle.sqlite_sql.specs.Ops.{binary, is_true, is_null, from_truth}
use Rattle.sqlite_sql.specs.Term.{holds}
use Rattle.sqlite_sql.specs.declared.ops.BinaryOp.TheVariants.{Compare}
use Rattle.sqlite_sql.specs.declared.ops.CompareOp.TheVariants.{Eq}
use Rattle.bike_sql.specs.Queries.{key_tests, key_in}

pub truth_of : (b : Bool) → is_true (from_truth (Some b)) ≡ b
unfolding binary
truth_of true = refl
truth_of false = refl

pub tie_of : (o : Ordering) → is_eq o ≡ true → o ≡ Equal
tie_of Less h = absurd (true≢false (sym h))
tie_of Equal h = refl
tie_of Greater h = absurd (true≢false (sym h))

-- `=` with a value that is not NULL is a tie in the order of values
pub eq_test : (v k : Value) → is_null k ≡ false → is_true (binary (Compare Eq Binary) v k) ≡ is_eq (value_cmp v k)
unfolding binary
eq_test Null Null h = absurd (true≢false h)
eq_test Null (Int n) h = sym (ap is_eq (value_cmp-Null (Int n)))
eq_test Null (Real x) h = sym (ap is_eq (value_cmp-Null (Real x)))
eq_test Null (Text t) h = sym (ap is_eq (value_cmp-Null (Text t)))
eq_test Null (Blob b) h = sym (ap is_eq (value_cmp-Null (Blob b)))
eq_test (Int n) k h = rw h (truth_of (is_eq (value_cmp (Int n) k)))
eq_test (Real x) k h = rw h (truth_of (is_eq (value_cmp (Real x) k)))
eq_test (Text t) k h = rw h (truth_of (is_eq (value_cmp (Text t) k)))
eq_test (Blob b) k h = rw h (truth_of (is_eq (value_cmp (Blob b) k)))

pub then_eq : (a b : Ordering) → is_eq (ordering_then a b) ≡ (is_eq a && is_eq b)
then_eq Less b = refl
then_eq Equal b = refl
then_eq Greater b = refl

-- The tests that compare the columns of a key with parameters find the rows that have that key, where no part of it is NULL.
pub tests_key : (at : ℕ) (places : List ℕ) (params r : Row) → list_any is_null (key_in at places params) ≡ false
    → list_all (holds (params ∷ r ∷ [])) (key_tests at places) ≡ is_eq (row_cmp (map (column r) places) (key_in at places params))
tests_key at [] params r solid = refl
tests_key at (place ∷ places) params r solid =
    let both = or_parts (is_null (column params at)) (list_any is_null (key_in (suc at) places params)) solid in
    ap₂ ◌&&◌ (eq_test (column r place) (column params at) both.0) (tests_key (suc at) places params r both.1)
    ∙ sym (then_eq (value_cmp (column r place) (column params at)) (row_cmp (map (column r) places) (key_in (suc at) places params)))
