-- SELECT from a table the rows of which one column lies between two values, both among them.
use Rattle.std.proofs.Common.{◌≡◌, ◌<◌, ℕ, List, [], ◌∷◌, map, filter, find, take, slice_get, negsuc, Bool, true, false, not, ◌&&◌, cond, Some, Ordering, Less, Equal, Greater, refl, sym, ap, ap₂}
use Rattle.std.proofs.Common.{subst, ◌∙◌, arith}
use Rattle.std.specs.Ordering.{nat_cmp, is_eq, is_lt, is_le, MatchOrdering}
use Rattle.std.specs.Cmp.{ranks}
use Rattle.std.proofs.lemmas.Bool.{true≢false}
use Rattle.sqlite_value.specs.declared.value.Value.{Value}
use Rattle.sqlite_value.specs.declared.value.Value.TheVariants.{Null, Int, Real, Text, Blob}
use Rattle.sqlite_value.specs.declared.keys.Collation.TheVariants.{Binary}
use Rattle.sqlite_value.specs.Order.{Row, column, value_cmp, row_cmp}
use Rattle.sqlite_value.proofs.OrderLemmas.{value_cmp-Null, value_cmp-Text, value_cmp-apart}
use Rattle.sqlite_sql.specs.Ops.{binary, is_true, is_null}
use Rattle.sqlite_sql.specs.Query.{Query}
use Rattle.sqlite_sql.specs.Term.{Term, lit, col, op2, eval, eval_all}
use Rattle.sqlite_sql.specs.declared.ops.BinaryOp.TheVariants.{Compare}
use Rattle.sqlite_sql.specs.declared.ops.CompareOp.TheVariants.{Ge, Le}
use Rattle.bike_sql.specs.Answer.{HasOneAnswer}
use Rattle.bike_sql.specs.Layout.{table_of}
use Rattle.bike_sql.specs.Queries.{table_query, limit_query, by_columns}
use Rattle.bike_sql.specs.View.{columns_of, row_with, rows_where}
use Rattle.bike_sql.proofs.RowListLemmas.{map_map}
use Rattle.bike_sql.proofs.PageLaw.{map_same_list}
use Rattle.bike_sql.proofs.RangeLaw.{ge_test}
use Rattle.bike_sql.proofs.SelectLaws.{every_column, rows_passing}
use Rattle.bike_sql.proofs.TestLemmas.{truth_of, then_eq}
use Rattle.bike_sql.proofs.TextLemmas.{IsSelect}
use Rattle.bike_sql.proofs.WalkLaw.{Finds}
use Rattle.bike_operator.specs.Operator.{text_cmp}
use Rattle.bike_book.specs.Tables.{TableName, Tables, rows_in}
use Rattle.bike_book.specs.Rows.{number_value}
use Rattle.bike_book.proofs.Keys.{value_cmp-number_value}
use Rattle.bike_schema.specs.Layouts.{layout_of}
use Rattle.bike_schema.specs.Tables.{tables_of}
use Rattle.bike_schema.proofs.AnswerLemmas.{FindsIn}
use Rattle.bike_schema.proofs.KeyLemmas.{key_places, table_key}
use Rattle.bike_schema.proofs.MakesLemmas.{rows_of_table}
use Rattle.bike_schema.specs.Within.{is_within, rows_within, rows_from}
use Rattle.bike_schema.proofs.ListedLemmas.{ListsIn}

-- ---- the tests of a WHERE

pub and_true : (b : Bool) → (b && true) ≡ b
and_true true = refl
and_true false = refl

-- `<=` is the order of values, where neither is NULL
le_test : (v k : Value) → is_null v ≡ false → is_null k ≡ false → is_true (binary (Compare Le Binary) v k) ≡ is_le (value_cmp v k)
unfolding binary
le_test v k p q = rw (p, q) (truth_of (is_le (value_cmp v k)))

-- NULL is below every other value, but never passes
null_below : (k : Value) → is_null k ≡ false → is_lt (value_cmp Null k) ≡ true
null_below Null solid = absurd (true≢false solid)
null_below (Int n) solid = ap is_lt (value_cmp-Null (Int n))
null_below (Real x) solid = ap is_lt (value_cmp-Null (Real x))
null_below (Text t) solid = ap is_lt (value_cmp-Null (Text t))
null_below (Blob b) solid = ap is_lt (value_cmp-Null (Blob b))

null_fails : (k : Value) → is_true (binary (Compare Ge Binary) Null k) ≡ false
unfolding binary
null_fails k = refl

-- `>=` is the order of values, where the parameter isn't NULL
pub from_test : (v from : Value) → is_null from ≡ false → is_true (binary (Compare Ge Binary) v from) ≡ not (is_lt (value_cmp v from))
from_test Null from p = null_fails from ∙ sym (ap not (null_below from p))
from_test (Int n) from p = ge_test (Int n) from refl p
from_test (Real x) from p = ge_test (Real x) from refl p
from_test (Text t) from p = ge_test (Text t) from refl p
from_test (Blob b) from p = ge_test (Blob b) from refl p

solid_within : (v from to : Value) → is_null v ≡ false → is_null from ≡ false → is_null to ≡ false
    → (is_true (binary (Compare Ge Binary) v from) && (is_true (binary (Compare Le Binary) v to) && true)) ≡ is_within from to v
solid_within v from to s p q = ap₂ (λ (a b : Bool). a && b) (ge_test v from s p) (and_true _ ∙ le_test v to s q)

pub within_test : (v from to : Value) → is_null from ≡ false → is_null to ≡ false
    → (is_true (binary (Compare Ge Binary) v from) && (is_true (binary (Compare Le Binary) v to) && true)) ≡ is_within from to v
within_test Null from to p q =
    ap (λ (b : Bool). b && (is_true (binary (Compare Le Binary) Null to) && true)) (null_fails from)
    ∙ sym (ap (λ (b : Bool). not b && is_le (value_cmp Null to)) (null_below from p))
within_test (Int n) from to p q = solid_within (Int n) from to refl p q
within_test (Real x) from to p q = solid_within (Real x) from to refl p q
within_test (Text t) from to p q = solid_within (Text t) from to refl p q
within_test (Blob b) from to p q = solid_within (Blob b) from to refl p q

-- ---- the statement

-- the column at a place of the stored row >= a parameter AND it <= another
abbrev pub within_tests : ℕ → ℕ → ℕ → List Term
within_tests place from to = op2 (Compare Ge Binary) (col 1 place) (col 0 from) ∷ op2 (Compare Le Binary) (col 1 place) (col 0 to) ∷ []

-- SELECT * FROM the table WHERE the column at a place >= ?1 AND it <= ?2 ORDER BY its key
abbrev pub within_query : TableName → ℕ → Query
within_query t place = limit_query (lit (Int (negsuc 0))) (table_query 0 (within_tests place 0 1) (by_columns (key_places t)) (every_column (layout_of t)))

pub shows_every : (t : TableName) (params r : Row) → eval_all (every_column (layout_of t)) (params ∷ r ∷ []) ≡ columns_of (table_of (layout_of t) 0) r
shows_every t params r = map_map _ (λ term. eval term (params ∷ r ∷ [])) _

-- the first column stands at the place
abbrev pub StandsAt : TableName → ℕ → Type 0
StandsAt t place = (r : Row) → column (columns_of (table_of (layout_of t) 0) r) 0 ≡ column r place

pub lists_within : (t : TableName) {text : List ℕ} (place : ℕ) (from to : Value) → is_null from ≡ false → is_null to ≡ false → StandsAt t place
    → IsSelect (within_query t place) (layout_of t) text
    → ListsIn text (from ∷ to ∷ []) (λ tables. rows_within from to (rows_in tables t))
lists_within t {text} place from to p q shown is = record {
  lists = λ db has. subst (λ rows. HasOneAnswer db text (from ∷ to ∷ []) (rows_within from to rows)) (sym (rows_of_table db t))
      (subst (HasOneAnswer db text (from ∷ to ∷ [])) (map_same_list _)
      (rows_passing (table_key t) (has t) (every_column (layout_of t)) (λ row. row) (shows_every t (from ∷ to ∷ [])) (within_tests place 0 1) (lit (Int (negsuc 0)))
      (λ row. is_within from to (column row 0)) is (λ r.
      within_test (column r place) from to p q ∙ ap (is_within from to) (sym (shown r)))));
}

-- the first of the rows that a text answers
pub first_listed : {text : List ℕ} {params : Row} {rows : Tables → List Row} → ListsIn text params rows → FindsIn text params (λ t. slice_get (rows t) 0)
first_listed it = record { finds = λ db has. record { all = _; one = it.lists db has; first = refl } }

-- ---- between a value and itself

itself : (r : Ordering) → (not (is_lt r) && is_le r) ≡ is_eq r
itself Less = refl
itself Equal = refl
itself Greater = refl

alone : (v k : Value) → is_eq (row_cmp (v ∷ []) (k ∷ [])) ≡ is_eq (value_cmp v k)
alone v k = then_eq (value_cmp v k) _ ∙ and_true _

pub within_itself : (v k : Value) → is_within k k v ≡ is_eq (value_cmp v k)
within_itself v k = itself (value_cmp v k)

-- the rows whose first column has the value
pub rows_at : (k : Value) (rows : List Row) → rows_within k k rows ≡ rows_where (0 ∷ []) (k ∷ []) rows
rows_at k [] = refl
rows_at k (row ∷ rows) =
    ap₂ (λ (b : Bool) (rest : List Row). cond b (row ∷ rest) rest) (within_itself (column row 0) k ∙ sym (alone (column row 0) k)) (rows_at k rows)

same_key : (k : Value) → is_null k ≡ false → (row : Row) → is_within k k (column row 0) ≡ is_eq (row_cmp (take 1 row) (k ∷ []))
same_key k solid [] = ap (λ (b : Bool). not b && is_le (value_cmp Null k)) (null_below k solid)
same_key k solid (v ∷ row) = within_itself v k ∙ sym (alone v k)

first_found : (p q : Row → Bool) → ((row : Row) → p row ≡ q row) → (rows : List Row) → slice_get (filter p rows) 0 ≡ find q rows
first_found p q same [] = refl
first_found p q same (row ∷ rows) = rw (same row) (go (q row) (first_found p q same rows)) where
  go : (b : Bool) → slice_get (filter p rows) 0 ≡ find q rows → slice_get (cond b (row ∷ filter p rows) (filter p rows)) 0 ≡ cond b (Some row) (find q rows)
  go true rest = refl
  go false rest = rest

-- SELECT * FROM the table WHERE its key, which is one column, >= ?1 AND it <= ?2, of one value: the row under it
pub keyed_within : (t : TableName) {text : List ℕ} (place : ℕ) (k : Value) → is_null k ≡ false → StandsAt t place → IsSelect (within_query t place) (layout_of t) text
    → FindsIn text (k ∷ k ∷ []) (λ tables. row_with 1 (k ∷ []) (rows_in tables t))
keyed_within t {text} place k solid shown is = record {
  finds = λ db has. subst (Finds db text (k ∷ k ∷ [])) (first_found _ _ (same_key k solid) (rows_in (tables_of db) t)) ((first_listed (lists_within t place k k solid solid shown is)).finds db has);
}

-- ---- from a text on

-- each text is below an empty blob
below_end : (t : List ℕ) → is_le (value_cmp (Text t) (Blob [])) ≡ true
below_end t = ap is_le (value_cmp-apart (Text t) (Blob []) (λ same. omega arith))

pub from_text : (start t : List ℕ) → is_within (Text start) (Blob []) (Text t) ≡ not (is_lt (text_cmp t start))
from_text start t = ap₂ (λ (a b : Bool). not a && b) (ap is_lt (value_cmp-Text t start)) (below_end t) ∙ and_true _

-- no text is below the empty one
pub none_below : (t : List ℕ) → is_lt (text_cmp t []) ≡ false
none_below [] = refl
none_below (c ∷ cs) = refl

-- all rows that begin with texts
pub all_from : {A : Type 0} (row : A → Row) (key : A → List ℕ) → ((a : A) → column (row a) 0 ≡ Text (key a)) → (xs : List A) → rows_from [] (map row xs) ≡ map row xs
all_from row key begins [] = refl
all_from row key begins (x ∷ xs) =
    ap₂ (λ (b : Bool) (rest : List Row). cond b (row x ∷ rest) rest)
    (ap (is_within (Text []) (Blob [])) (begins x) ∙ from_text [] (key x) ∙ ap not (none_below (key x))) (all_from row key begins xs)

-- ---- from the number 0 on

pub not_below : (n : ℕ) → is_lt (nat_cmp n 0) ≡ false
not_below n = by (nat_cmp n 0) (ranks n 0) where
  by : (r : Ordering) → MatchOrdering r (n < 0) (n ≡ 0) (0 < n) → is_lt r ≡ false
  by Less h = absurd (omega (arith, h))
  by Equal h = refl
  by Greater h = refl

from_number : (n : ℕ) → is_within (number_value 0) (Blob []) (number_value n) ≡ true
from_number n =
    ap₂ (λ (a b : Bool). not a && b) (ap is_lt (value_cmp-number_value n 0) ∙ not_below n)
    (ap is_le (value_cmp-apart (number_value n) (Blob []) (λ same. omega arith)))

-- all rows that begin with numbers
pub all_numbered : {A : Type 0} (row : A → Row) (key : A → ℕ) → ((a : A) → column (row a) 0 ≡ number_value (key a)) → (xs : List A) → rows_within (number_value 0) (Blob []) (map row xs) ≡ map row xs
all_numbered row key begins [] = refl
all_numbered row key begins (x ∷ xs) =
    ap₂ (λ (b : Bool) (rest : List Row). cond b (row x ∷ rest) rest) (ap (is_within (number_value 0) (Blob [])) (begins x) ∙ from_number (key x)) (all_numbered row key begins xs)
