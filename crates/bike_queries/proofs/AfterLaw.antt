-- The rows of a table that come after a text, in byte order: those from the text with a byte 0 behind it on.
use Rattle.std.proofs.Common.{◌≡◌, inl, inr, ℕ, List, [], ◌∷◌, ◌++◌, filter, find, slice_get, Bool, true, false, not, cond, Option, Some, None, Less, Equal, Greater, Ordering, refl, sym, ap, ◌∙◌}
use Rattle.std.specs.Prelude.{map, option_map}
use Rattle.std.specs.Cmp.{nat_cmp_total}
use Rattle.std.specs.FinMap.{FinMap, entries}
use Rattle.std.specs.Ordering.{nat_cmp, is_lt, ordering_reverse, ordering_then}
use Rattle.sqlite_value.specs.declared.value.Value.TheVariants.{Text, Blob}
use Rattle.sqlite_value.specs.declared.keys.Collation.TheVariants.{Binary}
use Rattle.sqlite_value.specs.Order.{Row, column}
use Rattle.sqlite_value.proofs.OrderLemmas.{value_cmp-Text}
use Rattle.sqlite_sql.specs.Term.{Term, col, op2}
use Rattle.sqlite_sql.specs.declared.ops.BinaryOp.TheVariants.{Compare}
use Rattle.sqlite_sql.specs.declared.ops.CompareOp.TheVariants.{Ge}
use Rattle.sqlite_rules.specs.Lists.{Has}
use Rattle.bike_operator.specs.Operator.{text_cmp}
use Rattle.bike_schema.specs.Within.{is_within, rows_from}
use Rattle.bike_schema.proofs.WithinLaw.{from_text, none_below, not_below}
use Rattle.bike_queries.specs.After.{begins_from, first_after, is_from, start_after}
use Rattle.bike_queries.specs.Pages.{entries_after}

-- ---- from a text on

-- the column at a place of the stored row >= the first parameter
abbrev pub from_tests : ℕ → List Term
from_tests place = op2 (Compare Ge Binary) (col 1 place) (col 0 0) ∷ []

-- the texts from one with a byte 0 behind it on are those after it
next_from : (x after : List ℕ) → not (is_lt (text_cmp x (after ++ 0 ∷ []))) ≡ is_lt (text_cmp after x)
next_from [] [] = refl
next_from [] (c ∷ cs) = refl
next_from (b ∷ bs) [] = by (nat_cmp b 0) (not_below b)
  where
    by : (r : Ordering) → is_lt r ≡ false → not (is_lt (ordering_then r (text_cmp bs []))) ≡ true
    by Less low = absurd cc
    by Equal low = ap not (none_below bs)
    by Greater low = refl
next_from (b ∷ bs) (c ∷ cs) = by (nat_cmp b c) (next_from bs cs) ∙ sym (ap (λ r. is_lt (ordering_then r (text_cmp cs bs))) (nat_cmp_total.antisymm c b))
  where
    by : (r : Ordering) → not (is_lt (text_cmp bs (cs ++ 0 ∷ []))) ≡ is_lt (text_cmp cs bs)
        → not (is_lt (ordering_then r (text_cmp bs (cs ++ 0 ∷ [])))) ≡ is_lt (ordering_then (ordering_reverse r) (text_cmp cs bs))
    by Less rest = refl
    by Equal rest = rest
    by Greater rest = refl

-- whether a text comes after what a walk has come to
abbrev pub comes_after : Option (List ℕ) → List ℕ → Bool
comes_after None x = true
comes_after (Some after) x = is_lt (text_cmp after x)

pub start_is : (after : Option (List ℕ)) (x : List ℕ) → not (is_lt (text_cmp x (start_after after))) ≡ comes_after after x
start_is None x = ap not (none_below x)
start_is (Some after) x = next_from x after

-- ---- the first that passes

pub first_passed : {A : Type 0} (row : A → Row) (pass : Row → Bool) (test : A → Bool) (xs : List A) → ((x : A) → Has xs x → pass (row x) ≡ test x)
    → slice_get (filter pass (map row xs)) 0 ≡ option_map row (find test xs)
first_passed row pass test [] same = refl
first_passed {A} row pass test (x ∷ xs) same = rw (same x (inl refl)) (go (test x) (first_passed row pass test xs (λ y has. same y (inr has)))) where
  go : (b : Bool) → slice_get (filter pass (map row xs)) 0 ≡ option_map row (find test xs)
      → slice_get (cond b (row x ∷ filter pass (map row xs)) (filter pass (map row xs))) 0 ≡ option_map row (cond b (Some x) (find test xs))
  go true rest = refl
  go false rest = rest

-- ---- the rows of entries, whose first columns are their keys

module _ {V : Type 0} (row : List ℕ × V → Row) (begins : (e : List ℕ × V) → column (row e) 0 ≡ Text e.0) where
  -- where a row's first column is tested as its entry's key is, the rows that pass are those of the entries after
  rows_passing : (pass : Row → Bool) (after : Option (List ℕ)) (es : List (List ℕ × V)) → ((e : List ℕ × V) → pass (row e) ≡ comes_after after e.0)
      → filter pass (map row es) ≡ map row (filter (λ e. comes_after after e.0) es)
  rows_passing pass after [] same = refl
  rows_passing pass after (e ∷ es) same = rw (same e) (go (comes_after after e.0) (rows_passing pass after es same)) where
    go : (b : Bool) → filter pass (map row es) ≡ map row (filter (λ x. comes_after after x.0) es)
        → cond b (row e ∷ filter pass (map row es)) (filter pass (map row es)) ≡ map row (cond b (e ∷ filter (λ x. comes_after after x.0) es) (filter (λ x. comes_after after x.0) es))
    go true rest = ap (λ (rs : List Row). row e ∷ rs) rest
    go false rest = rest

  all_come : (es : List (List ℕ × V)) → filter (λ e. true) es ≡ es
  all_come [] = refl
  all_come (e ∷ es) = ap (λ (xs : List (List ℕ × V)). e ∷ xs) (all_come es)

  come_after : (after : Option (List ℕ)) (m : FinMap text_cmp V) → filter (λ e. comes_after after e.0) (entries m) ≡ entries_after after m
  come_after None m = all_come (entries m)
  come_after (Some id) m = refl

  -- all rows from a start on
  pub rows_behind : (after : Option (List ℕ)) (start : List ℕ) → start ≡ start_after after → (m : FinMap text_cmp V)
      → filter (begins_from start) (map row (entries m)) ≡ map row (entries_after after m)
  rows_behind after start is m =
      ap (λ (t : List ℕ). filter (begins_from t) (map row (entries m))) is
      ∙ rows_passing (begins_from (start_after after)) after (entries m) (λ e.
      ap (is_from (start_after after)) (begins e) ∙ ap (λ r. not (is_lt r)) (value_cmp-Text e.0 (start_after after)) ∙ start_is after e.0)
      ∙ ap (map row) (come_after after m)

  first_of : (after : Option (List ℕ)) (m : FinMap text_cmp V) → slice_get (map row (entries_after after m)) 0 ≡ option_map row (first_after after m)
  first_of None m = by (entries m) where
    by : (es : List (List ℕ × V)) → slice_get (map row es) 0 ≡ option_map row (slice_get es 0)
    by [] = refl
    by (e ∷ es) = refl
  first_of (Some id) m = by (entries m) where
    by : (es : List (List ℕ × V)) → slice_get (map row (filter (λ e. is_lt (text_cmp id e.0)) es)) 0 ≡ option_map row (find (λ e. is_lt (text_cmp id e.0)) es)
    by [] = refl
    by (e ∷ es) = go (is_lt (text_cmp id e.0)) (by es) where
      go : (b : Bool) → slice_get (map row (filter (λ x. is_lt (text_cmp id x.0)) es)) 0 ≡ option_map row (find (λ x. is_lt (text_cmp id x.0)) es)
          → slice_get (map row (cond b (e ∷ filter (λ x. is_lt (text_cmp id x.0)) es) (filter (λ x. is_lt (text_cmp id x.0)) es))) 0
          ≡ option_map row (cond b (Some e) (find (λ x. is_lt (text_cmp id x.0)) es))
      go true rest = refl
      go false rest = rest

  -- the first of them
  pub first_behind : (after : Option (List ℕ)) (start : List ℕ) → start ≡ start_after after → (m : FinMap text_cmp V)
      → slice_get (filter (begins_from start) (map row (entries m))) 0 ≡ option_map row (first_after after m)
  first_behind after start is m = ap (λ (rows : List Row). slice_get rows 0) (rows_behind after start is m) ∙ first_of after m

  -- the same of rows that are asked for up to the end of all texts
  pub row_after : (after : Option (List ℕ)) (start : List ℕ) → start ≡ start_after after → (m : FinMap text_cmp V)
      → slice_get (rows_from start (map row (entries m))) 0 ≡ option_map row (first_after after m)
  row_after after start is m =
      ap (λ (t : List ℕ). slice_get (rows_from t (map row (entries m))) 0) is
      ∙ ap (λ (rows : List Row). slice_get rows 0)
      (rows_passing _ after (entries m) (λ e. ap (is_within (Text (start_after after)) (Blob [])) (begins e) ∙ from_text (start_after after) e.0 ∙ start_is after e.0)
      ∙ ap (map row) (come_after after m))
      ∙ first_of after m
