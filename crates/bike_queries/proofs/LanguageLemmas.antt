-- The languages of further names in byte order: the statement that answers the next of them.
use Rattle.std.proofs.Common.{◌≡◌, ◌⊎◌, inl, inr, ℕ, List, [], ◌∷◌, codes, map, filter, slice_get, Bool, true, false, ◌||◌, T, Option, Some, None, Ordering, Less, Equal, refl, sym, ap, ap₂, ◌∙◌}
use Rattle.std.proofs.Common.{arith}
use Rattle.std.specs.Prelude.{option_map, is_some}
use Rattle.std.specs.FinMap as fin
use Rattle.std.specs.FinMap.Entries as entries
use Rattle.std.specs.List.{list_any}
use Rattle.std.specs.Cmp.{eq_by_cmp_equiv}
use Rattle.std.specs.Ordering.{eq_by_cmp}
use Rattle.std.proofs.lemmas.Bool.{true≢false}
use Rattle.sqlite_tied.specs.Compute.{everything}
use Rattle.sqlite_value.specs.declared.value.Value.{Value}
use Rattle.sqlite_value.specs.declared.value.Value.TheVariants.{Null, Int, Real, Text, Blob}
use Rattle.sqlite_value.specs.Order.{Row, column, value_cmp, row_cmp}
use Rattle.sqlite_value.proofs.OrderLemmas.{value_cmp-Null, value_cmp-Text, value_cmp-Blob, value_cmp-apart, row_cmp_total, then-Equal}
use Rattle.sqlite_sql.specs.Query.{Query}
use Rattle.sqlite_sql.specs.Term.{col}
use Rattle.sqlite_rules.specs.Lists.{Has}
use Rattle.bike_sql.specs.Keyed.{in_order}
use Rattle.bike_sql.specs.Layout.{table_of}
use Rattle.bike_sql.specs.Queries.{table_query, limit_query, only_one, by_columns}
use Rattle.bike_sql.specs.View.{columns_of}
use Rattle.bike_sql.proofs.RowListLemmas.{map_has, map_map}
use Rattle.bike_sql.proofs.OrderLemmas.{AreApart, Rises, all_from, order_is}
use Rattle.bike_sql.proofs.PageLaw.{first_taken}
use Rattle.bike_sql.proofs.RangeLaw.{order_filter}
use Rattle.bike_sql.proofs.SortLemmas.{order_map}
use Rattle.bike_sql.proofs.TextLemmas.{IsSelect, select_means}
use Rattle.bike_operator.specs.Operator.{Operator, NameKey, text_cmp}
use Rattle.bike_operator.specs.Names.{part_at}
use Rattle.bike_laws.proofs.SingleSteps.MapLemmas.{IsKeyOrder, text_order, tied}
use Rattle.bike_book.specs.Tables.{TableName, MoreNames, keys_of, rows_in}
use Rattle.bike_book.specs.Stored.{stored_name}
use Rattle.bike_book.proofs.MapRows.{both, below_has}
use Rattle.bike_schema.specs.Layouts.{layout_of}
use Rattle.bike_schema.proofs.AnswerLemmas.{FindsIn, in_table}
use Rattle.bike_feed_texts.specs.Trees.{names_by_language}
use Rattle.bike_queries.specs.After.{is_from, begins_from, first_after, language_row, next_language, start_after}
use Rattle.bike_schema.proofs.WithinLaw.{and_true, from_test}
use Rattle.bike_queries.proofs.AfterLaw.{from_tests, first_behind}
use Rattle.bike_queries.proofs.LeastLaw.{least_answer}

-- ---- of values from a text on no two tie

lower : (v : Value) (id : List ℕ) → value_cmp v (Text id) ≡ Less → is_from id v ≡ true → ⊥
lower v id low from = true≢false (rw low at (sym from))

-- neither NULL nor a number is one
is_bytes : (v : Value) (id : List ℕ) → is_from id v ≡ true → (bytes : List ℕ) × ((v ≡ Text bytes) ⊎ (v ≡ Blob bytes))
is_bytes Null id after = absurd (lower Null id (value_cmp-Null (Text id)) after)
is_bytes (Int n) id after = absurd (lower (Int n) id (value_cmp-apart (Int n) (Text id) (λ same. omega arith)) after)
is_bytes (Real x) id after = absurd (lower (Real x) id (value_cmp-apart (Real x) (Text id) (λ same. omega arith)) after)
is_bytes (Text t) id after = (t, inl refl)
is_bytes (Blob t) id after = (t, inr refl)

same_from : (id : List ℕ) (v w : Value) → is_from id v ≡ true → is_from id w ≡ true → value_cmp v w ≡ Equal → v ≡ w
same_from id v w after_v after_w tie = let a = is_bytes v id after_v in let b = is_bytes w id after_w in by a.0 b.0 a.1 b.1
  where
    also : {x y : Value} → v ≡ x → w ≡ y → value_cmp x y ≡ Equal
    also a b = sym (ap₂ value_cmp a b) ∙ tie

    by : (t u : List ℕ) → (v ≡ Text t) ⊎ (v ≡ Blob t) → (w ≡ Text u) ⊎ (w ≡ Blob u) → v ≡ w
    by t u (inl a) (inl b) = a ∙ ap Text (text_order.same t u (sym (value_cmp-Text t u) ∙ also a b)) ∙ sym b
    by t u (inr a) (inr b) = a ∙ ap Blob (text_order.same t u (sym (value_cmp-Blob t u) ∙ also a b)) ∙ sym b
    by t u (inl a) (inr b) = absurd (let e = sym (value_cmp-apart (Text t) (Blob u) (λ same. omega arith)) ∙ also a b in cc)
    by t u (inr a) (inl b) = absurd (let e = sym (value_cmp-apart (Blob t) (Text u) (λ same. omega arith)) ∙ also a b in cc)

-- ---- the statement

-- each row cut down to one column
abbrev only_column : ℕ → List Row → List Row
only_column at = map (λ row. column row at ∷ [])

-- the first value of the column from a text on
abbrev value_from : ℕ → List ℕ → List Row → Option Row
value_from at id rows = slice_get (in_order row_cmp (filter (begins_from id) (only_column at rows))) 0

-- SELECT the column at a place FROM the table WHERE it >= ?1 ORDER BY it LIMIT 1
abbrev value_query : ℕ → Query
value_query place = limit_query only_one (table_query 0 (from_tests place) (by_columns (place ∷ [])) (col 1 place ∷ []))

value_in : (t : TableName) {text : List ℕ} (at place : ℕ) (id : List ℕ) → ((r : Row) → column (columns_of (table_of (layout_of t) 0) r) at ≡ column r place)
    → IsSelect (value_query place) (layout_of t) text
    → FindsIn text (Text id ∷ []) (λ tables. value_from at id (rows_in tables t))
value_in t {text} at place id shown is =
    in_table t (value_from at id) (λ db has.
    let it = select_means (value_query place) (layout_of t) text is db.schema (has t).at (has t).tree (has t).has in
    record {
      all = _;
      one =
          least_answer (keys_of t) (layout_of t) db (has t) text (Text id ∷ []) place (from_tests place) it.0 it.1 at shown (is_from id)
          (λ r. and_true _ ∙ from_test (column r place) (Text id) refl) (same_from id);
      first = first_taken _;
    })

pub finds_language_from : (id : List ℕ) → FindsIn (codes "SELECT language FROM more_names WHERE language >= ?1 ORDER BY language LIMIT 1") (Text id ∷ []) (λ t. value_from 2 id t.more_names)
unfolding everything
finds_language_from id = value_in MoreNames 2 3 id (λ r. refl) (λ tree. refl, refl)

-- ---- the keys of a list's map are those of the list in order

module _ {K : Type 0} {R : K → K → Ordering} (o : IsKeyOrder R) where
  has_any : (xs : List K) (x : K) → Has xs x → list_any (eq_by_cmp R x) xs ≡ true
  has_any [] x has = absurd has
  has_any (y ∷ ys) x (inl is) = ap (λ b. b || list_any (eq_by_cmp R x) ys) (ap (eq_by_cmp R x) (sym is) ∙ (eq_by_cmp_equiv o.total).refl x)
  has_any (y ∷ ys) x (inr later) = ap (λ b. eq_by_cmp R x y || b) (has_any ys x later) ∙ or_true (eq_by_cmp R x y)
    where
      or_true : (b : Bool) → (b || true) ≡ true
      or_true true = refl
      or_true false = refl

  any_has : (xs : List K) (x : K) → list_any (eq_by_cmp R x) xs ≡ true → Has xs x
  any_has [] x any = absurd cc
  any_has (y ∷ ys) x any = by (eq_by_cmp R x y) refl any (any_has ys x)
    where
      by : (b : Bool) → eq_by_cmp R x y ≡ b → (b || list_any (eq_by_cmp R x) ys) ≡ true → (list_any (eq_by_cmp R x) ys ≡ true → Has ys x) → Has (y ∷ ys) x
      by true tie any rest = inl (tied o x y tie)
      by false apart any rest = inr (rest any)

  keys_rise : {X : Type 0} (es : List (K × X)) → T (entries.is_sorted R es) → Rises o.total (map (λ e. e.0) es)
  keys_rise [] sorted = tt
  keys_rise (e ∷ es) sorted =
      let parts = both (entries.below_all R e.0 es) (entries.is_sorted R es) sorted in (
        all_from (λ k. R e.0 k ≡ Less) (map (λ x. x.0) es) (λ k has. let x = map_has (λ x. x.0) es k has in ap (R e.0) x.2 ∙ below_has o.total e.0 es x.0 parts.0 x.1),
        keys_rise es parts.1,
      )

  is_key : {X : Type 0} (es : List (K × X)) (x : K) → list_any (eq_by_cmp R x) (map (λ e. e.0) es) ≡ fin.contains_key (fin.from_entries {R = R} es) x
  is_key es x = sym (entries.is_some-find R x es) ∙ ap is_some (sym (fin.get-from_entries o.total es x))

  in_order_is : {X : Type 0} (es : List (K × X)) → in_order R (map (λ e. e.0) es) ≡ fin.keys (fin.from_entries {R = R} es)
  in_order_is {X} es =
      let ks = map (λ (e : K × X). e.0) es in
      let m = fin.from_entries {R = R} es in
      let same : (x : K) → list_any (eq_by_cmp R x) ks ≡ list_any (eq_by_cmp R x) (fin.keys m) = λ x. is_key es x ∙ fin.contains_key-keys m x in
      order_is o.total ks (fin.keys m) (λ a b p q tie. o.same a b tie) (keys_rise (fin.entries m) (fin.entries_sorted m)) (λ x has. any_has (fin.keys m) x (sym (same x) ∙ has_any ks x has))
      (λ x has. any_has ks x (same x ∙ has_any (fin.keys m) x has))

-- ---- the languages

-- names with their languages alone, and these languages, as they stand in the keys
abbrev by_language : List (NameKey × List ℕ) → List (List ℕ × List ℕ)
by_language = map (λ e. (part_at e.0 2, e.1))

abbrev languages_in : List (NameKey × List ℕ) → List (List ℕ)
languages_in es = map (λ e. e.0) (by_language es)

in_rows : (es : List (NameKey × List ℕ)) → only_column 2 (map stored_name es) ≡ map language_row (languages_in es)
in_rows [] = refl
in_rows (e ∷ es) = ap (λ rows. language_row (part_at e.0 2) ∷ rows) (in_rows es)

compares : (a b : List ℕ) → row_cmp (language_row a) (language_row b) ≡ text_cmp a b
compares a b = then-Equal (value_cmp (Text a) (Text b)) ∙ value_cmp-Text a b

rows_apart : (ls : List (List ℕ)) → AreApart row_cmp_total (map language_row ls)
rows_apart ls a b p q tie =
    let x = map_has language_row ls a p in
    let y = map_has language_row ls b q in
    x.2 ∙ ap language_row (text_order.same x.0 y.0 (sym (compares x.0 y.0) ∙ sym (ap₂ row_cmp x.2 y.2) ∙ tie)) ∙ sym y.2

in_order_rows : (s : Operator) → in_order row_cmp (map language_row (languages_in (fin.entries s.more_names))) ≡ map (λ e. language_row e.0) (fin.entries (names_by_language s))
in_order_rows s =
    let es = fin.entries s.more_names in
    order_map text_cmp row_cmp language_row compares (languages_in es)
    ∙ ap (map language_row) (in_order_is text_order (by_language es))
    ∙ map_map (λ e. e.0) language_row (fin.entries (names_by_language s))

-- the first value from a start on is the next language
pub language_after : (s : Operator) (after : Option (List ℕ)) (start : List ℕ) → start ≡ start_after after
    → value_from 2 start (map stored_name (fin.entries s.more_names)) ≡ option_map language_row (next_language after s)
language_after s after start is =
    let ks = languages_in (fin.entries s.more_names) in
    ap (λ rows. slice_get (in_order row_cmp (filter (begins_from start) rows)) 0) (in_rows (fin.entries s.more_names))
    ∙ ap (λ rows. slice_get rows 0) (order_filter row_cmp_total (begins_from start) (map language_row ks) (rows_apart ks) ∙ ap (filter (begins_from start)) (in_order_rows s))
    ∙ first_behind (λ e. language_row e.0) (λ e. refl) after start is (names_by_language s)
    ∙ of_entry (first_after after (names_by_language s))
  where
    of_entry : (o : Option (List ℕ × List ℕ)) → option_map (λ e. language_row e.0) o ≡ option_map language_row (option_map (λ e. e.0) o)
    of_entry None = refl
    of_entry (Some e) = refl
