-- One law for each form of SELECT: what the text answers, from what it is where its tables stand alone.
use Rattle.std.proofs.Common.{◌≡◌, ℕ, ℤ, List, [], ◌∷◌, ◌++◌, map, filter, take, length, slice_get, negsuc, Bool, ◌&&◌, false, Option, Some, None, Less, Equal, refl, sym, ap, ap₂, subst, ◌∙◌}
use Rattle.std.specs.List.{range_with_len, list_any, list_all}
use Rattle.std.specs.Ordering.{is_eq}
use Rattle.sqlite_value.specs.declared.value.Value.{Value}
use Rattle.sqlite_value.specs.declared.value.Value.TheVariants.{Null, Int}
use Rattle.sqlite_value.specs.declared.keys.Collation.{Collation}
use Rattle.sqlite_value.specs.declared.keys.Collation.TheVariants.{Binary}
use Rattle.sqlite_value.specs.Order.{Row, column, row_cmp}
use Rattle.sqlite_sql.specs.Aggregate.{count}
use Rattle.sqlite_sql.specs.Ops.{is_null}
use Rattle.sqlite_sql.specs.Query.{as_count, limited}
use Rattle.sqlite_sql.specs.Term.{Term, lit, col, eval, eval_all, holds}
use Rattle.sqlite_schema.specs.Names.{place_of}
use Rattle.sqlite.specs.Effect.{Database}
use Rattle.bike_sql.specs.Answer.{HasOneAnswer}
use Rattle.bike_sql.specs.Keyed.{in_order}
use Rattle.bike_sql.specs.Layout.{Layout, table_of}
use Rattle.bike_sql.specs.View.{columns_of, by_key, row_with, rows_where, rows_null, rows_between, last_of, left_joined, twice_joined}
use Rattle.bike_sql.specs.Stands.{rows_of, Stands}
use Rattle.bike_sql.specs.Queries.{table_query, limit_query, only_one, last_query, count_query, key_tests, key_in, null_tests, by_columns, join_tests, third_tests}
use Rattle.bike_sql.proofs.RowListLemmas.{map_map, map_has}
use Rattle.bike_sql.proofs.KeyLemmas.{IsKeyAt}
use Rattle.bike_sql.proofs.TreeLemmas.{by_key_total}
use Rattle.bike_sql.proofs.TextLemmas.{IsSelect, select_means, IsLeftJoin, left_join_means, IsTwoJoins, two_joins_means, IsUnionAll, union_all_means, IsUnionOfThree, union_of_three_means}
use Rattle.bike_sql.proofs.WalkLaw.{Finds}
use Rattle.bike_sql.proofs.LookupLaw.{lookup_finds}
use Rattle.bike_sql.proofs.RangeLaw.{ordered_answer, where_answer, range_tests, range_answer}
use Rattle.bike_sql.proofs.TestLemmas.{tests_key}
use Rattle.bike_sql.proofs.PageLaw.{tests_null, all_both, filter_filter, first_taken, page_answer}
use Rattle.bike_sql.proofs.LastLaw.{last_answer}
use Rattle.bike_sql.proofs.CountLaw.{count_answer}
use Rattle.bike_sql.proofs.JoinLaw.{left_join_answer}
use Rattle.bike_sql.proofs.TwoJoinsLaw.{two_joins_answer}
use Rattle.bike_sql.proofs.UnionLaw.{ranked_answer, union_answer}
use Rattle.bike_sql.proofs.LineLemmas.{apart_append, lines_apart}
use Rattle.bike_sql.proofs.UnionOfThreeLaw.{merged_answer}

-- where the columns stand in a stored row
abbrev pub places_of : Layout → List ℕ → List ℕ
places_of layout = map (place_of (table_of layout 0))

-- SELECT *
abbrev pub every_column : Layout → List Term
every_column layout = map (λ at. col 1 (place_of (table_of layout 0) at)) (range_with_len 0 (length layout.columns))

shows_every : (layout : Layout) (tree : ℕ) (params r : Row) → eval_all (every_column layout) (params ∷ r ∷ []) ≡ columns_of (table_of layout tree) r
shows_every layout tree params r = map_map (λ at. col 1 (place_of (table_of layout 0) at)) (λ t. eval t (params ∷ r ∷ [])) (range_with_len 0 (length layout.columns))

first_column : (row : Row) (v : Value) → take 1 row ≡ v ∷ [] → column row 0 ≡ v
first_column [] v is = absurd (cc)
first_column (x ∷ row) v is = cc

-- ---- one table

-- the columns of the stored row that are compared show where they are named
abbrev pub AreShown : Layout → List ℕ → Type 0
AreShown layout columns = (r : Row) → map (column (columns_of (table_of layout 0) r)) columns ≡ map (column r) (places_of layout columns)

module _ {keys : ℕ} {layout : Layout} {places : List ℕ} (key : IsKeyAt keys layout places) {db : Database} (was : Stands db keys layout) {text : List ℕ} {params : Row} where
  -- SELECT * FROM the table ORDER BY its key
  pub ordered_rows : IsSelect (table_query 0 [] (by_columns places) (every_column layout)) layout text → HasOneAnswer db text params (rows_of keys layout.name db)
  ordered_rows is =
      let it = select_means (table_query 0 [] (by_columns places) (every_column layout)) layout text is db.schema was.at was.tree was.has in
      ordered_answer keys layout db was text params places (every_column layout) it.0 it.1 key.first (shows_every layout was.tree params)

  -- .. WHERE the columns equal the parameters from one on
  pub rows_with : (at : ℕ) (columns : List ℕ) → IsSelect (table_query 0 (key_tests at (places_of layout columns)) (by_columns places) (every_column layout)) layout text
      → list_any is_null (key_in at (places_of layout columns) params) ≡ false → AreShown layout columns
      → HasOneAnswer db text params (rows_where columns (key_in at (places_of layout columns) params) (rows_of keys layout.name db))
  rows_with at columns is solid same =
      let it = select_means (table_query 0 (key_tests at (places_of layout columns)) (by_columns places) (every_column layout)) layout text is db.schema was.at was.tree was.has in
      where_answer keys layout db was text params places at (places_of layout columns) columns (every_column layout) it.0 it.1 key.first (shows_every layout was.tree params) solid same

  -- SELECT count(*) FROM the table WHERE the columns equal the parameters from one on
  pub counted_rows : (at : ℕ) (columns : List ℕ) → IsSelect (count_query 0 (key_tests at (places_of layout columns))) layout text
      → list_any is_null (key_in at (places_of layout columns) params) ≡ false → AreShown layout columns
      → Finds db text params (Some (count (length (rows_where columns (key_in at (places_of layout columns) params) (rows_of keys layout.name db))) ∷ []))
  counted_rows at columns is solid same =
      let it = select_means (count_query 0 (key_tests at (places_of layout columns))) layout text is db.schema was.at was.tree was.has in
      record { all = _; one = count_answer keys layout db was text params at (places_of layout columns) columns it.0 it.1 solid same; first = refl }

  -- SELECT * FROM the table WHERE its key equals the first parameters
  pub keyed_row : IsSelect (table_query 0 (key_tests 0 places) [] (every_column layout)) layout text → list_any is_null (key_in 0 places params) ≡ false
      → Finds db text params (row_with keys (key_in 0 places params) (rows_of keys layout.name db))
  keyed_row is solid =
      let it = select_means (table_query 0 (key_tests 0 places) [] (every_column layout)) layout text is db.schema was.at was.tree was.has in
      lookup_finds keys layout db was text params places (every_column layout) it.0 it.1 key.first solid (shows_every layout was.tree params)

-- ---- one table, any tests, and any terms of a row to show

-- these columns equal the parameters from one on, and those are NULL
abbrev pub equal_and_null : Layout → ℕ → List ℕ → List ℕ → List Term
equal_and_null layout at columns nulls = key_tests at (places_of layout columns) ++ null_tests (places_of layout nulls)

abbrev has_values : List ℕ → Row → Row → Bool
has_values columns values row = is_eq (row_cmp (map (column row) columns) values)

abbrev has_nulls : List ℕ → Row → Bool
has_nulls columns row = list_all is_null (map (column row) columns)

-- the parameters that the columns are compared with
abbrev pub values_for : Layout → ℕ → List ℕ → Row → Row
values_for layout at columns params = key_in at (places_of layout columns) params

decides_equal : (layout : Layout) (at : ℕ) (columns : List ℕ) (params r : Row) → list_any is_null (values_for layout at columns params) ≡ false → AreShown layout columns
    → list_all (holds (params ∷ r ∷ [])) (key_tests at (places_of layout columns)) ≡ has_values columns (values_for layout at columns params) (columns_of (table_of layout 0) r)
decides_equal layout at columns params r solid same = tests_key at (places_of layout columns) params r solid ∙ ap (λ k. is_eq (row_cmp k (values_for layout at columns params))) (sym (same r))

decides_both : (layout : Layout) (at : ℕ) (columns nulls : List ℕ) (params r : Row) → list_any is_null (values_for layout at columns params) ≡ false → AreShown layout columns → AreShown layout nulls
    → list_all (holds (params ∷ r ∷ [])) (equal_and_null layout at columns nulls)
    ≡ (has_values columns (values_for layout at columns params) (columns_of (table_of layout 0) r) && has_nulls nulls (columns_of (table_of layout 0) r))
decides_both layout at columns nulls params r solid same same_nulls =
    all_both (holds (params ∷ r ∷ [])) (key_tests at (places_of layout columns)) (null_tests (places_of layout nulls))
    ∙ ap₂ ◌&&◌ (decides_equal layout at columns params r solid same) (tests_null (places_of layout nulls) params r ∙ ap (list_all is_null) (sym (same_nulls r)))

module _ {keys : ℕ} {layout : Layout} {places : List ℕ} (key : IsKeyAt keys layout places) {db : Database} (was : Stands db keys layout) {text : List ℕ} {params : Row} (project : List Term)
    (show : Row → Row)
    (shows : (r : Row) → eval_all project (params ∷ r ∷ []) ≡ show (columns_of (table_of layout 0) r)) where
  -- SELECT project FROM the table WHERE each of the tests ORDER BY its key LIMIT a number. Of a row, as its columns show it, the tests decide `test`.
  pub rows_passing : (tests : List Term) (limit : Term) (test : Row → Bool) → IsSelect (limit_query limit (table_query 0 tests (by_columns places) project)) layout text
      → ((r : Row) → list_all (holds (params ∷ r ∷ [])) tests ≡ test (columns_of (table_of layout 0) r))
      → HasOneAnswer db text params (limited (as_count (eval limit (params ∷ []))) (map show (filter test (rows_of keys layout.name db))))
  rows_passing tests limit test is decides =
      let it = select_means (limit_query limit (table_query 0 tests (by_columns places) project)) layout text is db.schema was.at was.tree was.has in
      page_answer keys layout db was text params places tests limit project it.0 it.1 key.first show shows test (λ r has. decides r)

  -- .. LIMIT 1
  pub first_passing : (tests : List Term) (test : Row → Bool) → IsSelect (limit_query only_one (table_query 0 tests (by_columns places) project)) layout text
      → ((r : Row) → list_all (holds (params ∷ r ∷ [])) tests ≡ test (columns_of (table_of layout 0) r))
      → Finds db text params (slice_get (map show (filter test (rows_of keys layout.name db))) 0)
  first_passing tests test is decides = record { all = _; one = rows_passing tests only_one test is decides; first = first_taken (map show (filter test (rows_of keys layout.name db))) }

  -- WHERE the columns equal the parameters from one on ORDER BY the key LIMIT 1
  pub first_with : (at : ℕ) (columns : List ℕ) → IsSelect (limit_query only_one (table_query 0 (key_tests at (places_of layout columns)) (by_columns places) project)) layout text
      → list_any is_null (values_for layout at columns params) ≡ false → AreShown layout columns
      → Finds db text params (slice_get (map show (rows_where columns (values_for layout at columns params) (rows_of keys layout.name db))) 0)
  first_with at columns is solid same =
      first_passing (key_tests at (places_of layout columns)) (has_values columns (values_for layout at columns params)) is (λ r. decides_equal layout at columns params r solid same)

  -- WHERE the columns equal the parameters from one on AND the others are NULL ORDER BY the key
  pub rows_with_null : (at : ℕ) (columns nulls : List ℕ) → IsSelect (table_query 0 (equal_and_null layout at columns nulls) (by_columns places) project) layout text
      → list_any is_null (values_for layout at columns params) ≡ false → AreShown layout columns → AreShown layout nulls
      → HasOneAnswer db text params (map show (rows_null nulls (rows_where columns (values_for layout at columns params) (rows_of keys layout.name db))))
  rows_with_null at columns nulls is solid same same_nulls =
      let values = values_for layout at columns params in
      subst (λ rows. HasOneAnswer db text params (map show rows)) (filter_filter (has_nulls nulls) (has_values columns values) (rows_of keys layout.name db))
      (rows_passing (equal_and_null layout at columns nulls) (lit (Int (negsuc 0))) (λ row. has_values columns values row && has_nulls nulls row) is
      (λ r. decides_both layout at columns nulls params r solid same same_nulls))

  -- .. LIMIT 1
  pub first_with_null : (at : ℕ) (columns nulls : List ℕ) → IsSelect (limit_query only_one (table_query 0 (equal_and_null layout at columns nulls) (by_columns places) project)) layout text
      → list_any is_null (values_for layout at columns params) ≡ false → AreShown layout columns → AreShown layout nulls
      → Finds db text params (slice_get (map show (rows_null nulls (rows_where columns (values_for layout at columns params) (rows_of keys layout.name db)))) 0)
  first_with_null at columns nulls is solid same same_nulls =
      let values = values_for layout at columns params in
      subst (λ rows. Finds db text params (slice_get (map show rows) 0)) (filter_filter (has_nulls nulls) (has_values columns values) (rows_of keys layout.name db))
      (first_passing (equal_and_null layout at columns nulls) (λ row. has_values columns values row && has_nulls nulls row) is
      (λ r. decides_both layout at columns nulls params r solid same same_nulls))

-- ---- one table, whose key is a number

module _ {layout : Layout} (key : IsKeyAt 1 layout (0 ∷ [])) {db : Database} (was : Stands db 1 layout) {text : List ℕ} where
  -- SELECT * FROM the table WHERE key >= ?1 AND key < ?2 ORDER BY key
  pub rows_from_to : (from to : ℤ) → IsSelect (table_query 0 range_tests (by_columns (0 ∷ [])) (every_column layout)) layout text
      → HasOneAnswer db text (Int from ∷ Int to ∷ []) (rows_between (Int from) (Int to) (rows_of 1 layout.name db))
  rows_from_to from to is =
      let it = select_means (table_query 0 range_tests (by_columns (0 ∷ [])) (every_column layout)) layout text is db.schema was.at was.tree was.has in
      range_answer layout db was text from to (every_column layout) it.0 it.1 key.first (shows_every layout was.tree (Int from ∷ Int to ∷ []))
      (λ r. first_column (columns_of (table_of layout was.tree) r) _ (key.first r))

  -- SELECT * FROM the table ORDER BY key DESC LIMIT 1
  pub last_row : {params : Row} → IsSelect (last_query 0 (every_column layout)) layout text → Finds db text params (slice_get (last_of (rows_of 1 layout.name db)) 0)
  last_row {params} is =
      let it = select_means (last_query 0 (every_column layout)) layout text is db.schema was.at was.tree was.has in
      record { all = _; one = last_answer layout db was text params (every_column layout) it.0 it.1 key.first (shows_every layout was.tree params); first = refl }

-- ---- two tables

-- SELECT project FROM the table LEFT JOIN the other ON its key equals these columns ORDER BY the table's key
pub rows_joined : {keys more : ℕ} {layout other : Layout} {places other_places : List ℕ} (key : IsKeyAt keys layout places) (other_key : IsKeyAt more other other_places) {db : Database}
    (was : Stands db keys layout) (with_ : Stands db more other) {text : List ℕ} {params : Row} (columns : List ℕ) (project : List Term) (show : Row → Option Row → Row)
    → IsLeftJoin (join_tests other_places (places_of layout columns)) (by_columns places) project layout other text → length other_places ≡ length (places_of layout columns) → AreShown layout columns
    → ((r : Row) → eval_all project (params ∷ r ∷ [] ∷ []) ≡ show (columns_of (table_of layout 0) r) None)
    → ((r s : Row) → eval_all project (params ∷ r ∷ s ∷ []) ≡ show (columns_of (table_of layout 0) r) (Some (columns_of (table_of other 0) s)))
    → HasOneAnswer db text params (left_joined show columns more (rows_of more other.name db) (rows_of keys layout.name db))
rows_joined {keys} {more} {layout} {other} {places} {other_places} key other_key {db} was with_ {text} {params} columns project show is as_many same shows_none shows_some =
    let it = left_join_means (join_tests other_places (places_of layout columns)) (by_columns places) project layout other text is db.schema was.at was.tree with_.at with_.tree was.has with_.has in
    left_join_answer keys layout more other db was with_ text params places other_places
    (places_of layout columns) columns project it.0 it.1 key.first other_key.first as_many same show shows_none shows_some

-- ---- three tables

-- SELECT project FROM the table LEFT JOIN a second ON its key equals these columns LEFT JOIN a third ON its key equals those ORDER BY the table's key
pub rows_joined_twice : {keys k1 k2 : ℕ} {layout l1 l2 : Layout} {places p1 p2 : List ℕ} (key : IsKeyAt keys layout places) (key1 : IsKeyAt k1 l1 p1) (key2 : IsKeyAt k2 l2 p2) {db : Database}
    (was : Stands db keys layout) (w1 : Stands db k1 l1) (w2 : Stands db k2 l2) {text : List ℕ} {params : Row}
    (c1 c2 : List ℕ) (project : List Term) (show : Row → Option Row → Option Row → Row)
    → IsTwoJoins (join_tests p1 (places_of layout c1)) (third_tests p2 (places_of layout c2)) (by_columns places) project layout l1 l2 text
    → length p1 ≡ length (places_of layout c1) → length p2 ≡ length (places_of layout c2) → AreShown layout c1 → AreShown layout c2
    → ((r : Row) → eval_all project (params ∷ r ∷ [] ∷ [] ∷ []) ≡ show (columns_of (table_of layout 0) r) None None)
    → ((r s : Row) → eval_all project (params ∷ r ∷ s ∷ [] ∷ []) ≡ show (columns_of (table_of layout 0) r) (Some (columns_of (table_of l1 0) s)) None)
    → ((r t : Row) → eval_all project (params ∷ r ∷ [] ∷ t ∷ []) ≡ show (columns_of (table_of layout 0) r) None (Some (columns_of (table_of l2 0) t)))
    → ((r s t : Row) → eval_all project (params ∷ r ∷ s ∷ t ∷ []) ≡ show (columns_of (table_of layout 0) r) (Some (columns_of (table_of l1 0) s)) (Some (columns_of (table_of l2 0) t)))
    → HasOneAnswer db text params (twice_joined show c1 k1 (rows_of k1 l1.name db) c2 k2 (rows_of k2 l2.name db) (rows_of keys layout.name db))
rows_joined_twice {keys} {k1} {k2} {layout} {l1} {l2} {places} {p1} {p2} key key1 key2 {db} was w1 w2 {text}
    {params} c1 c2 project show is many1 many2 same1 same2 shows_none shows_first shows_second shows_both =
    let it = two_joins_means (join_tests p1 (places_of layout c1)) (third_tests p2 (places_of layout c2)) (by_columns places) project layout l1 l2 text is db.schema was.at was.tree w1.at w1.tree w2.at w2.tree was.has w1.has w2.has in
    two_joins_answer keys layout k1 l1 k2 l2 db was w1 w2 text params places p1 (places_of layout c1) c1 p2
    (places_of layout c2) c2 project it.0 it.1 key.first key1.first key2.first many1 many2 same1 same2 show shows_none shows_first shows_second shows_both

-- ---- a union

-- what the UNION ALL of these terms shows, after the NULL in the place of a rowid
abbrev pub union_columns : List Term → List Term
union_columns terms = map (λ at. col 1 at) (range_with_len 1 (length terms))

abbrev pub all_binary : List Term → List Collation
all_binary terms = map (λ t. Binary) (lit Null ∷ terms)

-- SELECT first FROM one table UNION ALL SELECT second FROM the other ORDER BY the columns at these places, the first of which tells the tables apart
pub rows_ranked : {k1 k2 : ℕ} {a b : Layout} {db : Database} (was : Stands db k1 a) (also : Stands db k2 b) {text : List ℕ} {params : Row} (places : List ℕ) (first second : List Term)
    (left right : Row → Row)
    → IsUnionAll first second (all_binary first) places (union_columns first) a b text
    → ((r : Row) → take (length places) (eval_all (union_columns first) (params ∷ r ∷ [])) ≡ map (column r) places)
    → ((r : Row) → eval_all (union_columns first) (params ∷ eval_all (lit Null ∷ first) (params ∷ r ∷ []) ∷ []) ≡ left (columns_of (table_of a 0) r))
    → ((r : Row) → eval_all (union_columns first) (params ∷ eval_all (lit Null ∷ second) (params ∷ r ∷ []) ∷ []) ≡ right (columns_of (table_of b 0) r))
    → ((r s : Row) → by_key (length places) (left (columns_of (table_of a 0) r)) (left (columns_of (table_of a 0) s)) ≡ by_key k1 (columns_of (table_of a 0) r) (columns_of (table_of a 0) s))
    → ((r s : Row) → by_key (length places) (right (columns_of (table_of b 0) r)) (right (columns_of (table_of b 0) s)) ≡ by_key k2 (columns_of (table_of b 0) r) (columns_of (table_of b 0) s))
    → ((r s : Row) → by_key (length places) (left r) (right s) ≡ Less)
    → HasOneAnswer db text params (map left (rows_of k1 a.name db) ++ map right (rows_of k2 b.name db))
rows_ranked {k1} {k2} {a} {b} {db} was also {text} {params} places first second left right is keyed_by shows_left shows_right keeps_left keeps_right ranks =
    let it = union_all_means first second (all_binary first) places (union_columns first) a b text is db.schema was.at was.tree also.at also.tree was.has also.has in
    ranked_answer (length places) k1 k2 a b db was also text params first second (union_columns first)
    (all_binary first) places it.0 left right it.1 keyed_by shows_left shows_right keeps_left keeps_right ranks

-- two lines of a table tie only where their rows have one key
abbrev pub TiesOnlyByKey : ℕ → ℕ → Layout → (Row → Row) → Type 0
TiesOnlyByKey width keys layout show =
    (r s : Row) → by_key width (show (columns_of (table_of layout 0) r)) (show (columns_of (table_of layout 0) s)) ≡ Equal
    → by_key keys (columns_of (table_of layout 0) r) (columns_of (table_of layout 0) s) ≡ Equal

-- no line of the one kind ties with one of the other
abbrev pub NeverTies : ℕ → (Row → Row) → (Row → Row) → Type 0
NeverTies width show other = (r s : Row) → by_key width (show r) (other s) ≡ Equal → ⊥

-- the UNION ALL shows a part's row as its line
abbrev pub ShowsLine : List Term → List Term → Layout → (Row → Row) → Row → Type 0
ShowsLine project terms layout show params = (r : Row) → eval_all project (params ∷ eval_all (lit Null ∷ terms) (params ∷ r ∷ []) ∷ []) ≡ show (columns_of (table_of layout 0) r)

-- SELECT first FROM one table UNION ALL SELECT second FROM the other ORDER BY the columns at these places, by which lines of both mix
pub rows_merged : {k1 k2 : ℕ} {a b : Layout} {db : Database} (was : Stands db k1 a) (also : Stands db k2 b) {text : List ℕ} {params : Row} (places : List ℕ) (first second : List Term)
    (left right : Row → Row) → IsUnionAll first second (all_binary first) places (union_columns first) a b text
    → ((r : Row) → take (length places) (eval_all (union_columns first) (params ∷ r ∷ [])) ≡ map (column r) places) → ShowsLine (union_columns first) first a left params
    → ShowsLine (union_columns first) second b right params
    → TiesOnlyByKey (length places) k1 a left → TiesOnlyByKey (length places) k2 b right → NeverTies (length places) left right
    → HasOneAnswer db text params (in_order (by_key (length places)) (map left (rows_of k1 a.name db) ++ map right (rows_of k2 b.name db)))
rows_merged {k1} {k2} {a} {b} {db} was also {text} {params} places first second left right is keyed_by shows1 shows2 ties1 ties2 far =
    let it = union_all_means first second (all_binary first) places (union_columns first) a b text is db.schema was.at was.tree also.at also.tree was.has also.has in
    union_answer (length places) k1 k2 a b db was also text params first second (union_columns first) (all_binary first) places it.0 left right it.1 keyed_by shows1 shows2
    (apart_append (by_key_total (length places)) (map left (rows_of k1 a.name db)) (map right (rows_of k2 b.name db))
    (lines_apart (length places) db params (union_columns first) k1 a was left ties1) (lines_apart (length places) db params (union_columns first) k2 b also right ties2)
    (λ x y h k. let r = map_has left (rows_of k1 a.name db) x h in let s = map_has right (rows_of k2 b.name db) y k in λ tie. far r.0 s.0 (rw (r.2, s.2) at tie)))

-- .. UNION ALL SELECT third FROM a third table
pub rows_merged_of_three : {k1 k2 k3 : ℕ} {a b c : Layout} {db : Database} (w1 : Stands db k1 a) (w2 : Stands db k2 b) (w3 : Stands db k3 c) {text : List ℕ} {params : Row} (places : List ℕ)
    (first second third : List Term) (left middle right : Row → Row)
    → IsUnionOfThree first second third (all_binary first) places (union_columns first) a b c text
    → ((r : Row) → take (length places) (eval_all (union_columns first) (params ∷ r ∷ [])) ≡ map (column r) places)
    → ShowsLine (union_columns first) first a left params → ShowsLine (union_columns first) second b middle params → ShowsLine (union_columns first) third c right params
    → TiesOnlyByKey (length places) k1 a left → TiesOnlyByKey (length places) k2 b middle → TiesOnlyByKey (length places) k3 c right
    → NeverTies (length places) left middle → NeverTies (length places) left right → NeverTies (length places) middle right
    → HasOneAnswer db text params (in_order (by_key (length places)) ((map left (rows_of k1 a.name db) ++ map middle (rows_of k2 b.name db)) ++ map right (rows_of k3 c.name db)))
rows_merged_of_three {k1} {k2} {k3} {a} {b} {c} {db} w1 w2 w3 {text} {params} places first second third left middle right is keyed_by shows1 shows2 shows3 ties1 ties2 ties3 far12 far13 far23 =
    let it = union_of_three_means first second third (all_binary first) places (union_columns first) a b c text is db.schema w1.at w1.tree w2.at w2.tree w3.at w3.tree w1.has w2.has w3.has in
    merged_answer (length places) k1 k2 k3 a b c db w1 w2 w3 text params first second third (union_columns first)
    (all_binary first) places it.0 left middle right it.1 keyed_by shows1 shows2 shows3 ties1 ties2 ties3 far12 far13 far23
