-- What each kind of query is, as a text: one form for each.
use Rattle.std.proofs.Common.{ℕ, zero, suc, List, [], ◌∷◌, ◌++◌, map, length}
use Rattle.std.specs.List.{range_with_len}
use Rattle.sqlite_value.specs.declared.value.Value.TheVariants.{Null}
use Rattle.sqlite_sql.specs.Term.{Term, lit, col}
use Rattle.sqlite_schema.specs.Names.{place_of}
use Rattle.bike_sql.specs.Layout.{table_of}
use Rattle.bike_sql.specs.Queries.{table_query, by_columns, join_tests, third_tests}
use Rattle.bike_sql.proofs.SelectLaws.{every_column, places_of, union_columns, all_binary}
use Rattle.bike_sql.proofs.TextLemmas.{IsSelect, IsLeftJoin, IsTwoJoins, IsUnionAll, IsUnionOfThree}
use Rattle.bike_book.specs.Tables.{TableName}
use Rattle.bike_schema.specs.Layouts.{layout_of}
use Rattle.bike_schema.proofs.KeyLemmas.{key_places}
use Rattle.bike_judges.proofs.SelfJoinLaw.{IsSelfJoins}

-- SELECT * FROM the table ORDER BY its key
abbrev pub IsListOf : TableName → List ℕ → Type 0
IsListOf t text = IsSelect (table_query 0 [] (by_columns (key_places t)) (every_column (layout_of t))) (layout_of t) text

-- ---- joins, in the order of the table's key

-- all columns of the table that stands at this place of a FROM
abbrev pub columns_in : ℕ → TableName → List Term
columns_in at t = map (λ column. col at (place_of (table_of (layout_of t) 0) column)) (range_with_len 0 (length (layout_of t).columns))

-- the key of the table, second or third in the FROM, equals these columns of the first
abbrev second_on : TableName → TableName → List ℕ → List Term
second_on t other columns = join_tests (key_places other) (places_of (layout_of t) columns)

abbrev third_on : TableName → TableName → List ℕ → List Term
third_on t other columns = third_tests (key_places other) (places_of (layout_of t) columns)

-- each row with its partner, whose key these columns are
abbrev pub IsJoinOf : TableName → TableName → List ℕ → List ℕ → Type 0
IsJoinOf t other columns text = IsLeftJoin (second_on t other columns) (by_columns (key_places t)) (columns_in 1 t ++ columns_in 2 other) (layout_of t) (layout_of other) text

-- each with its partners in two other tables
abbrev pub AreJoinsOf : TableName → TableName → List ℕ → TableName → List ℕ → List ℕ → Type 0
AreJoinsOf t other columns third more text =
    IsTwoJoins (second_on t other columns) (third_on t third more) (by_columns (key_places t)) (columns_in 1 t ++ columns_in 2 other ++ columns_in 3 third) (layout_of t) (layout_of other)
    (layout_of third) text

-- each with two partners in one other table
abbrev pub AreSelfJoinsOf : TableName → TableName → List ℕ → List ℕ → List ℕ → Type 0
AreSelfJoinsOf t other columns more text =
    IsSelfJoins (second_on t other columns) (third_on t other more) (by_columns (key_places t)) (columns_in 1 t ++ columns_in 2 other ++ columns_in 3 other) (layout_of t) (layout_of other) text

-- ---- unions, in the order of the columns at these places

-- so many NULLs
abbrev null_terms : ℕ → List Term
null_terms zero = []
null_terms (suc width) = lit Null ∷ null_terms width

-- the terms by which lines are in order, then all columns, and so many NULLs
abbrev pub line_terms : List Term → TableName → ℕ → List Term
line_terms lead t spare = lead ++ (columns_in 1 t ++ null_terms spare)

-- the rows of two tables, each shown by its terms
abbrev pub IsMixOf : TableName → List Term → TableName → List Term → List ℕ → List ℕ → Type 0
IsMixOf t first other second places text = IsUnionAll first second (all_binary first) places (union_columns first) (layout_of t) (layout_of other) text

-- the rows of three
abbrev pub IsMixOfThree : TableName → List Term → TableName → List Term → TableName → List Term → List ℕ → List ℕ → Type 0
IsMixOfThree t first other second last third places text = IsUnionOfThree first second third (all_binary first) places (union_columns first) (layout_of t) (layout_of other) (layout_of last) text
