-- The queries of one table that the laws speak of.
use Rattle.std.specs.Prelude.{ℕ, suc, List, [], ◌∷◌, length, pos, negsuc, Some, None, false, true}
use Rattle.sqlite_value.specs.declared.value.Value.TheVariants.{Null, Int}
use Rattle.sqlite_value.specs.declared.keys.Key.{Key}
use Rattle.sqlite_value.specs.declared.keys.Collation.{Collation}
use Rattle.sqlite_value.specs.declared.keys.Collation.TheVariants.{Binary}
use Rattle.sqlite_value.specs.Order.{Row, column}
use Rattle.sqlite_value.specs.Keys.{ascending}
use Rattle.sqlite_sql.specs.Term.{Term, lit, col, op2}
use Rattle.sqlite_sql.specs.Query.{Query, inner, left, end}
use Rattle.sqlite_sql.specs.declared.aggregate.AggregateOp.TheVariants.{CountRows}
use Rattle.sqlite_sql.specs.declared.ops.BinaryOp.TheVariants.{Compare, Is}
use Rattle.sqlite_sql.specs.declared.ops.CompareOp.TheVariants.{Eq}
use Rattle.sqlite_sql.specs.declared.query.SetOp.TheVariants.{UnionAll}
use Rattle.sqlite_schema.specs.declared.program.Table.{Table as Let}
use Rattle.sqlite_schema.specs.declared.program.Table.TheVariants.{Selected, Combined}

-- SELECT project FROM the table in the tree WHERE each of the tests ORDER BY order
abbrev pub table_query : ℕ → List Term → List (Term × Key) → List Term → Query
table_query tree tests order project = record {
  from = inner tree end;
  filter = tests;
  group = None;
  project = project;
  distinct = false;
  collations = [];
  order = order;
  limit = lit (Int (negsuc 0));
  offset = lit (Int (pos 0));
}

-- the column at a place of the stored row = a parameter
abbrev pub key_test : ℕ → ℕ → Term
key_test place at = op2 (Compare Eq Binary) (col 1 place) (col 0 at)

-- the columns at these places equal the parameters from one on
abbrev pub key_tests : ℕ → List ℕ → List Term
key_tests at [] = []
key_tests at (place ∷ places) = key_test place at ∷ key_tests (suc at) places

-- the parameters that those tests compare with
abbrev pub key_in : ℕ → List ℕ → Row → Row
key_in at [] params = []
key_in at (place ∷ places) params = column params at ∷ key_in (suc at) places params

-- each column at these places IS NULL
abbrev pub null_tests : List ℕ → List Term
null_tests [] = []
null_tests (place ∷ places) = op2 (Is Binary) (col 1 place) (lit Null) ∷ null_tests places

-- ORDER BY the columns at these places
abbrev pub by_columns : List ℕ → List (Term × Key)
by_columns [] = []
by_columns (place ∷ places) = (col 1 place, ascending Binary) ∷ by_columns places

-- .. LIMIT a term
abbrev pub limit_query : Term → Query → Query
limit_query limit query = record query { limit = limit }

-- LIMIT 1
abbrev pub only_one : Term
only_one = lit (Int (pos 1))

-- SELECT project FROM the table in the tree ORDER BY its INTEGER PRIMARY KEY DESC LIMIT 1
abbrev pub last_query : ℕ → List Term → Query
last_query tree project =
    record (table_query tree [] ((col 1 0, record { collation = Binary; descending = true }) ∷ []) project)
    { limit = lit (Int (pos 1)) }

-- the columns of the second table at these places equal those of the first
abbrev pub join_tests : List ℕ → List ℕ → List Term
join_tests [] cs = []
join_tests (p ∷ ps) [] = []
join_tests (p ∷ ps) (c ∷ cs) = op2 (Compare Eq Binary) (col 2 p) (col 1 c) ∷ join_tests ps cs

-- SELECT project FROM one table LEFT JOIN the other ON each of the tests ORDER BY order
abbrev pub left_query : ℕ → ℕ → List Term → List (Term × Key) → List Term → Query
left_query tree other on order project =
    record (table_query tree [] order project) { from = inner tree (left other on end) }

-- the columns of the third table at these places equal those of the first
abbrev pub third_tests : List ℕ → List ℕ → List Term
third_tests [] cs = []
third_tests (p ∷ ps) [] = []
third_tests (p ∷ ps) (c ∷ cs) = op2 (Compare Eq Binary) (col 3 p) (col 1 c) ∷ third_tests ps cs

-- SELECT project FROM one table LEFT JOIN a second ON each of the
-- tests LEFT JOIN a third ON each of the others ORDER BY order
abbrev pub two_left_query : ℕ → ℕ → List Term → ℕ → List Term → List (Term × Key) → List Term → Query
two_left_query tree second on third on_third order project =
    record (table_query tree [] order project) { from = inner tree (left second on (left third on_third end)) }

-- SELECT count(*) FROM the table in the tree WHERE each of the tests
abbrev pub count_query : ℕ → List Term → Query
count_query tree tests = record (table_query tree tests [] (col 1 0 ∷ [])) {
  group =
      Some (record {
        keys = [];
        collations = [];
        aggregates = record { op = CountRows; distinct = false; collation = Binary; argument = lit Null } ∷ [];
        having = [];
      });
}

-- one SELECT of a UNION: the NULL that stands in the place of a rowid, and the terms
abbrev pub part_query : ℕ → List Term → Query
part_query tree terms = record (table_query tree [] [] (lit Null ∷ terms)) { collations = Binary ∷ [] }

-- SELECT first FROM the one table UNION ALL SELECT second FROM the other,
-- with the collation of each place: the rows of each, and then both
abbrev pub union_tables : ℕ → ℕ → List Term → List Term → List Collation → List Let
union_tables tree other first second collations =
    Selected (part_query tree first) ∷ Selected (part_query other second)
    ∷ Combined UnionAll 0 1 (length collations) collations ∷ []

-- the number of the tree that both together have, after the two parts
abbrev pub union_tree : ℕ
union_tree = 2147483650

-- .. ORDER BY the columns at these places of both together
abbrev pub union_query : List ℕ → List Term → Query
union_query places project = table_query union_tree [] (by_columns places) project

-- SELECT first FROM one table UNION ALL SELECT second FROM another UNION ALL SELECT
-- third FROM a third: the rows of two, both, those of the third, and then all
abbrev pub three_tables : ℕ → ℕ → ℕ → List Term → List Term → List Term → List Collation → List Let
three_tables tree other last first second third collations =
    Selected (part_query tree first) ∷ Selected (part_query other second)
    ∷ Combined UnionAll 0 1 (length collations) collations ∷ Selected (part_query last third)
    ∷ Combined UnionAll 2 3 (length collations) collations ∷ []

-- the number of the tree that all three together have, which is the fifth computed
abbrev pub three_tree : ℕ
three_tree = 2147483652

-- .. ORDER BY the columns at these places of all together
abbrev pub three_query : List ℕ → List Term → Query
three_query places project = table_query three_tree [] (by_columns places) project
