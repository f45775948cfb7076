-- The texts whose meaning rests on their tables' names alone, as a test of the syntax.
-- Covered are: joins and left joins of named tables, ON, USING, WHERE, GROUP BY, HAVING,
-- ORDER BY, DISTINCT, LIMIT and OFFSET, aliases, the binary operators, BETWEEN, IS NULL,
-- NOT, COLLATE, EXISTS, a subquery as a value, and the aggregates. Not covered are:
-- WITH, a subquery in FROM, IN, CASE, CAST, a minus before a term, and functions of values.
use Rattle.std.specs.Prelude.{ℕ, zero, suc, Bool, true, false, ◌&&◌, List, [], ◌∷◌, Option, Some, None, is_some}
use Rattle.sqlite_ast.specs.declared.Unary.{Unary}
use Rattle.sqlite_ast.specs.declared.Unary.TheVariants.{Minus}
use Rattle.sqlite_ast.specs.declared.Expr.{Expr, out-Expr}
use Rattle.sqlite_ast.specs.declared.Expr.TheOpen.{Expr-F, Shown-F}
use Rattle.sqlite_ast.specs.declared.Shown.{Shown, out-Shown}
use Rattle.sqlite_ast.specs.declared.Sort.{Sort, out-Sort}
use Rattle.sqlite_ast.specs.declared.Source.{Source, out-Source}
use Rattle.sqlite_ast.specs.declared.Origin.{Origin}
use Rattle.sqlite_ast.specs.declared.Origin.TheVariants as origin
use Rattle.sqlite_ast.specs.declared.Core.{Core, out-Core}
use Rattle.sqlite_ast.specs.declared.Select.{Select, out-Select}
use Rattle.sqlite_ast.specs.Layer.{Layer, ShownLayer}
use Rattle.sqlite_schema.specs.declared.schema.Schema.{Schema}
use Rattle.sqlite_schema.specs.Names.{table_named}
use Rattle.sqlite_resolve.specs.declared.function.Function.{Function}
use Rattle.sqlite_resolve.specs.declared.function.Function.TheVariants.{Aggregate}
use Rattle.sqlite_resolve.specs.Scope.{Name}
use Rattle.sqlite_resolve.specs.Order.{peeled}
use Rattle.sqlite_resolve.specs.Expr.{function_named}

abbrev pub is_nil : {X : Type 0} → List X → Bool
is_nil [] = true
is_nil (x ∷ xs) = false

-- every prefix but a minus, which the resolver folds into the number that follows
abbrev pub covers_prefix : Unary → Bool
covers_prefix Minus = false
covers_prefix _ = true

-- an expression of which each part is covered, and that has no query in it
abbrev pub covers_node : (Expr → Bool) → Layer → Bool
covers_node ok Expr-F.Null = true
covers_node ok (Expr-F.Integer text) = true
covers_node ok (Expr-F.Float text) = true
covers_node ok (Expr-F.Text text) = true
covers_node ok (Expr-F.Blob digits) = true
covers_node ok (Expr-F.Parameter n) = true
covers_node ok (Expr-F.Column table name) = true
covers_node ok (Expr-F.Truth name value) = true
covers_node ok (Expr-F.Unary op e) = covers_prefix op && ok e
covers_node ok (Expr-F.Binary op a b) = ok a && ok b
covers_node ok (Expr-F.Between value low high) = ok value && (ok low && ok high)
covers_node ok (Expr-F.CallStar name) = true
covers_node ok _ = false

abbrev pub covers_option : (Expr → Bool) → Option Expr → Bool
covers_option ok None = true
covers_option ok (Some e) = ok e

-- a table that the schema has
abbrev pub covers_origin : Schema → Origin Select → Bool
covers_origin s (origin.Table name) = is_some (table_named s name)
covers_origin s (origin.Query q) = false

abbrev pub covers_sources : Schema → (Expr → Bool) → List Source → Bool
covers_sources s ok [] = true
covers_sources s ok (x ∷ more) =
    covers_origin s (out-Source x).origin && (covers_option ok (out-Source x).on && covers_sources s ok more)

abbrev pub covers_column : (Expr → Bool) → ShownLayer → Bool
covers_column ok Shown-F.All = true
covers_column ok (Shown-F.AllOf table) = true
covers_column ok (Shown-F.One e alias text) = ok e

abbrev pub covers_columns : (Expr → Bool) → List Shown → Bool
covers_columns ok [] = true
covers_columns ok (x ∷ more) = covers_column ok (out-Shown x) && covers_columns ok more

-- FROM, the columns of the result, and WHERE
abbrev pub covers_body : Schema → (Expr → Bool) → Core → Bool
covers_body s ok core =
    covers_sources s ok (out-Core core).from && (covers_columns ok (out-Core core).shown
    && covers_option ok (out-Core core).filter)

abbrev pub covers_order : (Expr → Bool) → List Sort → Bool
covers_order ok [] = true
covers_order ok (x ∷ more) = ok (peeled (out-Sort x).key) && covers_order ok more

abbrev pub covers_group : (Expr → Bool) → List Expr → Bool
covers_group ok [] = true
covers_group ok (e ∷ more) = ok (peeled e) && covers_group ok more

-- a query inside an expression
abbrev pub covers_inner : Schema → (Expr → Bool) → Select → Bool
covers_inner s ok q = covers_body s ok (out-Select q).first && covers_order ok (out-Select q).order

abbrev pub is_aggregate : Function → Bool
is_aggregate (Aggregate op) = true
is_aggregate _ = false

-- an expression of which each part is covered
abbrev pub covers_layer : Schema → (Expr → Bool) → Layer → Bool
covers_layer s ok (Expr-F.Exists q) = covers_inner s ok q
covers_layer s ok (Expr-F.Subquery q) = covers_inner s ok q
covers_layer s ok (Expr-F.Call name distinct (e ∷ [])) = ok e && is_aggregate (function_named name)
covers_layer s ok l = covers_node ok l

-- an expression that is covered down to this depth; the resolver goes no deeper than 700
abbrev pub covers_to : Schema → ℕ → Expr → Bool
covers_to s zero e = true
covers_to s (suc depth) e = covers_layer s (covers_to s depth) (out-Expr e)

abbrev pub covers : Schema → Expr → Bool
covers s = covers_to s 700

-- one SELECT with its order
abbrev pub covers_core : Schema → Core → List Sort → Bool
covers_core s core order =
    covers_body s (covers s) core && (covers_group (covers s) (out-Core core).group
    && (covers_option (covers s) (out-Core core).having && covers_order (covers s) order))

-- LIMIT and OFFSET
abbrev pub covers_page : Schema → Select → Bool
covers_page s q = covers_option (covers s) (out-Select q).limit && covers_option (covers s) (out-Select q).offset

-- a whole query with no WITH and no UNION
abbrev pub covers_select : Schema → Select → Bool
covers_select s q =
    covers_core s (out-Select q).first (out-Select q).order
    && (covers_page s q && (is_nil (out-Select q).with && is_nil (out-Select q).others))

-- what UPDATE sets
abbrev pub covers_sets : Schema → List (Name × Expr) → Bool
covers_sets s [] = true
covers_sets s (x ∷ more) = covers s x.1 && covers_sets s more
