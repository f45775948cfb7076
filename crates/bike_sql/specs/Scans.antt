-- The queries that most statements over one table mean.
use Rattle.std.specs.Prelude.{ℕ, pos, negsuc, true, false, List, [], None}
use Rattle.sqlite_value.specs.declared.value.Value.TheVariants.{Int}
use Rattle.sqlite_value.specs.declared.keys.Key.{Key}
use Rattle.sqlite_value.specs.declared.keys.Collation.TheVariants.{Binary}
use Rattle.sqlite_sql.specs.Term.{Term, lit, col, op2}
use Rattle.sqlite_sql.specs.Query.{Query, inner, end}
use Rattle.sqlite_sql.specs.declared.ops.BinaryOp.TheVariants.{Compare}
use Rattle.sqlite_sql.specs.declared.ops.CompareOp.{CompareOp}
use Rattle.sqlite_sql.specs.declared.ops.CompareOp.TheVariants.{Eq}

-- of the rows of one tree those that pass, in this order, as many as the limit
abbrev pub scan : ℕ → List Term → List (Term × Key) → List Term → Term → Query
scan tree filter order project limit =
    record {
      from = inner tree end;
      filter = filter;
      group = None;
      project = project;
      distinct = false;
      collations = [];
      order = order;
      limit = limit;
      offset = lit (Int (pos 0));
    }

-- no limit, as LIMIT -1
abbrev pub no_limit : Term
no_limit = lit (Int (negsuc 0))

-- the place of a row, compared with a parameter
abbrev pub test : CompareOp → ℕ → ℕ → Term
test op place parameter = op2 (Compare op Binary) (col 1 place) (col 0 parameter)

abbrev pub equals : ℕ → ℕ → Term
equals = test Eq

abbrev pub ascending : ℕ → Term × Key
ascending place = (col 1 place, record { collation = Binary; descending = false })

abbrev pub descending : ℕ → Term × Key
descending place = (col 1 place, record { collation = Binary; descending = true })
