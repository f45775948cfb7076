-- The text that adds a row to a table, as `table!` writes it: a parameter for each column.
use Rattle.std.proofs.Common.{ℕ, List, [], ◌∷◌, ◌++◌, codes}
use Rattle.sqlite_schema.specs.declared.schema.Column.{Column}
use Rattle.bike_book.specs.Tables.{TableName}
use Rattle.bike_schema.specs.Layouts.{layout_of, name_of}

-- a parameter for each column
abbrev parameters : List Column → List ℕ
parameters [] = []
parameters (c ∷ []) = codes "?"
parameters (c ∷ cs) = codes "?, " ++ parameters cs

abbrev pub insert_text : TableName → List ℕ
insert_text t = codes "INSERT INTO " ++ name_of t ++ codes " VALUES (" ++ parameters (layout_of t).columns ++ codes ")"
