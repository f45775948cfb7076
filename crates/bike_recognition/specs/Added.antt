-- UNIQUE indexes that somebody added to a table of the product's.
-- A change of rows that breaks no rule of ours could fail on one.
use Rattle.std.specs.Prelude.{ℕ, ◌==◌, ◌&&◌, Bool, not, List, bytes_eq}
use Rattle.std.specs.List.{list_any}
use Rattle.sqlite_value.specs.Keys.{plain}
use Rattle.sqlite_schema.specs.declared.schema.Table.{Table}
use Rattle.sqlite_schema.specs.declared.schema.Index.{Index}
use Rattle.sqlite_schema.specs.declared.schema.Schema.{Schema}
use Rattle.sqlite_schema.specs.Names.{same_name}
use Rattle.bike_schema.specs.Layouts.{name_of, every_table}

-- the index is over these columns, in their order
abbrev pub is_over : Index → List ℕ → Bool
is_over index key = bytes_eq index.columns key

-- the index is over the columns of a key of the table, a PRIMARY KEY or UNIQUE of its
-- CREATE TABLE, each by its bytes and ascending, as the keys of the product's tables are
abbrev pub is_of_key : Table → Index → Bool
is_of_key table index = (index.order.digits == plain.digits) && list_any (is_over index) table.uniques

-- the index is of the table, and is UNIQUE beside its keys
abbrev pub is_added : Table → Index → Bool
is_added table index = (index.table == table.tree) && index.is_unique && not (is_of_key table index)

-- some index of the schema is of the table, and is UNIQUE beside its keys
abbrev pub has_added : Schema → Table → Bool
has_added schema table = list_any (is_added table) schema.indexes

-- the name is that of a table of the newest version, but for the case of its letters
abbrev pub is_product_name : List ℕ → Bool
is_product_name name = list_any (λ t. same_name name (name_of t)) every_table

-- the table is the product's, as its name tells, and somebody added one to it
abbrev pub is_hindered : Schema → Table → Bool
is_hindered schema table = is_product_name table.name && has_added schema table

-- SOMEBODY ADDED a UNIQUE index to a table of the product's. Earlier versions have these tables too, but for those of
-- stations and of riders: theirs are only read, and go when the database is raised.
abbrev pub has_added_unique : Schema → Bool
has_added_unique schema = list_any (is_hindered schema) schema.tables
