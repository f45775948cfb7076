-- What a CREATE TABLE says of a table that has keys and NOT NULL alone.
use Rattle.std.specs.Prelude.{ℕ, Bool, true, false, List, [], Option}
use Rattle.sqlite_value.specs.declared.value.Value.TheVariants.{Null}
use Rattle.sqlite_value.specs.declared.keys.Collation.TheVariants.{Binary}
use Rattle.sqlite_value.specs.declared.keys.Order.{Order}
use Rattle.sqlite_schema.specs.declared.schema.Kind.{Kind}
use Rattle.sqlite_schema.specs.declared.schema.Column.{Column}
use Rattle.sqlite_schema.specs.declared.schema.Table.{Table}

-- a table but for its tree
pub record Layout : Type 0 where
  pub name : List ℕ
  pub columns : List Column
  -- which column the rowid stands for, as an INTEGER PRIMARY KEY
  pub key : Option ℕ
  -- the places of the primary key in a stored row, whose rowid is at place 0
  pub primary : List ℕ
  -- the places of each key that has an index, and that index's order
  pub uniques : List (List ℕ)
  pub orders : List Order

-- the table in this tree, with no CHECK, foreign key, AUTOINCREMENT or computed default
abbrev pub table_of : Layout → ℕ → Table
table_of layout tree = record {
  name = layout.name;
  tree = tree;
  columns = layout.columns;
  key = layout.key;
  primary = layout.primary;
  uniques = layout.uniques;
  orders = layout.orders;
  checks = [];
  references = [];
  computed = [];
  stamps = record { places = []; terms = []; formats = [] };
  is_counted = false;
}

-- a column of a STRICT table, with no default
abbrev pub strict : List ℕ → Kind → Bool → Column
strict name kind not_null =
    record { name = name; kind = kind; is_strict = true; not_null = not_null; default = Null; collation = Binary }
