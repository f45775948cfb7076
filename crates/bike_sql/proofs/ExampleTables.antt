-- Two tables to read texts over: members have an INTEGER PRIMARY KEY; lockers a composite TEXT key, and a member or NULL.
use Rattle.std.proofs.Common.{ℕ, Bool, true, false, List, [], ◌∷◌, Some, None, codes}
use Rattle.sqlite_value.specs.declared.value.Value.TheVariants.{Null}
use Rattle.sqlite_value.specs.declared.keys.Collation.TheVariants.{Binary}
use Rattle.sqlite_value.specs.Keys.{plain}
use Rattle.sqlite_schema.specs.declared.schema.Kind.{Kind}
use Rattle.sqlite_schema.specs.declared.schema.Kind.TheVariants.{Integer, Text}
use Rattle.sqlite_schema.specs.declared.schema.Column.{Column}
use Rattle.sqlite_schema.specs.declared.schema.Table.{Table}

abbrev pub column : List ℕ → Kind → Bool → Column
column name kind required = record { name = name; kind = kind; is_strict = true; not_null = required; default = Null; collation = Binary }

abbrev pub members : ℕ → Table
members tree = record {
  name = codes "members";
  tree = tree;
  columns = column (codes "member") Integer false ∷ column (codes "credit") Integer true ∷ [];
  key = Some 0;
  primary = 0 ∷ [];
  uniques = [];
  orders = [];
  checks = [];
  references = [];
  computed = [];
  stamps = record { places = []; terms = []; formats = [] };
  is_counted = false;
}

abbrev pub lockers : ℕ → Table
lockers tree = record {
  name = codes "lockers";
  tree = tree;
  columns = column (codes "site") Text true ∷ column (codes "label") Text true ∷ column (codes "member") Integer false ∷ [];
  key = None;
  primary = 1 ∷ 2 ∷ [];
  uniques = (1 ∷ 2 ∷ []) ∷ [];
  orders = plain ∷ [];
  checks = [];
  references = [];
  computed = [];
  stamps = record { places = []; terms = []; formats = [] };
  is_counted = false;
}
