-- Row changes that lead from the tables of one operator to those of the next.
use Rattle.std.specs.Prelude.{◌≡◌, List}
use Rattle.bike_operator.specs.Operator.{Operator}
use Rattle.bike_book.specs.declared.row_change.RowChange.{RowChange}
use Rattle.bike_book.specs.Stored.{Listed, IsListing, tables_for}
use Rattle.bike_book.specs.Writes.{writes_of, tables_after_all}

-- The row changes make the tables of the next operator out of those of the one before, and its rows are listed right.
pub record LeadsTo (changes : List RowChange) (s : Operator) (m : Listed) (next : Operator) (w : Listed) : Type 0 where
  pub tables : tables_after_all (writes_of changes) (tables_for s m) ≡ tables_for next w
  pub listing : IsListing next w
