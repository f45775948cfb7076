-- The rows of the tables in a database have as many columns as their table.
use Rattle.std.proofs.Common.{◌≡◌, suc, List, [], ◌∷◌, length, map, refl, ap, ◌∙◌, subst}
use Rattle.std.specs.List.{range_with_len}
use Rattle.std.proofs.lemmas.List.FromFn.{length-range_with_len}
use Rattle.sqlite_value.specs.Order.{Row, column}
use Rattle.sqlite_schema.specs.Names.{place_of}
use Rattle.sqlite_schema.specs.declared.schema.Table.{Table}
use Rattle.sqlite_rules.specs.Lists.{Has}
use Rattle.sqlite.specs.Effect.{Database}
use Rattle.bike_sql.specs.View.{columns_of}
use Rattle.bike_sql.specs.Layout.{table_of}
use Rattle.bike_sql.proofs.FrameLemmas.{rows_of_is}
use Rattle.bike_sql.proofs.OrderLemmas.{order_has}
use Rattle.bike_sql.proofs.TreeLemmas.{by_key_total}
use Rattle.bike_sql.proofs.RowListLemmas.{map_has}
use Rattle.bike_book.specs.Tables.{TableName, rows_in, keys_of}
use Rattle.bike_schema.specs.Layouts.{layout_of}
use Rattle.bike_schema.specs.Tables.{tables_of, HasTables}
use Rattle.bike_schema.proofs.MakesLemmas.{rows_of_table}

mapped_length : {A B : Type 0} (f : A → B) (xs : List A) → length (map f xs) ≡ length xs
mapped_length f [] = refl
mapped_length f (x ∷ xs) = ap suc (mapped_length f xs)

columns_wide : (table : Table) (row : Row) → length (columns_of table row) ≡ length table.columns
columns_wide table row = mapped_length (λ at. column row (place_of table at)) (range_with_len 0 (length table.columns)) ∙ length-range_with_len 0 (length table.columns)

-- a row of a table has a value in each of its columns
pub wide : (db : Database) → HasTables db → (name : TableName) (r : Row) → Has (rows_in (tables_of db) name) r → length r ≡ length (layout_of name).columns
wide db has name r there =
    let it = has name in
    let table = table_of (layout_of name) it.tree in
    let among = subst (λ (rows : List Row). Has rows r) (rows_of_table db name ∙ rows_of_is db (keys_of name) (layout_of name) it) there in
    let at = map_has (columns_of table) (db.trees it.tree) r (order_has (by_key_total (keys_of name)) (map (columns_of table) (db.trees it.tree)) r among) in
    ap (λ (x : Row). length x) at.2 ∙ columns_wide table at.0
