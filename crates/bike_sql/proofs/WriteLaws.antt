-- One law for each form of INSERT, UPDATE and DELETE: what the text makes of a table's rows, from what it is where its table stands alone.
use Rattle.std.proofs.Common.{◌≡◌, ℕ, ◌+◌, ◌/◌, ℤ, List, [], ◌∷◌, map, take, length, Bool, true, false, Option, Some, None, Ok, Result, OnOk, if◌then◌else◌, refl, sym, ap, ◌∙◌}
use Rattle.std.specs.List.{range_with_len, list_any}
use Rattle.sqlite_value.specs.declared.value.Value.{Value}
use Rattle.sqlite_value.specs.declared.value.Value.TheVariants.{Null, Int}
use Rattle.sqlite_value.specs.Order.{Row}
use Rattle.sqlite_trees.specs.Tree.{rowid}
use Rattle.sqlite_sql.specs.Ops.{is_null}
use Rattle.sqlite_sql.specs.Term.{Term, lit, col, eval, eval_all}
use Rattle.sqlite_schema.specs.declared.schema.Schema.{Schema}
use Rattle.sqlite_schema.specs.declared.command.Source.TheVariants.{Values}
use Rattle.sqlite_schema.specs.Names.{is_key}
use Rattle.sqlite_resolve.specs.Compile.{first}
use Rattle.sqlite_rules.specs.declared.error.Rowids.TheVariants.{Chosen}
use Rattle.sqlite_rules.specs.Edit.{with_rowid}
use Rattle.sqlite.specs.Effect.{value_rows, IsDatabase}
use Rattle.sqlite.specs.declared.error.Error.{Error}
use Rattle.sqlite.specs.State.{State, Executes, ExecutesInside, Shows}
use Rattle.bike_sql.specs.Inserts.{IsInsert}
use Rattle.bike_sql.proofs.InsertLaws.{insert_is}
use Rattle.bike_sql.specs.Layout.{Layout, table_of}
use Rattle.bike_sql.specs.View.{columns_of, IsFree, put_row_by, rows_after_replacement, rows_after_update, rows_after_removal}
use Rattle.bike_sql.specs.Stands.{rows_of, Stands, Sets}
use Rattle.bike_sql.specs.Queries.{table_query, key_tests, key_in}
use Rattle.bike_sql.proofs.RowListLemmas.{map_map, map_same}
use Rattle.bike_sql.proofs.CastLemmas.{suit_all, suits_row}
use Rattle.bike_sql.proofs.CrashLemmas.{done_inside}
use Rattle.bike_sql.proofs.KeyLemmas.{IsKeyAt, IsUniqueAt}
use Rattle.bike_sql.proofs.TextLemmas.{IsUpdate, update_means, IsDelete, delete_means}
use Rattle.bike_sql.proofs.InsertLaw.{insert_puts}
use Rattle.bike_sql.proofs.SetLaw.{are_exact, some_terms, sets_suit, update_some}
use Rattle.bike_sql.proofs.UpdateLaw.{update_columns, update_number}
use Rattle.bike_sql.proofs.RemoveLaw.{remove_row}

-- Once the text is done in a sound database, the table's rows are what `change` makes of them, and each table of another name is as it was. `tells` is what it says of the rows before.
pub record Changes (keys : ℕ) (layout : Layout) (text : List ℕ) (params : Row) (change : List Row → List Row) (tells : List Row → Type 0) : Type 1 where
  pub does : (old new : State) → IsDatabase old.now → Stands old.now keys layout → (count : ℕ) → Executes text params old new (Ok count)
      → Sets old.now new.now keys layout (change (rows_of keys layout.name old.now)) × tells (rows_of keys layout.name old.now)

-- Inside a transaction, what is committed is as it was.
pub changes_inside : {keys : ℕ} {layout : Layout} {text : List ℕ} {params : Row} {change : List Row → List Row} {tells : List Row → Type 0} (it : Changes keys layout text params change tells)
    (old new : State) → IsDatabase old.now → Stands old.now keys layout → (r : Result ℕ Error) → ExecutesInside 0 text params old new r
    → OnOk r (Shows old new new.now old.committed true × Sets old.now new.now keys layout (change (rows_of keys layout.name old.now)) × tells (rows_of keys layout.name old.now))
changes_inside {text = text} {params = params} it old new sound was r =
    done_inside 0 text params old new r (λ count shown executes. let done = it.does old new sound was count executes in (shown, done.0, done.1))

-- an INSERT of this row, whose key was free
abbrev pub Inserts : ℕ → Layout → List ℕ → Row → Type 1
Inserts keys layout text row = Changes keys layout text row (put_row_by keys row) (IsFree keys row)

-- an UPDATE of all columns of the row with this row's key, if it is there
abbrev pub Replaces : ℕ → Layout → List ℕ → Row → Type 1
Replaces keys layout text row = Changes keys layout text row (rows_after_replacement keys row) (λ rows. Unit {0})

-- an UPDATE of the row with this key, if it is there
abbrev pub Updates : ℕ → Layout → List ℕ → Row → Row → (Row → Row) → Type 1
Updates keys layout text params key change = Changes keys layout text params (rows_after_update keys key change) (λ rows. Unit {0})

-- a DELETE of the row with this key, if it is there
abbrev pub Removes : ℕ → Layout → List ℕ → Row → Row → Type 1
Removes keys layout text params key = Changes keys layout text params (rows_after_removal keys key) (λ rows. Unit {0})

-- ---- the row whose columns are the parameters, in order

-- NULL where the rowid stands for the column
abbrev pub column_term : Option ℕ → ℕ → Term
column_term key at = if is_key key at then lit Null else col 0 at

abbrev pub column_terms : Layout → List Term
column_terms layout = map (column_term layout.key) (range_with_len 0 (length layout.columns))

abbrev pub column_values : Layout → Row → Row
column_values layout params = eval_all (column_terms layout) (params ∷ [])

-- the rowid, or NULL where it is not the key
abbrev pub rowid_term : Option ℕ → Term
rowid_term None = lit Null
rowid_term (Some at) = col 0 at

abbrev pub row_terms : Layout → List Term
row_terms layout = rowid_term layout.key ∷ column_terms layout

abbrev pub row_values : Layout → Row → Row
row_values layout params = eval_all (row_terms layout) (params ∷ [])

abbrev pub width : Layout → ℕ
width layout = length layout.columns + 1

module _ {keys : ℕ} {layout : Layout} {text : List ℕ} {params : Row} where
  -- INSERT INTO the table VALUES (?1, ..)
  pub row_put : {places : List ℕ} → IsUniqueAt keys layout places → ((s : Schema) (tree : ℕ) → IsInsert s (table_of layout tree) (first text) (Values (row_terms layout) (width layout)))
      → value_rows params (width layout) (length (row_terms layout) / width layout) (row_terms layout) ≡ row_values layout params ∷ []
      → suits_row layout.columns (row_values layout params) ≡ true → ((rows : List Row) → columns_of (table_of layout 0) (with_rowid Chosen rows (row_values layout params)) ≡ params)
      → Inserts keys layout text params
  row_put key is gives suit shows = record {
    does = λ old new sound was count ran. insert_puts keys layout old new was text params (width layout) (row_terms layout) (row_values layout params) params
        (insert_is old.now.schema was.at (table_of layout was.tree) was.has text (Values (row_terms layout) (width layout)) (is old.now.schema was.tree)) gives suit shows count ran key.key;
  }

-- UPDATE gives each row that it finds its rowid, and the parameters for columns.
abbrev pub set_terms : Layout → List Term
set_terms layout = col 1 0 ∷ col 1 0 ∷ column_terms layout

sets_values : (layout : Layout) (params r : Row) → eval_all (set_terms layout) (params ∷ r ∷ []) ≡ rowid r ∷ rowid r ∷ column_values layout params
sets_values layout params r =
    let places = range_with_len 0 (length layout.columns) in
    let term = column_term layout.key in
    let each : map (λ t. eval t (params ∷ r ∷ [])) (map term places) ≡ map (λ t. eval t (params ∷ [])) (map term places) =
    map_map term (λ t. eval t (params ∷ r ∷ [])) places ∙ map_same (λ at. eval (term at) (params ∷ r ∷ [])) (λ at. eval (term at) (params ∷ [])) (λ at. by (is_key layout.key at) at) places
    ∙ sym (map_map term (λ t. eval t (params ∷ [])) places) in
    ap (λ values. rowid r ∷ rowid r ∷ values) each
  where
    by : (b : Bool) (at : ℕ) → eval (if b then lit Null else col 0 at) (params ∷ r ∷ []) ≡ eval (if b then lit Null else col 0 at) (params ∷ [])
    by true at = refl
    by false at = refl

module _ {keys : ℕ} {layout : Layout} {places : List ℕ} (key : IsUniqueAt keys layout places) {text : List ℕ} {params : Row} where
  -- UPDATE the table SET each column = its parameter WHERE the key's columns = the first parameters
  pub row_replaced : IsUpdate (table_query 0 (key_tests 0 places) [] (set_terms layout)) layout text → list_any is_null (key_in 0 places params) ≡ false → take keys params ≡ key_in 0 places params
      → suit_all layout.columns (column_values layout params) ≡ true
      → ((id : Value) → columns_of (table_of layout 0) (id ∷ column_values layout params) ≡ params) → Replaces keys layout text params
  row_replaced is solid has_key suit shows = record {
    does = λ old new sound was count ran. (
      update_columns keys layout key.key old new was text params places (set_terms layout) (column_values layout params) params
          (update_means (table_query 0 (key_tests 0 places) [] (set_terms layout)) layout text is old.now.schema was.at was.tree was.has) key.at.first solid has_key suit
          (sets_values layout params) shows count ran,
      tt,
    );
  }

-- UPDATE the table SET each other column = its parameter WHERE key = ?1
pub number_replaced : {layout : Layout} (key : IsUniqueAt 1 layout (0 ∷ [])) {text : List ℕ} {n : ℤ} {others : Row} → IsUpdate (table_query 0 (key_tests 0 (0 ∷ [])) [] (set_terms layout)) layout text
    → suit_all layout.columns (column_values layout (Int n ∷ others)) ≡ true
    → columns_of (table_of layout 0) (Int n ∷ column_values layout (Int n ∷ others)) ≡ Int n ∷ others → Replaces 1 layout text (Int n ∷ others)
number_replaced {layout} key {text} {n} {others} is suit shows = record {
  does = λ old new sound was count ran. (
    update_number layout key.key old new was text n others (set_terms layout) (column_values layout (Int n ∷ others)) (Int n ∷ others)
        (update_means (table_query 0 (key_tests 0 (0 ∷ [])) [] (set_terms layout)) layout text is old.now.schema was.at was.tree was.has) key.at.first refl suit
        (sets_values layout (Int n ∷ others)) shows count ran,
    tt,
  );
}

-- ---- some columns

-- UPDATE the table SET some columns, each to a parameter, WHERE the key's columns = the parameters from `at` on. What is set is told by (column, parameter), both counted from 0.
pub row_updated : {keys : ℕ} {layout : Layout} {places : List ℕ} (key : IsUniqueAt keys layout places) {text : List ℕ} {params : Row} (at : ℕ) (sets : List (ℕ × ℕ)) (change : Row → Row)
    → IsUpdate (table_query 0 (key_tests at places) [] (col 1 0 ∷ col 1 0 ∷ some_terms layout sets)) layout text
    → list_any is_null (key_in at places params) ≡ false → are_exact layout.columns ≡ true → sets_suit sets params 0 layout.columns ≡ true
    → ((r : Row) → columns_of (table_of layout 0) (rowid r ∷ eval_all (some_terms layout sets) (params ∷ r ∷ [])) ≡ change (columns_of (table_of layout 0) r))
    → ((r : Row) → take keys (change (columns_of (table_of layout 0) r)) ≡ take keys (columns_of (table_of layout 0) r)) → Updates keys layout text params (key_in at places params) change
row_updated {keys} {layout} {places} key {text} {params} at sets change is solid exact suit shows keeps = record {
  does = λ old new sound was count ran. (
    update_some keys layout key.key old new was text params at places sets change
        (update_means (table_query 0 (key_tests at places) [] (col 1 0 ∷ col 1 0
        ∷ some_terms layout sets)) layout text is old.now.schema was.at was.tree was.has) key.at.first solid exact suit shows keeps sound count ran,
    tt,
  );
}

-- ---- DELETE

-- DELETE FROM the table WHERE the key's columns = the parameters from `at` on
pub row_removed : {keys : ℕ} {layout : Layout} {places : List ℕ} (key : IsKeyAt keys layout places) {text : List ℕ} {params : Row} (at : ℕ)
    → IsDelete (table_query 0 (key_tests at places) [] (col 1 0 ∷ [])) layout text → list_any is_null (key_in at places params) ≡ false → Removes keys layout text params (key_in at places params)
row_removed {keys} {layout} {places} key {text} {params} at is solid = record {
  does = λ old new sound was count ran. (
    remove_row keys layout old new was text params at places
        (delete_means (table_query 0 (key_tests at places) [] (col 1 0 ∷ [])) layout text is old.now.schema was.at was.tree was.has) key.first solid count ran,
    tt,
  );
}
