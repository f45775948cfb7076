-- Reads of the tables, told of the operator whose tables they are.
use Rattle.std.proofs.Common.{◌≡◌, ℕ, false, List, [], Option, Some, None, Result, Ok, Err, IfOk, refl, sym, ap, subst, ◌∙◌}
use Rattle.std.specs.Prelude.{option_map, is_some}
use Rattle.std.proofs.lemmas.Result.{IfOk-weaker}
use Rattle.std.specs.List.{list_any}
use Rattle.sqlite_value.specs.Order.{Row}
use Rattle.sqlite_sql.specs.Ops.{is_null}
use Rattle.sqlite_trees.specs.declared.store.Store.{Ghosts}
use Rattle.sqlite.specs.declared.error.Error.{Error}
use Rattle.sqlite.specs.Effect.{Database}
use Rattle.sqlite.specs.Held.{Held}
use Rattle.bike_sql.specs.Calls.{ReadsWhere}
use Rattle.bike_sql.specs.Queries.{table_query, key_tests, key_in}
use Rattle.bike_sql.specs.Runs.{QueriesFirst}
use Rattle.bike_sql.specs.Stands.{rows_of}
use Rattle.bike_sql.specs.View.{row_with}
use Rattle.bike_sql.proofs.CallLaws.{read_returns}
use Rattle.bike_sql.proofs.ChainLaws.{reads_as, reads_refused, reads_both}
use Rattle.bike_sql.proofs.SelectLaws.{every_column, keyed_row}
use Rattle.bike_sql.proofs.TextLemmas.{IsSelect}
use Rattle.bike_sql.proofs.WalkLaw.{Finds}
use Rattle.bike_operator.specs.Operator.{Operator}
use Rattle.bike_book.specs.Tables.{TableName, Tables, keys_of, rows_in}
use Rattle.bike_book.specs.Stored.{Listed, tables_for}
use Rattle.bike_book.specs.Found.{WhereListed}
use Rattle.bike_schema.specs.Layouts.{layout_of, name_of}
use Rattle.bike_schema.specs.Tables.{HasTables, IsOurs, tables_of}
use Rattle.bike_schema.specs.Answers.{Answers}
use Rattle.bike_schema.proofs.KeyLemmas.{key_places, table_key}
use Rattle.bike_schema.proofs.MakesLemmas.{rows_of_table}

-- ---- one statement

-- In a database that has the tables the text finds this row of them, or none.
pub record FindsIn (text : List ℕ) (params : Row) (row : Tables → Option Row) : Type 0 where
  pub finds : (db : Database) → HasTables db → Finds db text params (row (tables_of db))

-- What a text finds in the rows of one table.
pub in_table : (t : TableName) {text : List ℕ} {params : Row} (found : List Row → Option Row) → ((db : Database) → HasTables db → Finds db text params (found (rows_of (keys_of t) (name_of t) db)))
    → FindsIn text params (λ tables. found (rows_in tables t))
in_table t {text} {params} found finds = record { finds = λ db has. subst (λ rows. Finds db text params (found rows)) (sym (rows_of_table db t)) (finds db has) }

-- SELECT * FROM the table WHERE its key equals the parameters
pub keyed_in : (t : TableName) {text : List ℕ} {params : Row} → IsSelect (table_query 0 (key_tests 0 (key_places t)) [] (every_column (layout_of t))) (layout_of t) text
    → list_any is_null (key_in 0 (key_places t) params) ≡ false
    → FindsIn text params (λ tables. row_with (keys_of t) (key_in 0 (key_places t) params) (rows_in tables t))
keyed_in t {params = params} is solid = in_table t (row_with (keys_of t) (key_in 0 (key_places t) params)) (λ db has. keyed_row (table_key t) (has t) is solid)

-- What a read tells of what it read, it tells of what follows from that.
pub reads_weaker : {S X E : Type 0} {g : Ghosts S} {P : Database → Type 0} {old new : Held S} {result : Result X E} {says told : Database → X → Type 0} → ReadsWhere g P old new result says
    → ((db : Database) (x : X) → says db x → told db x)
    → ReadsWhere g P old new result told
reads_weaker {g = g} {old = old} {result = result} it then =
    record { found = λ clean has. IfOk-weaker result _ _ (λ x at. then _ x at) (it.found clean has); same = it.same; failed = it.failed; quiet = it.quiet }

-- A function of one statement answers the row that the text finds in the tables of the operator. The values that it sends compute to the parameters.
pub row_answers : {S E : Type 0} {g : Ghosts S} {old new : Held S} {text : List ℕ} {params sent : Row} {row : Tables → Option Row} {Gives : Error → E → Type 0} {result : Result (Option Row) E}
    → FindsIn text params row → QueriesFirst g old new text sent Gives result → sent ≡ params → Answers g old new result (λ s m found. found ≡ row (tables_for s m))
row_answers {row = row} it ensures same = reads_weaker (read_returns (λ db (ours : IsOurs db). it.finds db ours.has) ensures same) (λ db found is s h. sym is ∙ ap row h.tables)

-- ---- one after another

-- A function that makes more of what it read answers what follows of that, or fails.
pub answers_then : {S X Y E F : Type 0} {g : Ghosts S} {old new : Held S} {x : X} {result : Result Y F} (says : Operator → Listed → X → Type 0) (told : Operator → Listed → Y → Type 0)
    → Answers g old new {E = E} (Ok x) says → WhereListed (λ s m. says s m x → IfOk result (told s m)) → Answers g old new result told
answers_then {result = Ok y} says told it then = reads_as it (λ db each s h. then s h.listed h.sound h.listing (each s h))
answers_then {result = Err f} says told it then = reads_refused it refl

-- Two reads, where the first gave a value: both are of one operator.
pub answers_both : {S X Y E F : Type 0} {g : Ghosts S} {old mid new : Held S} {x : X} {result : Result Y F} (says : Operator → Listed → X → Type 0) (told : Operator → Listed → Y → Type 0)
    → Answers g old mid {E = E} (Ok x) says → Answers g mid new result told → Answers g old new result (λ s m y. says s m x × told s m y)
answers_both says told one two = reads_weaker (reads_both one two) (λ db y both s h. (both.0 s h, both.1 s h))

-- What is made of a value that was read, or an error in its place.
pub answers_made : {S X Y E F : Type 0} {g : Ghosts S} {P : Database → Type 0} {old new : Held S} {x : X} {result : Result Y F} {says : Database → X → Type 0} {told : Database → Y → Type 0}
    {Made : Y → Type 0} → ReadsWhere g P old new {E = E} (Ok x) says → IfOk result Made
    → ((db : Database) (y : Y) → says db x → Made y → told db y) → ReadsWhere g P old new result told
answers_made {result = Ok y} it made then = reads_as it (λ db at. then db y at made)
answers_made {result = Err e} it made then = reads_refused it refl

-- What follows of two values, of which the second was read where the first stood.
pub answers_next : {S X Y E F : Type 0} {g : Ghosts S} {P : Database → Type 0} {old mid new : Held S} {x : X} {result : Result Y F} {says : Database → X → Type 0}
    {told follows : Database → Y → Type 0} → ReadsWhere g P old mid {E = E} (Ok x) says → ReadsWhere g P mid new result told
    → ((db : Database) (y : Y) → says db x → told db y → follows db y) → ReadsWhere g P old new result follows
answers_next {old = old} {result = result} one two then =
    let it = reads_both one two in
    record { found = λ clean has. IfOk-weaker result _ _ (λ y at. then _ y at.0 at.1) (it.found clean has); same = it.same; failed = it.failed; quiet = it.quiet }

-- The second read alone tells what is wanted.
pub answers_after : {S X Y E F : Type 0} {g : Ghosts S} {old mid new : Held S} {x : X} {result : Result Y F} (says : Operator → Listed → X → Type 0) (told : Operator → Listed → Y → Type 0)
    → Answers g old mid {E = E} (Ok x) says → Answers g mid new result told → Answers g old new result told
answers_after says told one two = reads_weaker (reads_both one two) (λ db y both. both.1)

-- ---- what is read of a row

-- the row of what the operator has
pub some_is : {X : Type 0} {row_of : X → Row} {row : Row} {x : X} (o : Option X) → ((y : X) → row ≡ row_of y → x ≡ y) → Some row ≡ option_map row_of o → Some x ≡ o
some_is None reads is = absurd cc
some_is (Some y) reads is = ap Some (reads y cc)

-- there is no row where the operator has nothing
pub none_is : {X : Type 0} (row_of : X → Row) (o : Option X) → None ≡ option_map row_of o → None ≡ o
none_is row_of None is = refl
none_is row_of (Some y) is = absurd cc

-- whether there is a row
pub has_row : {X : Type 0} (row_of : X → Row) {row : Option Row} (o : Option X) → row ≡ option_map row_of o → is_some row ≡ is_some o
has_row row_of None is = ap is_some is
has_row row_of (Some y) is = ap is_some is
