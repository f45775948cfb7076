-- A write to one table is a write to the tables, and so is one after another.
use Rattle.std.proofs.Common.{◌≡◌, ℕ, Bool, true, false, List, [], ◌∷◌, ◌++◌, if◌then◌else◌, Result, Ok, Err, IfErr, refl, sym, ap, subst, ◌∙◌}
use Rattle.std.proofs.Math.Path.{fun_ext}
use Rattle.std.proofs.lemmas.Result.{on_ok_weaker}
use Rattle.sqlite_value.specs.Order.{Row}
use Rattle.sqlite.specs.Effect.{Database, IsDatabase}
use Rattle.std.specs.Borrow.{MutBor}
use Rattle.sqlite_trees.specs.declared.store.Store.{Ghosts}
use Rattle.sqlite.specs.declared.error.Error.{Error}
use Rattle.sqlite.specs.Held.{Held, state}
use Rattle.sqlite.specs.State.{State, ExecutesInside}
use Rattle.bike_sql.specs.Outcome.{ToldAs}
use Rattle.bike_sql.specs.View.{put_row_by, rows_after_update, rows_after_removal, with_values, IsFree}
use Rattle.bike_sql.specs.Runs.{RunsInside}
use Rattle.bike_sql.proofs.CallLaws.{Does, insert_returns}
use Rattle.bike_sql.proofs.WriteLaws.{Inserts, Updates, Removes, changes_inside}
use Rattle.bike_sql.specs.Stands.{rows_of, is_same_text, Stands, Sets}
use Rattle.bike_book.specs.Tables.{TableName, Tables, keys_of, is_table, rows_in, tables_by, with_rows}
use Rattle.bike_book.specs.Writes.{RowWrite, Add, Set, Remove, Columns, table_of_write, rows_after, tables_after, tables_after_all}
use Rattle.bike_schema.specs.Layouts.{layout_of, name_of}
use Rattle.bike_schema.specs.Tables.{tables_of, HasTables, IsOurs}
use Rattle.bike_schema.specs.declared.fault.StatementFault.{StatementFault}
use Rattle.bike_schema.specs.Faults.{fault_of}
use Rattle.bike_schema.specs.Calls.{WasFree, IsFaultOf, Writes}
use Rattle.bike_schema.specs.Makes.{OthersStay, Makes, Continues, Puts}
use Rattle.bike_schema.proofs.TableLemmas.{rows_in_by, same_table, every_false, names_apart}

-- the rows of a table of the database, by its name
pub rows_of_table : (db : Database) (t : TableName) → rows_in (tables_of db) t ≡ rows_of (keys_of t) (name_of t) db
rows_of_table db t = rows_in_by (λ u. rows_of (keys_of u) (name_of u) db) t

-- ---- one write

-- what of a table is known after a write to one
record Becomes (new : Database) (t : TableName) (rows : List Row) : Type 0 where
  stands : Stands new (keys_of t) (layout_of t)
  rows_are : rows_of (keys_of t) (name_of t) new ≡ rows

module _ (old new : Database) (t : TableName) (rows : List Row) (has : HasTables old) (set : Sets old new (keys_of t) (layout_of t) rows) where
  each : (u : TableName) → Becomes new u (if is_table t u then rows else rows_in (tables_of old) u)
  each u = by (is_table t u) refl
    where
      by : (b : Bool) → is_table t u ≡ b → Becomes new u (if b then rows else rows_in (tables_of old) u)
      by true same = subst (λ v. Becomes new v rows) (same_table t u same) (record { stands = set.stands; rows_are = set.rows_are })
      by false other = let it = set.others (keys_of u) (layout_of u) (names_apart t u other) (has u) in record { stands = it.stands; rows_are = it.rows ∙ sym (rows_of_table old u) }

  pub set_has : HasTables new
  set_has u = (each u).stands

  pub set_tables : tables_of new ≡ with_rows t rows (tables_of old)
  set_tables = ap tables_by (fun_ext (λ u. (each u).rows_are))

  pub set_others : OthersStay old new
  set_others keys layout other stands = set.others keys layout (every_false (λ u. is_same_text layout.name (name_of u)) other t) stands

-- a write of rows that are those after it
pub sets_makes : (old new : Database) (w : RowWrite) → HasTables old → Sets old new (keys_of (table_of_write w)) (layout_of (table_of_write w)) (rows_after w (tables_of old))
    → Makes (w ∷ []) old new
sets_makes old new w has set =
    let t = table_of_write w in
    let rows = rows_after w (tables_of old) in record {
      schema = set.schema;
      sound = set.sound;
      has = set_has old new t rows has set;
      tables = set_tables old new t rows has set;
      others = set_others old new t rows has set;
    }

pub makes_ours : {ws : List RowWrite} {old new : Database} → Makes ws old new → IsOurs new
makes_ours it = record { sound = it.sound; has = it.has }

-- ---- one after the other

pub stay_then : (a b c : Database) → OthersStay a b → OthersStay b c → OthersStay a c
stay_then a b c first second keys layout other stands =
    let one = first keys layout other stands in
    let two = second keys layout other one.stands in
    record { stands = two.stands; rows = two.rows ∙ one.rows }

after_both : (ws vs : List RowWrite) (t : Tables) → tables_after_all (ws ++ vs) t ≡ tables_after_all vs (tables_after_all ws t)
after_both [] vs t = refl
after_both (w ∷ ws) vs t = after_both ws vs (tables_after w t)

pub makes_none : (db : Database) → IsDatabase db → HasTables db → Makes [] db db
makes_none db sound has = record { schema = refl; sound = sound; has = has; tables = refl; others = λ keys layout other stands. record { stands = stands; rows = refl } }

pub makes_then : (ws vs : List RowWrite) (a b c : Database) → Makes ws a b → Makes vs b c → Makes (ws ++ vs) a c
makes_then ws vs a b c first second = record {
  schema = second.schema ∙ first.schema;
  sound = second.sound;
  has = second.has;
  tables = second.tables ∙ ap (tables_after_all vs) first.tables ∙ sym (after_both ws vs (tables_of a));
  others = stay_then a b c first.others second.others;
}

pub continues_then : (a b c : State) → Continues a b → Continues b c → Continues a c
continues_then a b c first second = record { was_open = first.was_open; is_open = second.is_open; now_is = refl; committed_is = second.committed_is ∙ first.committed_is; mode = second.mode }

pub puts_then : (ws vs : List RowWrite) (a b c : State) → Puts ws a b → Puts vs b c → Puts (ws ++ vs) a c
puts_then ws vs a b c first second = record { continues = continues_then a b c first.continues second.continues; makes = makes_then ws vs a.now b.now c.now first.makes second.makes }

-- ---- statements

-- An INSERT of a row into a table is that write, and the row's key was free.
pub adds_row : (t : TableName) {text : List ℕ} {row : Row} → Inserts (keys_of t) (layout_of t) text row
    → Does IsOurs (λ db. WasFree (Add t row) (tables_of db)) (Puts (Add t row ∷ [])) text row
adds_row t {text} {row} it = record { does = λ old new ours r ran. on_ok_weaker r (puts old new ours) (changes_inside it old new ours.sound (ours.has t) r ran) }
  where
    puts : (old new : State) (ours : IsOurs old.now) → Continues old new × Sets old.now new.now (keys_of t) (layout_of t)
        (put_row_by (keys_of t) row (rows_of (keys_of t) (name_of t) old.now)) × IsFree (keys_of t) row (rows_of (keys_of t) (name_of t) old.now)
        → Puts (Add t row ∷ []) old new × WasFree (Add t row) (tables_of old.now)
    puts old new ours done =
        let w = Add t row in
        let same = sym (rows_of_table old.now t) in
        let set = subst (λ rows. Sets old.now new.now (keys_of t) (layout_of t) (put_row_by (keys_of t) row rows)) same done.1 in
        (record { continues = done.0; makes = sets_makes old.now new.now w ours.has set }, subst (IsFree (keys_of t) row) same done.2)

-- An UPDATE of columns of the row with a key is that write.
pub sets_columns : (t : TableName) {text : List ℕ} {params : Row} (key : Row) (columns : Columns) → Updates (keys_of t) (layout_of t) text params key (with_values columns)
    → Does IsOurs (λ db. WasFree (Set t key columns) (tables_of db)) (Puts (Set t key columns ∷ [])) text params
sets_columns t {text} {params} key columns it = record { does = λ old new ours r ran. on_ok_weaker r (puts old new ours) (changes_inside it old new ours.sound (ours.has t) r ran) }
  where
    puts : (old new : State) (ours : IsOurs old.now) → Continues old new × Sets old.now new.now (keys_of t) (layout_of t)
        (rows_after_update (keys_of t) key (with_values columns) (rows_of (keys_of t) (name_of t) old.now)) × Unit {0}
        → Puts (Set t key columns ∷ []) old new × WasFree (Set t key columns) (tables_of old.now)
    puts old new ours done =
        let w = Set t key columns in
        let set = subst (λ rows. Sets old.now new.now (keys_of t) (layout_of t) (rows_after_update (keys_of t) key (with_values columns) rows)) (sym (rows_of_table old.now t)) done.1 in
        (record { continues = done.0; makes = sets_makes old.now new.now w ours.has set }, tt)

-- A DELETE of the row with a key is that write.
pub removes_row : (t : TableName) {text : List ℕ} {params : Row} (key : Row) → Removes (keys_of t) (layout_of t) text params key
    → Does IsOurs (λ db. WasFree (Remove t key) (tables_of db)) (Puts (Remove t key ∷ [])) text params
removes_row t {text} {params} key it = record { does = λ old new ours r ran. on_ok_weaker r (puts old new ours) (changes_inside it old new ours.sound (ours.has t) r ran) }
  where
    puts : (old new : State) (ours : IsOurs old.now) → Continues old new × Sets old.now new.now (keys_of t) (layout_of t)
        (rows_after_removal (keys_of t) key (rows_of (keys_of t) (name_of t) old.now)) × Unit {0}
        → Puts (Remove t key ∷ []) old new × WasFree (Remove t key) (tables_of old.now)
    puts old new ours done =
        let w = Remove t key in
        let set = subst (λ rows. Sets old.now new.now (keys_of t) (layout_of t) (rows_after_removal (keys_of t) key rows)) (sym (rows_of_table old.now t)) done.1 in
        (record { continues = done.0; makes = sets_makes old.now new.now w ours.has set }, tt)

-- What a function of one statement tells, from what its text does and what the engine makes of it. The values that it sends compute to the parameters.
pub writes_told : {S X : Type 0} {g : Ghosts S} {w : RowWrite} {text : List ℕ} {params sent : Row} {old new : MutBor (Held S)} {result : Result X StatementFault}
    → Does IsOurs (λ db. WasFree w (tables_of db)) (Puts (w ∷ [])) text params
    → RunsInside g old new text sent (λ error fault. fault ≡ fault_of error) result → sent ≡ params → Writes g old new result w
writes_told {X = X} {g = g} {text = text} {sent = sent} {old = old} {new = new} does ran same = record {
  writes = insert_returns does ran same;
  told = λ clean inside. let it = ran.ran clean inside in faults it.0 _ it.1 it.2;
}
  where
    faults : (r : Result ℕ Error) (q : Result X StatementFault) → ExecutesInside 0 text sent (state g old.now) (state g new.now) r
        → ToldAs (λ error fault. fault ≡ fault_of error) (λ count done. Unit {0}) r q → IfErr q (IsFaultOf g old.now new.now)
    faults (Ok count) (Ok x) ran told = tt
    faults (Err error) (Err fault) ran told = record { text = text; params = sent; error = error; refused = ran; fault_is = told }
    faults (Ok count) (Err fault) ran told = absurd told
    faults (Err error) (Ok x) ran told = absurd told
