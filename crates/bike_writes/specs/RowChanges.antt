-- What making a row change tells of a database that has our tables.
use Rattle.std.specs.Prelude.{◌≡◌, ◌⊎◌, ℕ, List, [], ◌∷◌, Result, OnOk, IfErr, IsTrue}
use Rattle.std.specs.Borrow.{MutBor}
use Rattle.sqlite_value.specs.declared.value.Value.TheVariants.{Text}
use Rattle.sqlite_trees.specs.declared.store.Store.{Ghosts}
use Rattle.sqlite.specs.Held.{Held, state}
use Rattle.sqlite.specs.State.{HasCleanDisk, Survives}
use Rattle.bike_sql.specs.Outcome.{IsLeft}
use Rattle.bike_book.specs.declared.row_change.RowChange.{RowChange}
use Rattle.bike_book.specs.declared.row_change.RowChange.TheVariants as row
use Rattle.bike_book.specs.ByType.{with_counts, by_type_text}
use Rattle.bike_book.specs.Tables.{Stations}
use Rattle.bike_book.specs.Rows.{number_value}
use Rattle.bike_book.specs.Writes.{RowWrite, Set}
use Rattle.bike_schema.specs.Tables.{IsOurs, tables_of}
use Rattle.bike_schema.specs.declared.fault.StatementFault.{StatementFault}
use Rattle.bike_schema.specs.declared.fault.StatementFault.TheVariants.{NoMemory}
use Rattle.bike_schema.specs.Makes.{Puts}
use Rattle.bike_schema.specs.Calls.{WasFree, IsFaultOf}

-- the row of a station that reports, with the numbers of its docks and the text of its bicycles by type
abbrev pub bikes_write : List ℕ → ℕ → ℕ → List ℕ → ℕ → RowWrite
bikes_write station free broken by_type reported =
    Set Stations (Text station ∷ [])
    ((9, number_value free) ∷ (10, number_value broken) ∷ (12, Text by_type) ∷ (8, number_value reported) ∷ [])

-- the text that is sent and that the row change doesn't have
abbrev pub sent_text : RowChange → List ℕ
sent_text (row.SetBikesReported station free broken by_type type_id counts reported) =
    by_type_text (with_counts type_id.now counts by_type.now)
sent_text c = []

module _ {S : Type 0} (g : Ghosts S) (old new : MutBor (Held S)) where
  -- The engine refused the statement, and the fault is that of the error which it gave.
  pub record IsRefused (fault : StatementFault) : Type 0 where
    pub left : IsLeft (state g old.now) (state g new.now)
    pub told : IsFaultOf g old.now new.now fault

  -- memory for the text was refused before the statement, and all is as it was
  abbrev pub IsWithoutMemory : StatementFault → Type 0
  IsWithoutMemory fault = (fault ≡ NoMemory) × (new.now ≡ old.now)

  -- A row change, inside a transaction: what it makes of the tables. It is refused where a row has the key that it adds.
  pub record PutsRow (result : Result (Unit {0}) StatementFault) (w : RowWrite) : Type 0 where
    pub same_reference : new.ghost_name ≡ old.ghost_name
    pub done : HasCleanDisk (state g new.now) → IsTrue old.now.in_transaction → IsOurs (state g old.now).now
        → OnOk result (Puts (w ∷ []) (state g old.now) (state g new.now)
        × WasFree w (tables_of (state g old.now).now))
    pub refused : HasCleanDisk (state g new.now) → IsTrue old.now.in_transaction
        → IfErr result (λ fault. IsRefused fault ⊎ IsWithoutMemory fault)
    pub survives : Survives (state g old.now) (state g new.now) (λ _. ⊥)
