-- The table of a day that the program writes, and what it leaves.
use Rattle.std.specs.Prelude.{◌≡◌, ◌⊎◌, ℕ, List, Option, Result, Ok, Err}
use Rattle.sqlite.specs.Store.{Ghosts}
use Rattle.sqlite.specs.Held.{Held, state}
use Rattle.bike_operator.specs.Operator.{Operator, no_operator}
use Rattle.bike_schema.specs.Tables.{HasNone}
use Rattle.bike_schema.specs.Stands.{IsOf, TreesStandFor}
use Rattle.bike_desk.specs.Desk.{DeskValue, IsAt}
use Rattle.bike_day_texts.specs.declared.table.DayTable.{DayTable}
use Rattle.bike_batch.specs.declared.day_fault.DayTableFault.{DayTableFault}
use Rattle.bike_batch.specs.Ends.{EndsByDay, WritesDay}
use Rattle.bike_console.specs.declared.end.Fault.{Fault}
use Rattle.bike_console.specs.declared.end.Fault.TheVariants.{StoreFailed}
use Rattle.bike_console.specs.Ends.{table_fault}
use Rattle.bike_app.specs.Program.{Refuses, FailsToBegin}

-- what the program tells of a table that was asked for
abbrev pub table_end : {A : Type 0} → Result A DayTableFault → Result ℕ Fault
table_end (Ok u) = Ok 0
table_end (Err fault) = Err (table_fault fault)

module _ (table : DayTable) (date zone : List ℕ) where
  -- The table of the operator's day was written, whole or a front of it;
  -- where date and zone are refused that is told, and nothing was written.
  pub record TellsTable (s : Operator) (old new : Option (List ℕ)) (end : Result ℕ Fault) : Type 0 where
    pub result : Result (Unit {0}) DayTableFault
    pub told : end ≡ table_end result
    pub day : EndsByDay date zone old new result
    pub written : WritesDay s table date zone old new result

  module _ {S : Type 0} (g : Ghosts S) where
    -- The table of a desk at an operator, who stays; only a store that fails stops the desk.
    pub record ReportsAt (desk : DeskValue S) (s : Operator) (old new : Option (List ℕ))
        (end : Result ℕ Fault) : Type 0 where
      pub told : TellsTable s old new end
      pub at : (end ≡ Err StoreFailed → ⊥) → IsAt g desk s

    -- The database stood for an operator, and over a desk at it its table was written.
    pub record Reports (first last : Held S) (old new : Option (List ℕ)) (end : Result ℕ Fault) : Type 0 where
      pub desk : DeskValue S
      pub conn : last ≡ desk.conn
      pub operator : Operator
      pub was : IsOf (state g first).now operator
      pub reported : (s : Operator) → TreesStandFor s (state g first).now.trees → ReportsAt desk s old new end

  -- over a database in memory, of which no operator was asked anything
  abbrev pub ReportsInMemory : Option (List ℕ) → Option (List ℕ) → Result ℕ Fault → Type 0
  ReportsInMemory old new end = FailsToBegin old new end ⊎ TellsTable no_operator old new end

  module _ {S : Type 0} (g : Ghosts S) where
    -- The database had none of the tables, and is as it was: the
    -- empty operator's table was written, over a database in memory.
    pub record ReportsNobodys (first last : Held S) (old new : Option (List ℕ)) (end : Result ℕ Fault) : Type 0 where
      pub same : last ≡ first
      pub none : HasNone (state g first).now.schema
      pub told : ReportsInMemory old new end

    -- the database isn't one that is served, or the table is written; what was written before and after
    abbrev pub TellsReported : Option (List ℕ) → Option (List ℕ) → Held S → Held S → Result ℕ Fault → Type 0
    TellsReported old new first last end =
        Refuses g old new first last end ⊎ (Reports g first last old new end ⊎ ReportsNobodys first last old new end)
