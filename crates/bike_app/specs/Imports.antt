-- The import of stations that the program does, and what it leaves.
use Rattle.std.specs.Prelude.{◌≡◌, ◌⊎◌, ℕ, List, ◌++◌, codes, decimal, Bool, true, false, Option, Some, None, Result}
use Rattle.std.specs.Prelude.{Ok, Err}
use Rattle.std.specs.Io.KnownBytes.{Appends, Keeps}
use Rattle.sqlite.specs.Store.{Ghosts}
use Rattle.sqlite.specs.Steps.{over_memory}
use Rattle.sqlite.specs.Held.{Held, state}
use Rattle.sqlite_trees.specs.declared.memory.MemStore.{MemStore}
use Rattle.bike_operator.specs.Operator.{Operator, no_operator}
use Rattle.bike_schema.specs.Stands.{IsOf, TreesStandFor}
use Rattle.bike_desk.specs.Desk.{DeskValue, IsAt}
use Rattle.bike_batch.specs.declared.import_fault.ImportFault.{ImportFault}
use Rattle.bike_batch.specs.Imports.{Imports}
use Rattle.bike_console.specs.declared.end.Fault.{Fault}
use Rattle.bike_console.specs.declared.end.Fault.TheVariants.{NoClock, WriteFailed}
use Rattle.bike_stream.specs.Writing.{AppendsFront}
use Rattle.bike_console.specs.Ends.{import_fault}
use Rattle.bike_app.specs.Program.{Refuses, FailsToBegin}

-- the line that tells how many rows were taken
abbrev pub rows_line : ℕ → List ℕ
rows_line count = codes "rows " ++ decimal count ++ codes "\n"

-- that line is written, or less of it
abbrev pub PutsRows : ℕ → Option (List ℕ) → Option (List ℕ) → Bool → Type 0
PutsRows count old new true = Appends old new (rows_line count)
PutsRows count old new false = AppendsFront old new (rows_line count)

-- what is told of an import: the number of its rows by that line,
-- or less of it; where it ended with a fault, that and no line
abbrev pub TellsRows : Result ℕ ImportFault → Option (List ℕ) → Option (List ℕ) → Result ℕ Fault → Type 0
TellsRows (Ok count) old new (Ok told) = (told ≡ count) × Appends old new (rows_line count)
TellsRows (Ok count) old new (Err fault) = (fault ≡ WriteFailed) × AppendsFront old new (rows_line count)
TellsRows (Err fault) old new end = (end ≡ Err (import_fault fault)) × Keeps old new

-- the input before and after, and what was written before and after
module _ {S : Type 0} (g : Ghosts S) (input ahead old new : Option (List ℕ)) (name : List ℕ) where
  -- The input was imported at the moment into a desk that was at the operator.
  pub record ImportsAt (desk : DeskValue S) (s : Operator) (moment : ℕ) (end : Result ℕ Fault) : Type 0 where
    pub result : Result ℕ ImportFault
    pub ran : Imports g desk s moment name input result
    pub told : TellsRows result old new end

  -- so at the moment; nothing is read or written where the clock gave none
  abbrev pub TellsImport : Option ℕ → DeskValue S → Operator → Result ℕ Fault → Type 0
  TellsImport None desk s end = (end ≡ Err NoClock) × IsAt g desk s × Keeps input ahead × Keeps old new
  TellsImport (Some moment) desk s end = ImportsAt desk s moment end

  -- The database stood for an operator, or had none of the tables, and the input was imported over a desk at it.
  pub record ImportsOver (first last : Held S) (moment : Option ℕ) (end : Result ℕ Fault) : Type 0 where
    pub desk : DeskValue S
    pub conn : last ≡ desk.conn
    pub operator : Operator
    pub was : IsOf (state g first).now operator
    pub imported : (s : Operator) → TreesStandFor s (state g first).now.trees → TellsImport moment desk s end

  -- the connection couldn't be adopted, and nothing was read, or the input is imported
  abbrev pub TellsImported : Held S → Held S → Option ℕ → Result ℕ Fault → Type 0
  TellsImported first last moment end =
      (Keeps input ahead × Refuses g old new first last end) ⊎ ImportsOver first last moment end

-- over a database in memory, which begins with nothing
abbrev pub ImportsInMemory : Option (List ℕ) → Option (List ℕ) → Option (List ℕ) → Option (List ℕ) → List ℕ → Option ℕ
    → Result ℕ Fault
    → Type 0
ImportsInMemory input ahead old new name moment end =
    (Keeps input ahead × FailsToBegin old new end)
    ⊎ ((desk : DeskValue MemStore) × TellsImport over_memory input ahead old new name moment desk no_operator end)
