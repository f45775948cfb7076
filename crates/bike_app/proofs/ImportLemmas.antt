-- What an import leaves.
use Rattle.std.proofs.Common.{ℕ, List, [], ◌∷◌, ◌++◌, Bool, true, false, Option, Some, None, Result, Ok, Err, sym, subst, inl, inr}
use Rattle.sqlite_trees.specs.declared.store.Store.{Ghosts}
use Rattle.bike_operator.specs.Operator.{Operator}
use Rattle.bike_schema.specs.Stands.{AllLeft, TreesStandFor}
use Rattle.bike_desk.specs.Desk.{DeskValue, desk_state}
use Rattle.bike_desk.specs.declared.fault.DeskFault.TheVariants.{NoMemory, StoreFailed, Stopped}
use Rattle.bike_batch.specs.declared.import_fault.ImportFault.{ImportFault}
use Rattle.bike_batch.specs.declared.import_fault.ImportFault.TheVariants.{BadHeader, Unreadable, Row, Read, TooManyRows, Desk}
use Rattle.bike_batch.specs.Imports.{Imports}
use Rattle.bike_console.specs.declared.end.Fault.{Fault}
use Rattle.bike_app.specs.Program.{StandsAfterSome}
use Rattle.bike_console.specs.Pieces.{Puts}
use Rattle.bike_console.proofs.PieceLemmas.{writer_with}
use Rattle.bike_app.specs.Imports.{PutsRows, TellsImport, rows_line}
use Rattle.bike_app.proofs.ProgramLemmas.{calls_push}
use Rattle.bike_batch.proofs.RunLemmas.{after_one}

-- the line of a number of rows, by its pieces
pub rows_put : (old new : Option (List ℕ)) (count : ℕ) (written : Bool) → Puts (writer_with old) (writer_with new) (rows_line count) true written
    → PutsRows count old new written
rows_put old new count true p = p.0
rows_put old new count false p = p.0

module _ {S : Type 0} (g : Ghosts S) (desk : DeskValue S) (s : Operator) where
  -- a crash may leave the operator after a front of the rows
  imports_left : (moment : ℕ) (name : List ℕ) (input : Option (List ℕ)) (result : Result ℕ ImportFault)
      → Imports g desk s moment name input result → AllLeft (desk_state g desk) (StandsAfterSome s)
  imports_left moment name input (Ok count) r db h = (r.calls, r.accepts.good, r.at.keeps.left db h)
  imports_left moment name input (Err BadHeader) r db h = ([], tt, r.at.keeps.left db h)
  imports_left moment name input (Err (Unreadable number)) r db h = (r.calls, r.accepts.good, r.at.keeps.left db h)
  imports_left moment name input (Err (Row number refusal)) r db h = (r.calls, r.accepts.good, r.at.keeps.left db h)
  imports_left moment name input (Err Read) r db h = (r.calls, r.accepts.good, r.at.keeps.left db h)
  imports_left moment name input (Err TooManyRows) r db h = (r.calls, r.accepts.good, r.at.keeps.left db h)
  imports_left moment name input (Err (Desk NoMemory)) r db h = (r.calls, r.accepts.good, r.at.keeps.left db h)
  imports_left moment name input (Err (Desk StoreFailed)) r db h = elim (r.fails.left db h) [
    | inl before ↦ (r.calls, r.accepts.good, before)
    | inr later ↦ (
      r.calls ++ r.call ∷ [],
      calls_push r.calls r.call r.accepts.good r.fails.good,
      subst (λ (next : Operator). TreesStandFor next db) (sym (after_one s r.calls r.call)) later,
    )
  ]
  imports_left moment name input (Err (Desk Stopped)) r db h = absurd r

  pub told_left : (input ahead old new : Option (List ℕ)) (name : List ℕ) (moment : Option ℕ) (end : Result ℕ Fault)
      → TellsImport g input ahead old new name moment desk s end → AllLeft (desk_state g desk) (StandsAfterSome s)
  told_left input ahead old new name None end told db h = ([], tt, told.1.keeps.left db h)
  told_left input ahead old new name (Some moment) end told db h = imports_left moment name input told.result told.ran db h
