-- What an import leaves.
use Rattle.std.specs.Prelude.{◌≡◌, ◌⊎◌, ℕ, ◌+◌, List, [], ◌∷◌, ◌++◌, length, Option, Some, Result, Ok, Err}
use Rattle.sqlite_trees.specs.Tree.{Trees}
use Rattle.sqlite_trees.specs.declared.store.Store.{Ghosts}
use Rattle.bike_commands.specs.declared.refusal.Refusal.{Refusal}
use Rattle.bike_commands.specs.declared.reply.Reply.TheVariants.{Refused}
use Rattle.bike_operator.specs.Operator.{Operator}
use Rattle.bike_operator.specs.Runs.{Call, after}
use Rattle.bike_operator.specs.Sound.{AreCalls}
use Rattle.bike_schema.specs.Stands.{TreesStandFor}
use Rattle.bike_desk.specs.Desk.{DeskValue, IsAt}
use Rattle.bike_desk.specs.declared.fault.DeskFault.TheVariants.{NoMemory, StoreFailed, Stopped}
use Rattle.bike_batch.specs.declared.import_fault.ImportFault.{ImportFault}
use Rattle.bike_batch.specs.declared.import_fault.ImportFault.TheVariants.{BadHeader, Unreadable, Row, Read}
use Rattle.bike_batch.specs.declared.import_fault.ImportFault.TheVariants.{TooManyRows, Desk}
use Rattle.bike_batch.specs.Rows.{Record, header, call_of, Accepts, reply_to, ChangesNothing}
use Rattle.bike_batch.specs.StationTables.{IsRow, HasRecords, BeginsWith, LacksHeader}
use Rattle.bike_batch.specs.ImportServing.{FailsAt}

-- the trees stand for the operator after good requests
abbrev pub StandsAfterSome : Operator → Trees → Type 0
StandsAfterSome s trees = (calls : List Call) × AreCalls calls × TreesStandFor (after s calls) trees

-- each row of the table changes nothing of the operator; where the text isn't known, no row does at any place
abbrev pub AllChangeNothing : ℕ → List ℕ → Operator → Option (List ℕ) → Type 0
AllChangeNothing moment name s input =
    (rows : List Record) (row : Record) → BeginsWith input ((header ∷ rows) ++ row ∷ [])
    → ChangesNothing s (call_of moment name (length rows + 1) row)

module _ {S : Type 0} (g : Ghosts S) (desk : DeskValue S) (s : Operator) (moment : ℕ) (name : List ℕ)
    (input : Option (List ℕ)) where
  -- all rows are accepted
  pub record AcceptsAll (count : ℕ) : Type 0 where
    pub rows : List Record
    pub calls : List Call
    pub text : HasRecords input (header ∷ rows)
    pub accepts : Accepts moment name s rows calls
    pub at : IsAt g desk (after s calls)
    pub counted : count ≡ length rows

  -- the table lacks its header, and nothing is served
  pub record ServesNone : Type 0 where
    pub text : LacksHeader input
    pub at : IsAt g desk s

  -- the rows before this number are accepted, and the record of this number is no row
  pub record MeetsNoRow (number : ℕ) : Type 0 where
    pub rows : List Record
    pub calls : List Call
    pub fields : Record
    pub text : BeginsWith input ((header ∷ rows) ++ fields ∷ [])
    pub no_row : IsRow fields → ⊥
    pub accepts : Accepts moment name s rows calls
    pub at : IsAt g desk (after s calls)
    pub counted : number ≡ length rows + 1

  -- the rows before this number are accepted, and the row of this number is refused
  pub record RefusesRow (number : ℕ) (refusal : Refusal) : Type 0 where
    pub rows : List Record
    pub calls : List Call
    pub row : Record
    pub text : BeginsWith input ((header ∷ rows) ++ row ∷ [])
    pub is_row : IsRow row
    pub refused : reply_to (after s calls) (call_of moment name number row) ≡ Refused refusal
    pub accepts : Accepts moment name s rows calls
    pub at : IsAt g desk (after s calls)
    pub counted : number ≡ length rows + 1

  -- the rows that were read are accepted; where none is, the header may not be read either
  pub record BreaksOff : Type 0 where
    pub rows : List Record
    pub calls : List Call
    pub text : (rows ≡ []) ⊎ BeginsWith input (header ∷ rows)
    pub accepts : Accepts moment name s rows calls
    pub at : IsAt g desk (after s calls)

  -- as many rows as an import serves at most are accepted
  pub record ServesMost : Type 0 where
    pub rows : List Record
    pub calls : List Call
    pub text : BeginsWith input (header ∷ rows)
    pub accepts : Accepts moment name s rows calls
    pub at : IsAt g desk (after s calls)
    pub counted : length rows ≡ 1000000

  -- the rows before are accepted, and the store failed at the next one
  pub record FailsAtRow : Type 0 where
    pub rows : List Record
    pub calls : List Call
    pub row : Record
    pub call : Call
    pub text : BeginsWith input ((header ∷ rows) ++ row ∷ [])
    pub accepts : Accepts moment name s rows calls
    pub next : call_of moment name (length rows + 1) row ≡ Some call
    pub fails : FailsAt g desk (after s calls) call

  -- what stands after the import of a table into a desk that was at the operator
  abbrev pub Imports : Result ℕ ImportFault → Type 0
  Imports (Ok count) = AcceptsAll count
  Imports (Err BadHeader) = ServesNone
  Imports (Err (Unreadable number)) = MeetsNoRow number
  Imports (Err (Row number refusal)) = RefusesRow number refusal
  Imports (Err Read) = BreaksOff
  Imports (Err TooManyRows) = ServesMost
  Imports (Err (Desk NoMemory)) = BreaksOff
  Imports (Err (Desk StoreFailed)) = FailsAtRow
  Imports (Err (Desk Stopped)) = ⊥
