-- What an adoption that fails hands back.
use Rattle.std.specs.Prelude.{◌≡◌, ◌≤◌, ◌⊎◌, ℕ, false, List, [], codes, Option, Some, None, Result, Ok, Err, IfOk}
use Rattle.std.specs.Prelude.{IfErr, MatchResult, IsTrue}
use Rattle.sqlite_trees.specs.View.{doubt}
use Rattle.sqlite_trees.specs.declared.store.Store.{Ghosts}
use Rattle.sqlite_trees.specs.Tree.{Trees}
use Rattle.sqlite.specs.Held.{Held, state}
use Rattle.sqlite.specs.Effect.{Database}
use Rattle.sqlite.specs.State.{State, HasCleanDisk, IsUnchanged, Shows}
use Rattle.bike_operator.specs.Operator.{Operator, no_operator}
use Rattle.bike_schema.specs.Makes.{OthersStay}
use Rattle.bike_schema.specs.Creates.{IsFresh}
use Rattle.bike_schema.specs.Indexes.{HasRoom}
use Rattle.bike_schema.specs.Tables.{HasNone}
use Rattle.bike_recognition.specs.declared.table.TableName.{TableName as Table}
use Rattle.bike_recognition.specs.declared.stands.TheConstants.{EVERY_TABLE}
use Rattle.bike_schema.specs.Stands.{AllLeft, IsOf, TreesStandFor}
use Rattle.bike_schema.specs.declared.fault.StatementFault.{StatementFault}
use Rattle.bike_schema.specs.declared.fault.StatementFault.TheVariants as statement
use Rattle.bike_audit.specs.declared.adoption.AdoptCause.{AdoptCause}
use Rattle.bike_audit.specs.declared.adoption.AdoptCause.TheVariants.{Foreign, Unsound, Older, Newer, NoMemory}
use Rattle.bike_audit.specs.declared.adoption.AdoptCause.TheVariants.{StoreFailed}
use Rattle.bike_audit.specs.declared.adoption.AdoptFault.{AdoptFault}
use Rattle.bike_audit.specs.declared.looking.Inspection.{Inspection}
use Rattle.bike_audit.specs.declared.looking.Inspection.TheVariants as look
use Rattle.bike_desk.specs.Desk.{DeskValue, IsAt, desk_over, desk_state}
use Rattle.bike_audit.specs.Audit.{IsAudited}
use Rattle.bike_audit.specs.Watching.{IsFront, IsFrontTo}
use Rattle.bike_audit.specs.declared.finding.Finding.{Finding}
use Rattle.bike_audit.specs.declared.finding.Finding.TheVariants as finding

-- the connection was open, and the trees hold the empty tables, beside the other tables that it showed
abbrev pub AreFresh : State → Trees → Type 0
AreFresh old trees = IsTrue old.is_open × (db : Database) × IsFresh old.now db × (trees ≡ db.trees)

-- the empty tables were made beside all others, and committed
abbrev pub AreMade : State → State → Type 0
AreMade old new = Shows old new new.now new.now false × IsFresh old.now new.now

-- ---- causes

-- the word that tells the cause
abbrev pub word_of : AdoptCause → List ℕ
word_of Foreign = codes "foreign"
word_of (Unsound bad) = codes "unsound"
word_of (Older version) = codes "older"
word_of (Newer version) = codes "newer"
word_of NoMemory = codes "out of memory"
word_of StoreFailed = codes "store failed"

-- a statement failed
abbrev pub failure : StatementFault → AdoptCause
failure statement.NoMemory = NoMemory
failure statement.StoreFailed = StoreFailed

-- why a database that was found to be this isn't adopted, if it isn't; one that isn't empty is never found to be
abbrev pub cause_of : Finding → Option AdoptCause
cause_of finding.Sound = None
cause_of finding.Foreign = Some Foreign
cause_of (finding.Unsound bad) = Some (Unsound bad)
cause_of (finding.Older version) = Some (Older version)
cause_of (finding.Newer version) = Some (Newer version)
cause_of finding.Empty = Some StoreFailed

-- it tells nothing of the database
abbrev pub IsWantFor : AdoptCause → Type 0
IsWantFor NoMemory = Unit {0}
IsWantFor StoreFailed = Unit {0}
IsWantFor _ = ⊥

-- the tables of which a watch was told before it
abbrev pub AreToldBefore : AdoptCause → List Table → Type 0
AreToldBefore (Unsound bad) told = IsFrontTo EVERY_TABLE bad.table told
AreToldBefore NoMemory told = IsFront EVERY_TABLE told
AreToldBefore StoreFailed told = IsFront EVERY_TABLE told
AreToldBefore _ told = told ≡ []

module _ {S : Type 0} where
  -- the connection in a fault
  abbrev pub handed : AdoptFault S → Held S
  handed e = e.conn

  -- a statement failed on the connection
  abbrev pub failed : StatementFault → Held S → AdoptFault S
  failed fault c = record { conn = c; cause = failure fault }

  -- it isn't adopted for the cause, if there is one
  abbrev pub found_by : Held S → Option AdoptCause → Result (DeskValue S) (AdoptFault S)
  found_by c None = Ok (desk_over c)
  found_by c (Some cause) = Err (record { conn = c; cause = cause })

  -- what comes of a database that was found to be this
  abbrev pub found_as : Held S → Finding → Result (DeskValue S) (AdoptFault S)
  found_as c found = found_by c (cause_of found)

  -- the empty tables were made with their indexes, beside all others
  pub record Begins (g : Ghosts S) (old : Held S) (d : DeskValue S) : Type 0 where
    pub was_open : IsTrue (state g old).is_open
    pub at : IsAt g d no_operator
    pub fresh : IsFresh (state g old).now (desk_state g d).now

  -- a fault of a statement
  abbrev pub IsOfStatement : AdoptFault S → Type 0
  IsOfStatement e = (fault : StatementFault) × (e.cause ≡ failure fault)

  -- the database is what the fault tells, and as it was
  abbrev pub IsFound : Ghosts S → Held S → Held S → Finding → Type 0
  IsFound g old c finding = IsAudited (state g old).now finding × IsUnchanged (state g old) (state g c)

  -- What a fault tells of the database. Want of memory and a failed store tell nothing of it.
  abbrev pub IsToldBy : Ghosts S → Held S → Held S → AdoptCause → Type 0
  IsToldBy g old c Foreign = IsFound g old c finding.Foreign
  IsToldBy g old c (Unsound bad) = IsFound g old c (finding.Unsound bad)
  IsToldBy g old c (Older version) = IsFound g old c (finding.Older version)
  IsToldBy g old c (Newer version) = IsFound g old c (finding.Newer version)
  IsToldBy g old c NoMemory = Unit {0}
  IsToldBy g old c StoreFailed = Unit {0}

  abbrev pub IsToldOf : Ghosts S → Held S → AdoptFault S → Type 0
  IsToldOf g old e = IsToldBy g old e.conn e.cause

  -- a fault that tells nothing of the database
  abbrev pub IsWant : AdoptFault S → Type 0
  IsWant e = IsWantFor e.cause

  -- THE TABLES THAT AN ADOPTION TELLS ITS WATCH OF: those that its audit tells of; none where no audit begins
  abbrev pub AreToldBy : Ghosts S → Held S → Result (DeskValue S) (AdoptFault S) → List Table → Type 0
  AreToldBy g old (Ok d) told = (told ≡ EVERY_TABLE) ⊎ (HasNone (state g old).now.schema × (told ≡ []))
  AreToldBy g old (Err e) told = AreToldBefore e.cause told

  -- what a crash may leave is what it might leave before
  abbrev pub LeavesAll : Ghosts S → Held S → Held S → Type 0
  LeavesAll g old c = HasCleanDisk (state g c) → AllLeft (state g c) (state g old).may_leave

  -- so it stands for the operator for which the tables stood
  abbrev pub LeavesFor : Ghosts S → Operator → Held S → Type 0
  LeavesFor g s c = HasCleanDisk (state g c) → AllLeft (state g c) (TreesStandFor s)

  -- it is what it might leave before, or stands for the operator
  abbrev pub LeavesOrStands : Ghosts S → Held S → Operator → Held S → Type 0
  LeavesOrStands g old s c =
      HasCleanDisk (state g c) → AllLeft (state g c) (λ trees. (state g old).may_leave trees ⊎ TreesStandFor s trees)

  -- WHAT AN ADOPTION OWES: a desk at the operator for which the
  -- database stands, or a fault that hands the connection back
  pub record Adopts (g : Ghosts S) (old : Held S) (result : Result (DeskValue S) (AdoptFault S)) : Type 0 where
    pub clean : MatchResult result (λ d. doubt (state g old).is_clean ≤ doubt (desk_state g d).is_clean)
        (λ e. doubt (state g old).is_clean ≤ doubt (state g (handed e)).is_clean)
    pub only : IfOk result (λ d. HasCleanDisk (desk_state g d) → (s : Operator) × IsOf (state g old).now s × IsAt g d s)
    pub others : IfOk result (λ d. HasCleanDisk (desk_state g d) → OthersStay (state g old).now (desk_state g d).now)
    -- a database with none of the tables gets them with their indexes, where nothing had one of their names
    pub begun : HasNone (state g old).now.schema → IfOk result (λ d. HasCleanDisk (desk_state g d) → Begins g old d)
    pub room : HasNone (state g old).now.schema → IfOk result (λ _. HasRoom (state g old).now.schema)
    -- any other is as it was
    pub same : ¬ HasNone (state g old).now.schema
        → IfOk result (λ d. HasCleanDisk (desk_state g d) → IsUnchanged (state g old) (desk_state g d))
    pub found : (s : Operator) → TreesStandFor s (state g old).now.trees
        → IfOk result (λ d. HasCleanDisk (desk_state g d) → IsAt g d s)
    -- tables that stand for an operator are refused for memory or storage alone
    pub refused : (s : Operator) → TreesStandFor s (state g old).now.trees
        → IfErr result (λ e. HasCleanDisk (state g (handed e)) → IsWant e)
    pub told : IfErr result (λ e. HasCleanDisk (state g (handed e)) → IsToldOf g old e)
    pub autocommit : IfErr result (λ e. (handed e).in_transaction ≡ false)
    -- what a crash may leave after a fault; of a connection that was shut, too: what it might leave before, or tables
    -- that stand for the operator
    pub crash : (s : Operator) → TreesStandFor s (state g old).now.trees
        → IfErr result (λ e. LeavesOrStands g old s e.conn)
    pub left : (s : Operator) → TreesStandFor s (state g old).now.trees → IsTrue (state g old).is_open
        → IfErr result (λ e. LeavesFor g s e.conn)
    pub stays : ((s : Operator) → ¬ IsOf (state g old).now s) → IfErr result (λ e. LeavesAll g old e.conn)

  -- ---- a look, which changes nothing

  -- the connection of a database that was looked at
  abbrev pub looked_at : Inspection S → Held S
  looked_at (look.Sound c) = c
  looked_at (look.Empty c) = c

  -- it may not be served for the cause, if there is one
  abbrev pub looked_by : Held S → Option AdoptCause → Result (Inspection S) (AdoptFault S)
  looked_by c None = Ok (look.Sound c)
  looked_by c (Some cause) = Err (record { conn = c; cause = cause })

  -- what comes of a database that was found to be this by a look
  abbrev pub looked_as : Held S → Finding → Result (Inspection S) (AdoptFault S)
  looked_as c found = looked_by c (cause_of found)

  -- The database stands for an operator, or has none of the tables:
  -- it is as it was, and a desk over it is at its operator.
  abbrev pub IsSeen : Ghosts S → Held S → Inspection S → Type 0
  IsSeen g old (look.Sound c) =
      IsUnchanged (state g old) (state g c) × ((s : Operator) × IsOf (state g old).now s × IsAt g (desk_over c) s)
      × ((s : Operator) → TreesStandFor s (state g old).now.trees → IsAt g (desk_over c) s)
  IsSeen g old (look.Empty c) = (c ≡ old) × HasNone (state g old).now.schema

  -- WHAT A LOOK OWES: the database as it was, which may be served, or a fault that hands it back as it was
  pub record Looks (g : Ghosts S) (old : Held S) (result : Result (Inspection S) (AdoptFault S)) : Type 0 where
    pub clean : MatchResult result (λ l. doubt (state g old).is_clean ≤ doubt (state g (looked_at l)).is_clean)
        (λ e. doubt (state g old).is_clean ≤ doubt (state g (handed e)).is_clean)
    pub seen : IfOk result (λ l. HasCleanDisk (state g (looked_at l)) → IsSeen g old l)
    -- one with none of the tables may be served only where nothing has a name that they or their indexes take
    pub room : HasNone (state g old).now.schema → IfOk result (λ _. HasRoom (state g old).now.schema)
    -- tables that stand for an operator are refused for memory or storage alone
    pub refused : (s : Operator) → TreesStandFor s (state g old).now.trees
        → IfErr result (λ e. HasCleanDisk (state g (handed e)) → IsWant e)
    pub told : IfErr result (λ e. HasCleanDisk (state g (handed e)) → IsToldOf g old e)
    pub autocommit : MatchResult result (λ l. (looked_at l).in_transaction ≡ false) (λ e. e.conn.in_transaction ≡ false)
    pub stays : MatchResult result (λ l. LeavesAll g old (looked_at l)) (λ e. LeavesAll g old (handed e))
    pub left : (s : Operator) → TreesStandFor s (state g old).now.trees → IsTrue (state g old).is_open
        → MatchResult result (λ l. LeavesFor g s (looked_at l)) (λ e. LeavesFor g s (handed e))
