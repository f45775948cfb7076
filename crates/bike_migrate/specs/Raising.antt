-- What `raise` owes.
use Rattle.std.specs.Prelude.{◌≡◌, ◌≤◌, ◌⊎◌, ℕ, false, List, codes, Option, Some, None, Result, IfOk, IfErr, OnOk}
use Rattle.std.specs.Prelude.{MatchResult, option_map, IsTrue, if◌then◌else◌}
use Rattle.sqlite_value.specs.Order.{Row}
use Rattle.sqlite_trees.specs.View.{doubt}
use Rattle.sqlite_trees.specs.declared.store.Store.{Ghosts}
use Rattle.sqlite_trees.specs.Tree.{Trees}
use Rattle.sqlite.specs.Held.{Held, state}
use Rattle.sqlite.specs.Effect.{Database, IsDatabase}
use Rattle.sqlite.specs.State.{State, HasCleanDisk, Shows, Survives}
use Rattle.bike_operator.specs.Operator.{Operator}
use Rattle.bike_book.specs.Tables.{TableName, Stations, Riders}
use Rattle.bike_schema.specs.Layouts.{name_of}
use Rattle.bike_schema.specs.Makes.{Continues}
use Rattle.bike_schema.specs.Stands.{AllLeft, StandsFor, TreesStandFor}
use Rattle.bike_schema.specs.Tables.{HasNone}
use Rattle.bike_schema.specs.Indexes.{HasRoom}
use Rattle.bike_schema.specs.declared.fault.StatementFault.{StatementFault}
use Rattle.bike_schema.specs.declared.fault.StatementFault.TheVariants as statement
use Rattle.bike_audit.specs.Audit.{row_name, IsAudited}
use Rattle.bike_audit.specs.declared.finding.Finding.TheVariants as finding
use Rattle.bike_audit.specs.declared.tables.BadRow.{BadRow}
use Rattle.bike_recognition.specs.declared.earlier_versions.earlier.Earlier.{Earlier}
use Rattle.bike_recognition.specs.declared.earlier_versions.found.Found.TheVariants as found
use Rattle.bike_recognition.specs.EarlierVersions.Earlier.{stations_name}
use Rattle.bike_recognition.specs.EarlierVersions.Found.{IsFoundAs}
use Rattle.bike_recognition.specs.EarlierVersions.Riders.{riders_name}
use Rattle.bike_recognition.specs.EarlierVersions.Stores.{StandsForAt, TreesStandForAt}
use Rattle.bike_migrate.specs.Raised.{IsEarlier, tables_raised, OthersKept, Raises}
use Rattle.bike_migrate.specs.Verdicts.{AllGoodAt, IsFirstBadAt, IsVerdictAt}
use Rattle.bike_migrate.specs.declared.fault.RaiseCause.{RaiseCause}
use Rattle.bike_migrate.specs.declared.fault.RaiseCause.TheVariants.{Foreign, Unsound, Newer, NoMemory, StoreFailed}
use Rattle.bike_migrate.specs.declared.fault.RaiseFault.{RaiseFault}
use Rattle.bike_migrate.specs.declared.fault.UnsoundRow.{UnsoundRow}

-- ---- a bad row

-- the name that the table has at the version; none is the newest
abbrev pub name_at : Option Earlier → TableName → List ℕ
name_at (Some e) Stations = stations_name e
name_at (Some e) Riders = riders_name
name_at v t = name_of t

-- the database is of the version, and this is the first bad row of its tables; at the newest the audit says which
abbrev pub IsUnsoundAt : Database → Option Earlier → BadRow → Type 0
IsUnsoundAt db None bad = IsFoundAs db found.Newest × IsAudited db (finding.Unsound bad)
IsUnsoundAt db (Some e) bad =
    IsFoundAs db (found.Of e) × IsFirstBadAt e (tables_raised e db) (row_name bad).0 (row_name bad).1

abbrev pub IsUnsound : Database → UnsoundRow → Type 0
IsUnsound db bad = IsUnsoundAt db bad.earlier bad.row

-- what the audit tells of a database of the newest version
abbrev pub IsOnNewest : Database → Option BadRow → Type 0
IsOnNewest db None = IsAudited db finding.Sound
IsOnNewest db (Some bad) = IsAudited db (finding.Unsound bad)

-- ---- what comes back

-- Nothing is pending; what is shown and all that a crash may leave stand for the operator.
pub record Holds (c : State) (s : Operator) : Type 0 where
  pub is_open : IsTrue c.is_open
  pub autocommit : c.in_transaction ≡ false
  pub settled : c.committed ≡ c.now
  pub now : StandsFor c.now s
  pub left : AllLeft c (TreesStandFor s)

-- What a raise may commit: the tables raised, of which all keys were good.
pub record MayCommit (e : Earlier) (old : Database) (trees : Trees) : Type 0 where
  pub sound : IsDatabase old
  pub db : Database
  pub raises : Raises e old db
  pub good : AllGoodAt e (tables_raised e old)
  pub trees_are : trees ≡ db.trees

-- .. of a database of some earlier version
abbrev pub MayCommitAny : Database → Trees → Type 0
MayCommitAny old trees = (e : Earlier) × IsFoundAs old (found.Of e) × MayCommit e old trees

-- the trees stand for the operator at the version, or at the newest
abbrev pub TreesStandSince : Option Earlier → Operator → Trees → Type 0
TreesStandSince v s trees = TreesStandForAt v s trees ⊎ TreesStandFor s trees

-- ---- inside the transaction, and at its end

-- what was made of an earlier version, where this is its first bad row, or none is bad
abbrev pub Becomes : Earlier → Database → Database → Option (TableName × Row) → Type 0
Becomes e old new None = Raises e old new
Becomes e old new (Some bad) = Unit {0}

pub record IsJudged (e : Earlier) (old new : Database) (bad : Option (TableName × Row)) : Type 0 where
  pub verdict : IsVerdictAt e (tables_raised e old) bad
  pub becomes : Becomes e old new bad

-- why it isn't raised, where this is the first bad row of the version, if any is bad
abbrev pub cause_of : Option Earlier → Option BadRow → Option RaiseCause
cause_of v None = None
cause_of v (Some row) = Some (Unsound (record { earlier = v; row = row }))

-- the word that tells the cause
abbrev pub word_of : RaiseCause → List ℕ
word_of Foreign = codes "foreign"
word_of (Unsound bad) = codes "unsound"
word_of (Newer version) = codes "newer"
word_of NoMemory = codes "out of memory"
word_of StoreFailed = codes "store failed"

-- it tells nothing of the database
abbrev pub IsWantFor : RaiseCause → Type 0
IsWantFor NoMemory = Unit {0}
IsWantFor StoreFailed = Unit {0}
IsWantFor _ = ⊥

module _ {S : Type 0} (g : Ghosts S) where
  -- On a database of the version: a transaction is begun, and what it sees was judged. Nothing is committed.
  pub record Attempts (e : Earlier) (old new : Held S) (result : Result (Option BadRow) StatementFault) : Type 0 where
    pub judged : HasCleanDisk (state g new) → IsEarlier e (state g old).now
        → IfOk result (λ bad. Continues (state g old) (state g new)
        × IsJudged e (state g old).now (state g new).now (option_map row_name bad))
    pub survives : Survives (state g old) (state g new) (λ _. ¬ IsEarlier e (state g old).now)

  -- what is seen is committed
  abbrev pub IsCommitted : Held S → Held S → Type 0
  IsCommitted old new = Shows (state g old) (state g new) (state g old).now (state g old).now false

  -- what was committed is seen
  abbrev pub IsUndone : Held S → Held S → Type 0
  IsUndone old new = Shows (state g old) (state g new) (state g old).committed (state g old).committed false

  -- the one, or the other where a row is bad
  abbrev pub Ends : Held S → Held S → Option BadRow → Type 0
  Ends old new None = IsCommitted old new
  Ends old new (Some bad) = IsUndone old new

  -- what it commits, if anything
  abbrev pub CommitsBy : Held S → Option BadRow → Trees → Type 0
  CommitsBy old None trees = trees ≡ (state g old).now.trees
  CommitsBy old (Some bad) trees = ⊥

  -- The transaction was ended.
  pub record EndsTransaction (old new : Held S) (bad : Option BadRow) (result : Result (Option BadRow) StatementFault)
      : Type 0 where
    pub ended : HasCleanDisk (state g new) → IfOk result (λ b. (b ≡ bad) × Ends old new bad)
    pub outside : OnOk result (new.in_transaction ≡ false)
    pub survives : Survives (state g old) (state g new) (CommitsBy old bad)

  -- the connection shows what it showed, outside a transaction
  abbrev pub IsAsBefore : Held S → Held S → Type 0
  IsAsBefore old new = Shows (state g old) (state g new) (state g old).now (state g old).committed false

  -- raised and committed, or as before where a row is bad
  abbrev pub BecomesAt : Earlier → Held S → Held S → Option BadRow → Type 0
  BecomesAt e old new None =
      Shows (state g old) (state g new) (state g new).now (state g new).now false
      × Raises e (state g old).now (state g new).now
  BecomesAt e old new (Some bad) = IsAsBefore old new

  -- WHAT RAISING IN PLACE DOES to a database of the version, on which nothing is pending
  pub record RaisesInPlace (e : Earlier) (old new : Held S) (result : Result (Option BadRow) StatementFault)
      : Type 0 where
    pub ends : HasCleanDisk (state g new) → IsEarlier e (state g old).now
        → IfOk result (λ bad. IsVerdictAt e (tables_raised e (state g old).now) (option_map row_name bad)
        × BecomesAt e old new bad)
    pub outside : OnOk result (new.in_transaction ≡ false)
    pub survives : Survives (state g old) (state g new)
        (λ trees. IsEarlier e (state g old).now → MayCommit e (state g old).now trees)

  -- ---- of any database

  -- an earlier version was raised
  pub record IsRaisedFrom (old new : Held S) : Type 0 where
    pub earlier : Earlier
    pub found : IsFoundAs (state g old).now (found.Of earlier)
    pub good : AllGoodAt earlier (tables_raised earlier (state g old).now)
    pub shown : Shows (state g old) (state g new) (state g new).now (state g new).now false
    pub raises : Raises earlier (state g old).now (state g new).now

  -- it is of the newest version and sound, or has none of the tables and room for them, and is as it was
  abbrev pub IsReady : Held S → Held S → Type 0
  IsReady old new =
      (IsFoundAs (state g old).now found.Newest × IsAudited (state g old).now finding.Sound × IsAsBefore old new)
      ⊎ (IsFoundAs (state g old).now found.Empty × HasRoom (state g old).now.schema × IsAsBefore old new)

  -- What the cause tells of the database. Want of memory and a failed store tell nothing of it.
  abbrev pub IsToldBy : Held S → Held S → RaiseCause → Type 0
  IsToldBy old c Foreign = IsFoundAs (state g old).now found.Foreign × IsAsBefore old c
  IsToldBy old c (Unsound bad) = IsUnsound (state g old).now bad × IsAsBefore old c
  IsToldBy old c (Newer version) = IsFoundAs (state g old).now (found.Newer version) × IsAsBefore old c
  IsToldBy old c NoMemory = Unit {0}
  IsToldBy old c StoreFailed = Unit {0}

  -- what came of it: it is of the newest version, or told to be something else
  abbrev pub IsOutcome : Held S → Held S → Option RaiseCause → Type 0
  IsOutcome old new None = IsReady old new ⊎ IsRaisedFrom old new
  IsOutcome old new (Some NoMemory) = ⊥
  IsOutcome old new (Some StoreFailed) = ⊥
  IsOutcome old new (Some cause) = IsToldBy old new cause

  pub record ComesTo (old new : Held S) (result : Result (Option RaiseCause) StatementFault) : Type 0 where
    pub comes : HasCleanDisk (state g new) → IfOk result (IsOutcome old new)
    pub outside : OnOk result (new.in_transaction ≡ false)
    pub ended : HasCleanDisk (state g new) → new.in_transaction ≡ false
    pub survives : Survives (state g old) (state g new) (MayCommitAny (state g old).now)

module _ {S : Type 0} where
  -- the connection in a fault
  abbrev pub handed : RaiseFault S → Held S
  handed e = e.conn

  -- why, where a statement failed on the connection: where its transaction is open still, the store failed to undo that
  abbrev pub failure : StatementFault → Held S → RaiseCause
  failure statement.NoMemory c = if c.in_transaction then StoreFailed else NoMemory
  failure statement.StoreFailed c = StoreFailed

  abbrev pub failed : StatementFault → Held S → RaiseFault S
  failed fault c = record { conn = c; cause = failure fault c }

  -- what a fault tells of the database
  abbrev pub IsToldOf : Ghosts S → Held S → RaiseFault S → Type 0
  IsToldOf g old e = IsToldBy g old e.conn e.cause

  -- a fault that tells nothing of the database
  abbrev pub IsWant : RaiseFault S → Type 0
  IsWant e = IsWantFor e.cause

  -- the connection is outside a transaction; where the store failed, the engine says so of a clean disk alone
  abbrev pub IsOutsideFor : Held S → RaiseCause → Type 0
  IsOutsideFor c StoreFailed = Unit {0}
  IsOutsideFor c _ = c.in_transaction ≡ false

  abbrev pub IsOutside : RaiseFault S → Type 0
  IsOutside e = IsOutsideFor e.conn e.cause

  -- what a crash may leave, where the disk is clean
  abbrev pub Leaves : Ghosts S → (Trees → Type 0) → Held S → Type 0
  Leaves g P c = HasCleanDisk (state g c) → AllLeft (state g c) P

  -- WHAT A RAISE OWES: the connection to a database that stands, at the newest version, for the operator for which it
  -- stood at its own, or a fault that hands the connection back
  pub record IsRaise (g : Ghosts S) (old : Held S) (result : Result (Held S) (RaiseFault S)) : Type 0 where
    pub clean : MatchResult result (λ c. doubt (state g old).is_clean ≤ doubt (state g c).is_clean)
        (λ e. doubt (state g old).is_clean ≤ doubt (state g (handed e)).is_clean)
    pub only : IfOk result (λ c. HasCleanDisk (state g c)
        → (v : Option Earlier) × (s : Operator) × StandsForAt v (state g old).now s × Holds (state g c) s)
    pub others : IfOk result (λ c. HasCleanDisk (state g c) → OthersKept (state g old).now (state g c).now)
    -- a database of the newest version comes back as it was, and so does one with none of the product's tables
    pub newest : IsFoundAs (state g old).now found.Newest
        → IfOk result (λ c. HasCleanDisk (state g c) → IsAsBefore g old c)
    pub empty : HasNone (state g old).now.schema → IfOk result (λ c. HasCleanDisk (state g c) → IsAsBefore g old c)
    -- .. only where nothing has a name that the tables or their indexes take
    pub room : HasNone (state g old).now.schema
        → IfOk result (λ c. HasCleanDisk (state g c) → HasRoom (state g old).now.schema)
    -- one of an earlier version comes back raised, with nothing else changed
    pub raised : (e : Earlier) → IsFoundAs (state g old).now (found.Of e)
        → IfOk result (λ c. HasCleanDisk (state g c) → Raises e (state g old).now (state g c).now)
    pub found : (v : Option Earlier) (s : Operator) → TreesStandForAt v s (state g old).now.trees
        → IfOk result (λ c. HasCleanDisk (state g c) → Holds (state g c) s)
    -- tables that stand for an operator are refused for memory or storage alone
    pub refused : (v : Option Earlier) (s : Operator) → TreesStandForAt v s (state g old).now.trees
        → IfErr result (λ e. HasCleanDisk (state g (handed e)) → IsWant e)
    pub told : IfErr result (λ e. HasCleanDisk (state g (handed e)) → IsToldOf g old e)
    pub autocommit : MatchResult result (λ c. c.in_transaction ≡ false) IsOutside
    pub ended : IfErr result (λ e. HasCleanDisk (state g (handed e)) → (handed e).in_transaction ≡ false)
    -- what a crash may leave after a fault; of a connection that was shut,
    -- too: what it might leave before, or tables that stand for the operator
    pub crash : (v : Option Earlier) (s : Operator) → TreesStandForAt v s (state g old).now.trees
        → IfErr result (λ e. Leaves g (λ trees. (state g old).may_leave trees ⊎ TreesStandFor s trees) e.conn)
    pub left : (v : Option Earlier) (s : Operator) → TreesStandForAt v s (state g old).now.trees
        → IsTrue (state g old).is_open → IfErr result (λ e. Leaves g (TreesStandSince v s) e.conn)
    pub stays : ((v : Option Earlier) (s : Operator) → ¬ StandsForAt v (state g old).now s)
        → IfErr result (λ e. Leaves g (state g old).may_leave e.conn)
