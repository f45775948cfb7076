-- What a watch is told of.
use Rattle.std.specs.Prelude.{◌≡◌, List, [], ◌∷◌, ◌++◌, Option, Some, None, option_map, Result, Ok, Err}
use Rattle.bike_schema.specs.declared.fault.StatementFault.{StatementFault}
use Rattle.bike_recognition.specs.declared.table.TableName.{TableName}
use Rattle.bike_recognition.specs.declared.stands.TheConstants.{EVERY_TABLE}
use Rattle.bike_audit.specs.declared.tables.BadRow.{BadRow}
use Rattle.bike_audit.specs.declared.finding.Finding.{Finding}
use Rattle.bike_audit.specs.declared.finding.Finding.TheVariants as finding

-- what it was told of before, and then these tables, where it keeps that
abbrev pub told_after : Option (List TableName) → List TableName → Option (List TableName)
told_after told tables = option_map (λ before. before ++ tables) told

-- the watch was told of such tables, one after another
abbrev pub WasTold : Option (List TableName) → Option (List TableName) → (List TableName → Type 0) → Type 0
WasTold old new are = (tables : List TableName) × (new ≡ told_after old tables) × are tables

-- a front of the tables, and one whose last is this
abbrev pub IsFront : List TableName → List TableName → Type 0
IsFront tables front = (rest : List TableName) × (tables ≡ front ++ rest)

abbrev pub IsFrontTo : List TableName → TableName → List TableName → Type 0
IsFrontTo tables last front = (before : List TableName) × (front ≡ before ++ last ∷ []) × IsFront tables front

-- THE TABLES THAT AN AUDIT TELLS OF: all where no row is bad, else
-- those up to the bad row's; where it fails, those that it came to
abbrev pub AreTold : List TableName → Result (Option BadRow) StatementFault → List TableName → Type 0
AreTold tables (Ok None) told = told ≡ tables
AreTold tables (Ok (Some bad)) told = IsFrontTo tables bad.table told
AreTold tables (Err fault) told = IsFront tables told

-- so of a database that is found to be this: none where its tables aren't audited
abbrev pub AreToldOf : Result Finding StatementFault → List TableName → Type 0
AreToldOf (Ok finding.Sound) told = told ≡ EVERY_TABLE
AreToldOf (Ok (finding.Unsound bad)) told = IsFrontTo EVERY_TABLE bad.table told
AreToldOf (Ok _) told = told ≡ []
AreToldOf (Err fault) told = IsFront EVERY_TABLE told
