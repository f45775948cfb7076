-- What the audit of a database finds.
use Rattle.std.specs.Prelude.{◌≡◌, List, [], ◌∷◌, Option, Some, None, option_map}
use Rattle.sqlite_value.specs.Order.{Row}
use Rattle.sqlite.specs.Effect.{Database}
use Rattle.bike_book.specs.Tables.{TableName}
use Rattle.bike_schema.specs.Tables.{HasTables, tables_of}
use Rattle.bike_readings.specs.Rules.{IsVerdict}
use Rattle.bike_recognition.specs.Names.{table_named}
use Rattle.bike_recognition.specs.Recognition.{IsRecognised}
use Rattle.bike_recognition.specs.declared.recognition.Recognition.TheVariants as recognition
use Rattle.bike_judges.specs.declared.key.BadKey.{BadKey}
use Rattle.bike_judges.specs.Judging.{key_row}
use Rattle.bike_judges.specs.Verdicts.{JudgesTable}
use Rattle.bike_audit.specs.declared.tables.BadRow.{BadRow}
use Rattle.bike_audit.specs.declared.finding.Finding.{Finding}
use Rattle.bike_audit.specs.declared.finding.Finding.TheVariants as finding

-- ---- the first bad row

-- the table and the key of a bad row
abbrev pub row_name : BadRow → TableName × Row
row_name bad = (table_named bad.table, key_row bad.key)

-- the verdict on the tables of a database
abbrev pub IsVerdictOn : Database → Option BadRow → Type 0
IsVerdictOn db bad = IsVerdict (tables_of db) (option_map row_name bad)

-- a table's bad key was found, or the rest decides
abbrev pub IsAfter : TableName → Option (TableName × Row) → Type 0 → Option BadKey → Type 0
IsAfter name bad rest None = rest
IsAfter name bad rest (Some key) = bad ≡ Some (name, key_row key)

-- Each of these tables was judged in turn, until the first that has a bad row.
abbrev pub IsFoundIn : List TableName → Database → Option (TableName × Row) → Type 0
IsFoundIn [] db bad = bad ≡ None
IsFoundIn (name ∷ names) db bad =
    (found : Option BadKey) × JudgesTable name db found × IsAfter name bad (IsFoundIn names db bad) found

-- ---- what the database is

-- of a database in which all tables stand, in the newest version
abbrev pub IsByRules : Database → Finding → Type 0
IsByRules db finding.Sound = IsVerdict (tables_of db) None
IsByRules db (finding.Unsound bad) = IsVerdict (tables_of db) (Some (row_name bad))
IsByRules db _ = ⊥

-- WHAT THE AUDIT FINDS: what the database is recognised as, and by the rules where that is the product's newest version
abbrev pub IsAudited : Database → Finding → Type 0
IsAudited db finding.Empty = IsRecognised db recognition.Empty
IsAudited db finding.Foreign = IsRecognised db recognition.Foreign
IsAudited db (finding.Older version) = IsRecognised db (recognition.Older version)
IsAudited db (finding.Newer version) = IsRecognised db (recognition.Newer version)
IsAudited db finding.Sound = IsRecognised db recognition.Ours × (HasTables db × IsByRules db finding.Sound)
IsAudited db (finding.Unsound bad) =
    IsRecognised db recognition.Ours × (HasTables db × IsByRules db (finding.Unsound bad))
