-- A table of stations as the records of a text.
use Rattle.std.specs.Prelude.{◌≡◌, ◌≢◌, ◌⊎◌, ℕ, true, List, [], ◌∷◌, ◌++◌, length, Option, Some, None, ⊤}
use Rattle.csv.specs.Reading.{Reached, AreRecords, Ready, source_of, default_config, strip_bom, is_flexible}
use Rattle.csv.specs.Reading.{reader_config, reader_state, reader_trim}
use Rattle.csv.specs.Records.{AllText}
use Rattle.csv.specs.declared.parser.State.{State}
use Rattle.csv.specs.declared.parser.State.TheVariants as st
use Rattle.csv.specs.declared.reader.Reader.{Reader}
use Rattle.csv.specs.declared.reader.Trim.TheVariants as trim
use Rattle.bike_desk.specs.declared.fault.DeskFault.TheVariants.{NoMemory, StoreFailed, Stopped}
use Rattle.bike_batch.specs.declared.import_fault.ImportFault.{ImportFault}
use Rattle.bike_batch.specs.declared.import_fault.ImportFault.TheVariants.{BadHeader, Unreadable, Row, Read}
use Rattle.bike_batch.specs.declared.import_fault.ImportFault.TheVariants.{TooManyRows, Desk}
use Rattle.bike_batch.specs.Rows.{Record, header}

-- a row has five fields in UTF-8
abbrev pub IsRow : Record → Type 0
IsRow fields = (length fields ≡ 5) × AllText fields

-- ---- the text, as far as it is known; a byte order mark in front is no part of the table

-- its records are these
abbrev pub HasRecords : Option (List ℕ) → List Record → Type 0
HasRecords None records = ⊤
HasRecords (Some text) records = AreRecords default_config st.StartRecord (strip_bom text) records

-- reading it takes these records, and stands behind them in this state, before the rest
abbrev pub IsBehind : List ℕ → List Record → State → List ℕ → Type 0
IsBehind text records s rest = Reached default_config st.StartRecord (strip_bom text) records s rest

-- its first records are these
abbrev pub BeginsWith : Option (List ℕ) → List Record → Type 0
BeginsWith None records = ⊤
BeginsWith (Some text) records = (s : State) × (rest : List ℕ) × IsBehind text records s rest

-- it has no record, or its first one isn't the header
abbrev pub LacksHeader : Option (List ℕ) → Type 0
LacksHeader input = HasRecords input [] ⊎ ((fields : Record) × (fields ≢ header) × BeginsWith input (fields ∷ []))

-- ---- reading it

-- the reader gives each record as it stands
pub record IsPlain {R : Type 0} (reader : Reader R) : Type 0 where
  pub ready : Ready reader
  pub flexible : is_flexible reader ≡ true
  pub trim : reader_trim reader ≡ trim.None
  pub config : reader_config reader ≡ default_config

-- it stands behind these records of the input
abbrev pub StandsBehind : {R : Type 0} → (R → Option (List ℕ)) → Option (List ℕ) → List Record → Reader R → Type 0
StandsBehind remaining None records reader = ⊤
StandsBehind remaining (Some text) records reader =
    (rest : List ℕ) × (source_of remaining reader ≡ Some rest) × IsBehind text records (reader_state reader) rest

module _ {R : Type 0} (remaining : R → Option (List ℕ)) (old : Reader R) where
  -- wherever the reader stood, the next record had these fields, and it stands behind it
  abbrev pub Takes : Reader R → Record → Type 0
  Takes new fields = (input : Option (List ℕ)) (records : List Record) → StandsBehind remaining input records old
      → StandsBehind remaining input (records ++ fields ∷ []) new

  -- there was no further record
  abbrev pub FindsNone : Type 0
  FindsNone =
      (input : Option (List ℕ)) (records : List Record) → StandsBehind remaining input records old
      → HasRecords input records

  -- the next record isn't UTF-8
  abbrev pub MeetsNoText : Type 0
  MeetsNoText = (input : Option (List ℕ)) (records : List Record) → StandsBehind remaining input records old
      → (fields : Record) × (AllText fields → ⊥) × BeginsWith input (records ++ fields ∷ [])

  -- why no record was taken, where the next one has this number
  abbrev pub MeetsFault : ℕ → ImportFault → Type 0
  MeetsFault number (Unreadable n) = (n ≡ number) × MeetsNoText
  MeetsFault number Read = ⊤
  MeetsFault number (Desk NoMemory) = ⊤
  MeetsFault number (Desk StoreFailed) = ⊥
  MeetsFault number (Desk Stopped) = ⊥
  MeetsFault number TooManyRows = ⊥
  MeetsFault number BadHeader = ⊥
  MeetsFault number (Row n refusal) = ⊥

  -- why no header was taken in front of all records
  abbrev pub MeetsHeaderFault : ImportFault → Type 0
  MeetsHeaderFault BadHeader = (input : Option (List ℕ)) → StandsBehind remaining input [] old → LacksHeader input
  MeetsHeaderFault Read = ⊤
  MeetsHeaderFault (Desk NoMemory) = ⊤
  MeetsHeaderFault (Desk StoreFailed) = ⊥
  MeetsHeaderFault (Desk Stopped) = ⊥
  MeetsHeaderFault TooManyRows = ⊥
  MeetsHeaderFault (Unreadable n) = ⊥
  MeetsHeaderFault (Row n refusal) = ⊥
