-- How the program ends: a line on standard error, and its exit status.
use Rattle.std.specs.Prelude.{ℕ, List, [], ◌++◌, codes, None, Result, Ok, Err}
use Rattle.std.specs.Fmt.{decimal}
use Rattle.sqlite.specs.declared.error.Error.{Error}
use Rattle.sqlite.specs.declared.error.Error.TheVariants.{SqliteFailure}
use Rattle.sqlite.specs.declared.error.ErrorCode.TheVariants as code
use Rattle.bike_audit.specs.Audit.{row_name}
use Rattle.bike_migrate.specs.Raising.{name_at}
use Rattle.bike_migrate.specs.declared.fault.RaiseFault.{RaiseFault}
use Rattle.bike_migrate.specs.declared.fault.RaiseCause.{RaiseCause}
use Rattle.bike_migrate.specs.declared.fault.RaiseCause.TheVariants as raise
use Rattle.bike_fixed.specs.declared.day.DayFault.{DayFault}
use Rattle.bike_fixed.specs.declared.day.DayFault.TheVariants as day
use Rattle.bike_commands.specs.Refusals.{name_of as refusal_name}
use Rattle.bike_desk.specs.declared.fault.DeskFault.{DeskFault}
use Rattle.bike_desk.specs.declared.fault.DeskFault.TheVariants as desk
use Rattle.bike_audit.specs.declared.adoption.AdoptFault.{AdoptFault}
use Rattle.bike_audit.specs.declared.adoption.AdoptCause.{AdoptCause}
use Rattle.bike_audit.specs.declared.adoption.AdoptCause.TheVariants as adopt
use Rattle.bike_feeds.specs.declared.fault.FeedFault.{FeedFault}
use Rattle.bike_feeds.specs.declared.fault.FeedFault.TheVariants as feed
use Rattle.bike_batch.specs.declared.day_fault.DayTableFault.{DayTableFault}
use Rattle.bike_batch.specs.declared.day_fault.DayTableFault.TheVariants as table
use Rattle.bike_batch.specs.declared.history_fault.HistoryFault.{HistoryFault}
use Rattle.bike_batch.specs.declared.history_fault.HistoryFault.TheVariants as history
use Rattle.bike_batch.specs.declared.import_fault.ImportFault.{ImportFault}
use Rattle.bike_batch.specs.declared.import_fault.ImportFault.TheVariants as stations
use Rattle.bike_batch.specs.declared.line_fault.LinesFault.{LinesFault}
use Rattle.bike_batch.specs.declared.line_fault.LinesFault.TheVariants as lines
use Rattle.bike_console.specs.declared.end.Fault.{Fault}
use Rattle.bike_console.specs.declared.end.Fault.TheVariants.{SystemMissing, RowRefused, RowUnreadable, BadHeader}
use Rattle.bike_console.specs.declared.end.Fault.TheVariants.{BadDate, BadZone, DayOutOfRange}
use Rattle.bike_console.specs.declared.end.Fault.TheVariants.{StoreFailed, OutOfMemory, Foreign, Unsound, Older, Newer}
use Rattle.bike_console.specs.declared.end.Fault.TheVariants.{ReadFailed, TooManyReads, WriteFailed, NoClock}
use Rattle.bike_console.specs.declared.end.Fault.TheVariants.{Begins, BindFailed, AcceptFailed}
use Rattle.bike_console.specs.Pieces.{key_text}

-- the word that a fault is told by: of a port, a connection, a clock and too many reads that of a read that failed
abbrev pub word_of : Fault → List ℕ
word_of SystemMissing = codes "system missing"
word_of (RowRefused number refusal) = codes "row"
word_of (RowUnreadable number) = codes "row"
word_of BadHeader = codes "bad header"
word_of BadDate = codes "bad date"
word_of BadZone = codes "bad zone"
word_of DayOutOfRange = codes "day out of range"
word_of StoreFailed = codes "store failed"
word_of OutOfMemory = codes "out of memory"
word_of Foreign = codes "foreign"
word_of (Unsound bad) = codes "unsound"
word_of (Older version) = codes "older"
word_of (Newer version) = codes "newer"
word_of (Begins number) = codes "begins"
word_of ReadFailed = codes "read failed"
word_of TooManyReads = codes "read failed"
word_of WriteFailed = codes "write failed"
word_of NoClock = codes "read failed"
word_of BindFailed = codes "read failed"
word_of AcceptFailed = codes "read failed"

-- a row's number, and what is wrong with it
abbrev pub row_detail : ℕ → List ℕ → List ℕ
row_detail number what = codes " " ++ decimal number ++ codes " " ++ what

-- what is told behind the word: a row's number and what is wrong with it, the table and the key of a bad row, the
-- version, or the number behind which the history begins
abbrev pub detail_of : Fault → List ℕ
detail_of (RowRefused number refusal) = row_detail number (refusal_name refusal)
detail_of (RowUnreadable number) = row_detail number (codes "unreadable")
detail_of (Unsound bad) =
    codes " " ++ name_at bad.earlier (row_name bad.row).0 ++ codes " " ++ key_text (row_name bad.row).1
detail_of (Older version) = codes " " ++ decimal version
detail_of (Newer version) = codes " " ++ decimal version
detail_of (Begins number) = codes " " ++ decimal number
detail_of _ = []

abbrev pub fault_status : Fault → ℕ
fault_status SystemMissing = 1
fault_status (RowRefused number refusal) = 1
fault_status (RowUnreadable number) = 1
fault_status BadHeader = 1
fault_status BadDate = 1
fault_status BadZone = 1
fault_status DayOutOfRange = 1
fault_status StoreFailed = 3
fault_status OutOfMemory = 4
fault_status Foreign = 5
fault_status (Unsound bad) = 5
fault_status (Older version) = 5
fault_status (Newer version) = 5
fault_status (Begins number) = 5
fault_status ReadFailed = 6
fault_status TooManyReads = 6
fault_status WriteFailed = 6
fault_status NoClock = 6
fault_status BindFailed = 6
fault_status AcceptFailed = 6

-- a desk that was stopped is one whose store failed
abbrev pub fault_of_desk : DeskFault → Fault
fault_of_desk desk.NoMemory = OutOfMemory
fault_of_desk desk.StoreFailed = StoreFailed
fault_of_desk desk.Stopped = StoreFailed

abbrev pub lines_fault : LinesFault → Fault
lines_fault lines.Read = ReadFailed
lines_fault lines.TooManyReads = TooManyReads
lines_fault lines.Write = WriteFailed
lines_fault (lines.Desk fault) = fault_of_desk fault

abbrev pub feed_fault : FeedFault → Fault
feed_fault feed.SystemMissing = SystemMissing
feed_fault feed.Write = WriteFailed
feed_fault (feed.Desk fault) = fault_of_desk fault

-- why a day has no bounds
abbrev pub day_fault : DayFault → Fault
day_fault day.BadDate = BadDate
day_fault day.BadZone = BadZone
day_fault day.OutOfRange = DayOutOfRange
day_fault day.NoMemory = OutOfMemory

abbrev pub table_fault : DayTableFault → Fault
table_fault (table.Day fault) = day_fault fault
table_fault table.Write = WriteFailed
table_fault (table.Desk fault) = fault_of_desk fault

abbrev pub history_fault : HistoryFault → Fault
history_fault history.Write = WriteFailed
history_fault (history.Desk fault) = fault_of_desk fault

abbrev pub import_fault : ImportFault → Fault
import_fault stations.BadHeader = BadHeader
import_fault (stations.Unreadable number) = RowUnreadable number
import_fault (stations.Row number refusal) = RowRefused number refusal
import_fault stations.Read = ReadFailed
import_fault stations.TooManyRows = ReadFailed
import_fault (stations.Desk fault) = fault_of_desk fault

abbrev pub adoption_fault : AdoptCause → Fault
adoption_fault adopt.Foreign = Foreign
adoption_fault (adopt.Unsound bad) = Unsound (record { earlier = None; row = bad })
adoption_fault (adopt.Older version) = Older version
adoption_fault (adopt.Newer version) = Newer version
adoption_fault adopt.NoMemory = OutOfMemory
adoption_fault adopt.StoreFailed = StoreFailed

abbrev pub adopt_fault : {S : Type 0} → AdoptFault S → Fault
adopt_fault fault = adoption_fault fault.cause

abbrev pub raising_fault : RaiseCause → Fault
raising_fault raise.Foreign = Foreign
raising_fault (raise.Unsound bad) = Unsound bad
raising_fault (raise.Newer version) = Newer version
raising_fault raise.NoMemory = OutOfMemory
raising_fault raise.StoreFailed = StoreFailed

abbrev pub raise_fault : {S : Type 0} → RaiseFault S → Fault
raise_fault fault = raising_fault fault.cause

-- the end of a run over lines, as the program tells it
abbrev pub end_of : Result ℕ LinesFault → Result ℕ Fault
end_of (Ok count) = Ok count
end_of (Err fault) = Err (lines_fault fault)

-- the exit status of a run
abbrev pub status_of : Result ℕ Fault → ℕ
status_of (Ok count) = 0
status_of (Err fault) = fault_status fault

-- what is told of it on standard error
abbrev pub line_of : Result ℕ Fault → List ℕ
line_of (Ok count) = []
line_of (Err fault) = word_of fault ++ detail_of fault ++ codes "\n"

-- a database that can't be opened: want of memory, or the store
abbrev pub open_fault : Error → Fault
open_fault (SqliteFailure code.OutOfMemory) = OutOfMemory
open_fault _ = StoreFailed
