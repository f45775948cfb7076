-- The names of the program's words, and of the values that stand behind them.
use Rattle.std.specs.Prelude.{◌≡◌, Option, Some, None, codes, if◌then◌else◌}
use Rattle.std.specs.Str.{bytes_eq}
use Rattle.clap.specs.Words.{Text}
use Rattle.bike_fixed.specs.Whole.{last_moment, number_of}
use Rattle.bike_fields.specs.Bytes.{ident_of}
use Rattle.bike_day_texts.specs.Tables.{table_of}
use Rattle.bike_feed_texts.specs.Feeds.{feed_of}
use Rattle.bike_command_line.specs.declared.task.TheConstants.{GREATEST_AFTER, MOST_CONNECTIONS}
use Rattle.bike_command_line.specs.declared.word.Word.{Word}
use Rattle.bike_command_line.specs.declared.word.Word.TheVariants as word
use Rattle.bike_command_line.specs.declared.value.Value.{Value}
use Rattle.bike_command_line.specs.declared.value.Value.TheVariants as value

abbrev pub word_name : Word → Text
word_name word.Init = codes "init"
word_name word.Check = codes "check"
word_name word.Raise = codes "raise"
word_name word.Lines = codes "lines"
word_name word.Feed = codes "feed"
word_name word.Day = codes "day"
word_name word.History = codes "history"
word_name word.Import = codes "import"
word_name word.Serve = codes "serve"

-- the word of that name
unfoldable pub word_named : Text → Option Word
word_named name =
    if bytes_eq name (codes "init") then Some word.Init else (
    if bytes_eq name (codes "check") then Some word.Check else (
    if bytes_eq name (codes "raise") then Some word.Raise else (
    if bytes_eq name (codes "lines") then Some word.Lines else (
    if bytes_eq name (codes "feed") then Some word.Feed else (
    if bytes_eq name (codes "day") then Some word.Day else (
    if bytes_eq name (codes "history") then Some word.History else (
    if bytes_eq name (codes "import") then Some word.Import else (
    if bytes_eq name (codes "serve") then Some word.Serve else None))))))))

-- under which id clap finds a value
abbrev pub id_of : Value → Text
id_of value.File = codes "file"
id_of value.Feed = codes "name"
id_of value.Table = codes "which"
id_of value.Date = codes "date"
id_of value.Zone = codes "zone"
id_of value.After = codes "after"
id_of value.Import = codes "name"
id_of value.Moment = codes "at"
id_of value.Port = codes "port"
id_of value.Count = codes "count"

-- the value that stands behind an option of the word
unfoldable pub value_behind : Word → Text → Option Value
value_behind word.Feed option = if bytes_eq option (codes "--at") then Some value.Moment else None
value_behind word.Import option = if bytes_eq option (codes "--at") then Some value.Moment else None
value_behind word.Serve option =
    if bytes_eq option (codes "--port") then Some value.Port else (
    if bytes_eq option (codes "--count") then Some value.Count else None)
value_behind word option = None

-- the word wants the value
abbrev pub IsWanted : Word → Value → Type 0
IsWanted word value.File = Unit
IsWanted word.Feed value.Feed = Unit
IsWanted word.Day value.Table = Unit
IsWanted word.Day value.Date = Unit
IsWanted word.Day value.Zone = Unit
IsWanted word.Import value.Import = Unit
IsWanted word.Serve value.Port = Unit
IsWanted word value = ⊥

-- .. or takes it, where it is given
abbrev pub IsTaken : Word → Value → Type 0
IsTaken word.Feed value.Moment = Unit
IsTaken word.History value.After = Unit
IsTaken word.Import value.Moment = Unit
IsTaken word.Serve value.Count = Unit
IsTaken word value = IsWanted word value

-- the text is none of the value's kind; any text is a FILE, a DATE and a ZONE
abbrev pub IsBad : Value → Text → Type 0
IsBad value.Feed text = feed_of text ≡ None
IsBad value.Table text = table_of text ≡ None
IsBad value.After text = number_of 0 GREATEST_AFTER text ≡ None
IsBad value.Import text = ident_of text ≡ None
IsBad value.Moment text = number_of 0 last_moment text ≡ None
IsBad value.Port text = number_of 0 65535 text ≡ None
IsBad value.Count text = number_of 1 MOST_CONNECTIONS text ≡ None
IsBad value text = ⊥
