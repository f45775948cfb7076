-- What the words ask for.
use Rattle.std.specs.Prelude.{◌≡◌, ◌==◌, ℕ, List, [], map, Option, Some, None, option_map, option_and_then, codes}
use Rattle.std.specs.Prelude.{if◌then◌else◌, Result, MatchResult}
use Rattle.std.specs.Borrow.{Bor}
use Rattle.std.specs.List.{slice_split}
use Rattle.std.specs.Str.{bytes_eq}
use Rattle.clap.specs.Words.{Row, Text, fault_of, first_of, subcommand_of}
use Rattle.bike_fixed.specs.Whole.{last_moment, number_of}
use Rattle.bike_fields.specs.Bytes.{ident_of}
use Rattle.bike_day_texts.specs.Tables.{table_of}
use Rattle.bike_day_texts.specs.declared.table.DayTable.{DayTable}
use Rattle.bike_feed_texts.specs.Feeds.{feed_of}
use Rattle.bike_feed_texts.specs.declared.feed.Feed.{Feed as AnyFeed}
use Rattle.bike_command_line.specs.Program.{program}
use Rattle.bike_command_line.specs.declared.task.TheConstants.{GREATEST_AFTER, MOST_CONNECTIONS}
use Rattle.bike_command_line.specs.declared.task.Task.{Task}
use Rattle.bike_command_line.specs.declared.task.Task.TheVariants as task
use Rattle.bike_command_line.specs.declared.task.FileTask.TheVariants as file
use Rattle.bike_command_line.specs.declared.reading.Words.{Words}
use Rattle.bike_command_line.specs.declared.reading.WordsFault.{WordsFault}
use Rattle.bike_command_line.specs.declared.reading.WordsFault.TheVariants.{NoMemory}

-- what a task wants, with the texts that it refers to
pub data Wanted : Type 0 where
  Init : Wanted
  Check : Wanted
  Raise : Wanted
  Lines : Wanted
  Feed : AnyFeed → Option ℕ → Wanted
  Day : DayTable → Text → Text → Wanted
  History : Option ℕ → Wanted
  Import : Text → Option ℕ → Wanted
  Serve : ℕ → Option ℕ → Wanted

abbrev pub want_of : Task → Wanted
want_of (task.OnFile file.Init) = Init
want_of (task.OnFile file.Check) = Check
want_of (task.OnFile file.Raise) = Raise
want_of (task.OnFile file.Lines) = Lines
want_of (task.OnFile (file.Feed feed at)) = Feed feed at
want_of (task.OnFile (file.Day table date zone)) = Day table date.now zone.now
want_of (task.OnFile (file.History after)) = History after
want_of (task.OnFile (file.Import name at)) = Import name.now at
want_of (task.Serve port count) = Serve port count

-- what clap finds: the name of a word, with what stands behind it
abbrev pub Found : Type 0
Found = Option (Text × List Row)

abbrev pub name_in : Found → Option Text
name_in found = option_map (λ it. it.0) found

abbrev pub value_in : Found → Text → Option Text
value_in found id = option_and_then (λ it. first_of id it.1) found

-- ---- values behind a word: none is given where one is wanted and there is none, or where its text is none of its kind

-- the number from low to high that is wanted under this id
abbrev pub number_in : ℕ → ℕ → Found → Text → Option ℕ
number_in low high found id = option_and_then (number_of low high) (value_in found id)

-- the number that may be left out
abbrev pub number_given : ℕ → ℕ → Option Text → Option (Option ℕ)
number_given low high None = Some None
number_given low high (Some text) = option_map (λ n. Some n) (number_of low high text)

abbrev pub feed_in : Found → Option AnyFeed
feed_in found = option_and_then feed_of (value_in found (codes "name"))

abbrev pub moment_in : Found → Option (Option ℕ)
moment_in found = number_given 0 last_moment (value_in found (codes "at"))

abbrev pub table_in : Found → Option DayTable
table_in found = option_and_then table_of (value_in found (codes "which"))

-- the number behind which the history is wanted
abbrev pub after_in : Found → Option (Option ℕ)
after_in found = number_given 0 GREATEST_AFTER (value_in found (codes "after"))

abbrev pub import_in : Found → Option Text
import_in found = option_and_then ident_of (value_in found (codes "name"))

abbrev pub port_in : Found → Option ℕ
port_in found = number_in 0 65535 found (codes "port")

abbrev pub count_in : Found → Option (Option ℕ)
count_in found = number_given 1 MOST_CONNECTIONS (value_in found (codes "count"))

-- ---- tasks

abbrev pub feed_task : Found → Option Wanted
feed_task found = option_and_then (λ feed. option_map (λ at. Feed feed at) (moment_in found)) (feed_in found)

abbrev pub day_task : Found → Option Wanted
day_task found =
    option_and_then (λ table. option_and_then
    (λ date. option_map (λ zone. Day table date zone) (value_in found (codes "zone")))
    (value_in found (codes "date")))
    (table_in found)

abbrev pub history_task : Found → Option Wanted
history_task found = option_map (λ after. History after) (after_in found)

abbrev pub import_task : Found → Option Wanted
import_task found = option_and_then (λ name. option_map (λ at. Import name at) (moment_in found)) (import_in found)

abbrev pub serve_task : Found → Option Wanted
serve_task found = option_and_then (λ port. option_map (λ count. Serve port count) (count_in found)) (port_in found)

-- the task of the word of this name
unfoldable pub task_of : Text → Found → Option Wanted
task_of name found =
    if bytes_eq name (codes "init") then Some Init else (
    if bytes_eq name (codes "check") then Some Check else (
    if bytes_eq name (codes "raise") then Some Raise else (
    if bytes_eq name (codes "lines") then Some Lines else (
    if bytes_eq name (codes "feed") then feed_task found else (
    if bytes_eq name (codes "day") then day_task found else (
    if bytes_eq name (codes "history") then history_task found else (
    if bytes_eq name (codes "import") then import_task found else (
    if bytes_eq name (codes "serve") then serve_task found else None))))))))

abbrev pub task_in : Found → Option Wanted
task_in found = option_and_then (λ name. task_of name found) (name_in found)

-- what was found is this task on this file
abbrev pub IsFound : Found → Task → Text → Type 0
IsFound found task file = (task_in found ≡ Some (want_of task)) × (value_in found (codes "file") ≡ Some file)

abbrev pub IsNothing : Found → Type 0
IsNothing found = (task : Task) (file : Text) → IsFound found task file → ⊥

-- the texts of the words
abbrev pub texts_of : List (Bor Text) → List Text
texts_of words = map (λ w. w.now) words

-- the words of a line, which a space parts
abbrev pub parted : Text → List Text
parted line = slice_split (λ b. b == 32) line

-- clap has nothing against the words, and finds this task on this file in them
abbrev pub Ask : List Text → Task → Text → Type 0
Ask texts task file = (fault_of program texts ≡ []) × IsFound (subcommand_of program texts) task file

abbrev pub AskNothing : List Text → Type 0
AskNothing texts = (task : Task) (file : Text) → Ask texts task file → ⊥

-- this task on this file is told, where memory isn't refused
abbrev pub IsTold : Task → Text → Result Words WordsFault → Type 0
IsTold task file answer =
    MatchResult answer (λ words. (want_of words.task ≡ want_of task) × (words.file.now ≡ file))
    (λ fault. fault ≡ NoMemory)
