-- The program as clap reads it: its words, each with its FILE and with what it takes besides. Nothing is required of
-- clap: what a task wants has to be found (`Asked.IsFound`).
use Rattle.std.specs.Prelude.{◌≡◌, ◌==◌, ◌≤◌, ℕ, [], ◌∷◌, ◌++◌, fold, codes, decimal, Bool, true, nat_eq, if◌then◌else◌}
use Rattle.std.specs.Prelude.{List, Option, Some, None, IfSome}
use Rattle.std.specs.List.{list_any, slice_split, starts_with}
use Rattle.std.specs.Str.Parse.{starts_with_minus}
use Rattle.clap.specs.Words.{App, Rule, Text, new_app, new_rule, with_rule, with_subcommand}
use Rattle.bike_fixed.specs.Whole.{last_moment}
use Rattle.bike_fields.specs.Bytes.{is_ident}
use Rattle.bike_day_texts.specs.Tables.{table_name}
use Rattle.bike_feed_texts.specs.Feeds.{feed_name}
use Rattle.bike_command_line.specs.declared.task.TheConstants.{GREATEST_AFTER, MOST_CONNECTIONS}
use Rattle.bike_command_line.specs.declared.task.Task.{Task}
use Rattle.bike_command_line.specs.declared.word.Word.{Word}
use Rattle.bike_command_line.specs.declared.word.Word.TheVariants as word
use Rattle.bike_command_line.specs.declared.task.Task.TheVariants.{OnFile, Serve}
use Rattle.bike_command_line.specs.declared.task.FileTask.{FileTask}
use Rattle.bike_command_line.specs.declared.task.FileTask.TheVariants.{Init, Check, Raise, Lines, Feed, Day, History}
use Rattle.bike_command_line.specs.declared.task.FileTask.TheVariants.{Import}

abbrev pub name_of : Task → Text
name_of (OnFile Init) = codes "init"
name_of (OnFile Check) = codes "check"
name_of (OnFile Raise) = codes "raise"
name_of (OnFile Lines) = codes "lines"
name_of (OnFile (Feed feed at)) = codes "feed"
name_of (OnFile (Day table date zone)) = codes "day"
name_of (OnFile (History after)) = codes "history"
name_of (OnFile (Import name at)) = codes "import"
name_of (Serve port count) = codes "serve"

-- a value that is told by its place
abbrev pub value_rule : Text → Rule
value_rule id = new_rule id

-- an option with a value
abbrev pub option_rule : Text → Rule
option_rule id = record (new_rule id) { long = Some id }

-- the word of this name, which takes a FILE
abbrev pub on_file : Text → App
on_file name = with_rule (new_app name) (value_rule (codes "file"))

-- .. and the NAME of a feed or an import, and may have its moment
abbrev pub named_word : Text → App
named_word name = with_rule (with_rule (on_file name) (value_rule (codes "name"))) (option_rule (codes "at"))

-- .. and the table WHICH of the day of a DATE in a ZONE
abbrev pub day_word : App
day_word =
    with_rule (with_rule (with_rule (on_file (codes "day")) (value_rule (codes "which"))) (value_rule (codes "date")))
    (value_rule (codes "zone"))

-- .. and may have the number AFTER which the history is asked for
abbrev pub history_word : App
history_word = with_rule (on_file (codes "history")) (value_rule (codes "after"))

-- .. and a port, and may have a count
abbrev pub serve_word : App
serve_word = with_rule (with_rule (on_file (codes "serve")) (option_rule (codes "port"))) (option_rule (codes "count"))

-- its own name is none of the words
abbrev pub top : App
top = let app = new_app (codes "bikeshare") in record app { top = record app.top { no_binary_name = true } }

unfoldable pub program : App
program = fold (λ (app word : App). with_subcommand app word.top) top
    (on_file (codes "init")
    ∷ on_file (codes "check")
    ∷ on_file (codes "raise")
    ∷ on_file (codes "lines")
    ∷ named_word (codes "feed")
    ∷ day_word
    ∷ history_word
    ∷ named_word (codes "import")
    ∷ serve_word
    ∷ [])

-- an option with its number, where there is one
abbrev pub option_words : Text → Option ℕ → List Text
option_words flag None = []
option_words flag (Some n) = flag ∷ decimal n ∷ []

-- a number by its place, where there is one
abbrev pub number_words : Option ℕ → List Text
number_words None = []
number_words (Some n) = decimal n ∷ []

-- Texts by their places, and the options behind them. Where one of
-- the texts would be taken for an option, they stand behind a `--`.
abbrev pub words_in_order : List Text → List Text → List Text
words_in_order texts options =
    if list_any starts_with_minus texts then options ++ codes "--" ∷ texts else texts ++ options

-- the words for a task on a file, in the usual order
abbrev pub words_for : Task → Text → List Text
words_for (OnFile Init) file = codes "init" ∷ file ∷ []
words_for (OnFile Check) file = codes "check" ∷ file ∷ []
words_for (OnFile Raise) file = codes "raise" ∷ file ∷ []
words_for (OnFile Lines) file = codes "lines" ∷ file ∷ []
words_for (OnFile (Feed feed at)) file = codes "feed" ∷ file ∷ feed_name feed ∷ option_words (codes "--at") at
words_for (OnFile (Day table date zone)) file =
    codes "day" ∷ words_in_order (file ∷ table_name table ∷ date.now ∷ zone.now ∷ []) []
words_for (OnFile (History after)) file = codes "history" ∷ file ∷ number_words after
words_for (OnFile (Import name at)) file =
    codes "import" ∷ words_in_order (file ∷ name.now ∷ []) (option_words (codes "--at") at)
words_for (Serve port count) file =
    codes "serve" ∷ file ∷ codes "--port" ∷ decimal port ∷ option_words (codes "--count") count

-- its numbers lie within their bounds, and the name of an import is spelled as an identifier
abbrev pub IsWithinOnFile : FileTask → Type 0
IsWithinOnFile (Feed feed at) = IfSome at (λ seconds. seconds ≤ last_moment)
IsWithinOnFile (History after) = IfSome after (λ number. number ≤ GREATEST_AFTER)
IsWithinOnFile (Import name at) = (is_ident name.now ≡ true) × IfSome at (λ seconds. seconds ≤ last_moment)
IsWithinOnFile _ = Unit

abbrev pub IsWithin : Task → Type 0
IsWithin (OnFile task) = IsWithinOnFile task
IsWithin (Serve port count) = (port ≤ 65535) × IfSome count (λ n. (1 ≤ n) × (n ≤ MOST_CONNECTIONS))

-- the word that asks for the task
abbrev pub word_of : Task → Word
word_of (OnFile Init) = word.Init
word_of (OnFile Check) = word.Check
word_of (OnFile Raise) = word.Raise
word_of (OnFile Lines) = word.Lines
word_of (OnFile (Feed feed at)) = word.Feed
word_of (OnFile (Day table date zone)) = word.Day
word_of (OnFile (History after)) = word.History
word_of (OnFile (Import name at)) = word.Import
word_of (Serve port count) = word.Serve

-- the word with what it takes, as a user is told
abbrev pub form_of : Task → Text
form_of (OnFile (Feed feed at)) = codes "feed FILE NAME [--at M]"
form_of (OnFile (Day table date zone)) = codes "day FILE WHICH DATE ZONE"
form_of (OnFile (History after)) = codes "history FILE [AFTER]"
form_of (OnFile (Import name at)) = codes "import FILE NAME [--at M]"
form_of (Serve port count) = codes "serve FILE --port P [--count N]"
form_of task = name_of task ++ codes " FILE"

-- a line of the text is for this form
abbrev pub has_line : Text → Text → Bool
has_line text form =
    list_any (λ line. starts_with nat_eq line (codes "  " ++ (form ++ codes "  "))) (slice_split (λ b. b == 10) text)

-- a line of the text is for the task's word
abbrev pub tells : Text → Task → Bool
tells text task = has_line text (form_of task)
