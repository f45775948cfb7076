-- The words for a task ask for it.
use Rattle.std.proofs.Common.{◌≡◌, ◌∙◌, ℕ, ap, ap₂, refl, arith, map, List, [], ◌∷◌, ◌++◌, Bool, Bor, Option, Some, None, option_and_then, option_map}
use Rattle.std.proofs.Common.{true, false, ◌||◌, if◌then◌else◌, codes, decimal, unwrap_or, find}
use Rattle.std.specs.List.{list_any}
use Rattle.std.specs.Str.Parse.{starts_with_minus}
use Rattle.clap.specs.Kinds.{or_else}
use Rattle.clap.specs.Simple.{built, label_of, new_shape}
use Rattle.clap.specs.Walk.{answers_to}
use Rattle.clap.specs.Words.{Row, Shape, Text, first_of, subcommand_of}
use Rattle.clap.proofs.OnLiterals.{clap_on_literals}
use Rattle.bike_fixed.specs.Whole.{last_moment, number_of}
use Rattle.bike_fields.specs.Bytes.{ident_of, is_ident}
use Rattle.bike_day_texts.specs.Tables.{table_name, table_of}
use Rattle.bike_day_texts.specs.declared.table.DayTable.{DayTable}
use Rattle.bike_day_texts.specs.declared.table.DayTable.TheVariants.{Entries, Rentals, Requests}
use Rattle.bike_feed_texts.specs.Feeds.{feed_name, feed_of}
use Rattle.bike_feed_texts.specs.declared.feed.Feed.{Feed as AnyFeed}
use Rattle.bike_feed_texts.specs.declared.feed.Feed.TheVariants as feeds
use Rattle.bike_command_line.specs.Program.{IsWithin, name_of, program, words_for}
use Rattle.bike_command_line.specs.Asked.{Ask, Found, Wanted, task_in, task_of, value_in, want_of}
use Rattle.bike_command_line.specs.Asked as want
use Rattle.bike_command_line.specs.Names.{word_name}
use Rattle.bike_command_line.specs.declared.word.Word.{Word}
use Rattle.bike_command_line.specs.declared.word.Word.TheVariants as word
use Rattle.bike_command_line.specs.declared.task.Task.{Task}
use Rattle.bike_command_line.specs.declared.task.Task.TheVariants.{OnFile, Serve}
use Rattle.bike_command_line.specs.declared.task.FileTask.TheVariants.{Init, Check, Raise, Lines, Feed, Day, History, Import}
use Rattle.bike_command_line.proofs.Entered.{Enters, fault_entered, subcommand_entered}
use Rattle.bike_command_line.proofs.Numbers.{decimal_plain, read_back}
use Rattle.bike_command_line.proofs.Plain.{ArePlain, Marked, fault_behind, level_marked, other, plain, rows_behind, rows_marked, text_of}

-- ---- the names of the feeds

feed_plain : (feed : AnyFeed) → starts_with_minus (feed_name feed) ≡ false
feed_plain feeds.Gbfs = refl
feed_plain feeds.SystemInformation = refl
feed_plain feeds.VehicleTypes = refl
feed_plain feeds.StationInformation = refl
feed_plain feeds.StationStatus = refl
feed_plain feeds.SystemPricingPlans = refl
feed_plain feeds.SystemRegions = refl

feed_named : (feed : AnyFeed) → feed_of (feed_name feed) ≡ Some feed
unfolding feed_of
feed_named feeds.Gbfs = refl
feed_named feeds.SystemInformation = refl
feed_named feeds.VehicleTypes = refl
feed_named feeds.StationInformation = refl
feed_named feeds.StationStatus = refl
feed_named feeds.SystemPricingPlans = refl
feed_named feeds.SystemRegions = refl

table_named : (table : DayTable) → table_of (table_name table) ≡ Some table
unfolding table_of
table_named Entries = refl
table_named Rentals = refl
table_named Requests = refl

ident_named : (name : Text) → is_ident name ≡ true → ident_of name ≡ Some name
unfolding ident_of
ident_named name good = rw good refl

-- ---- the words of the program

abbrev pub shape_of : Text → Shape
shape_of name = unwrap_or (find (λ s. answers_to name (label_of s)) (built program).subs) (new_shape [])

pub enters : (it : Word) → Enters program (word_name it) (shape_of (word_name it))
unfolding program clap_on_literals
enters word.Init = record { bare = refl; stops = refl; finds = refl; named = refl; turns = refl; ends = refl }
enters word.Check = record { bare = refl; stops = refl; finds = refl; named = refl; turns = refl; ends = refl }
enters word.Raise = record { bare = refl; stops = refl; finds = refl; named = refl; turns = refl; ends = refl }
enters word.Lines = record { bare = refl; stops = refl; finds = refl; named = refl; turns = refl; ends = refl }
enters word.Feed = record { bare = refl; stops = refl; finds = refl; named = refl; turns = refl; ends = refl }
enters word.Day = record { bare = refl; stops = refl; finds = refl; named = refl; turns = refl; ends = refl }
enters word.History = record { bare = refl; stops = refl; finds = refl; named = refl; turns = refl; ends = refl }
enters word.Import = record { bare = refl; stops = refl; finds = refl; named = refl; turns = refl; ends = refl }
enters word.Serve = record { bare = refl; stops = refl; finds = refl; named = refl; turns = refl; ends = refl }

task_enters : (task : Task) → Enters program (name_of task) (shape_of (name_of task))
task_enters (OnFile Init) = enters word.Init
task_enters (OnFile Check) = enters word.Check
task_enters (OnFile Raise) = enters word.Raise
task_enters (OnFile Lines) = enters word.Lines
task_enters (OnFile (Feed feed at)) = enters word.Feed
task_enters (OnFile (Day table date zone)) = enters word.Day
task_enters (OnFile (History after)) = enters word.History
task_enters (OnFile (Import name at)) = enters word.Import
task_enters (Serve port count) = enters word.Serve

-- what stands behind the task's word is this task on this file
record Behind (task : Task) (file : Text) (words : List Marked) : Type 0 where
  free : fault_behind (shape_of (name_of task)) words ≡ []
  tells : task_in (Some (name_of task, rows_behind (shape_of (name_of task)) words)) ≡ Some (want_of task)
  file_is : first_of (codes "file") (rows_behind (shape_of (name_of task)) words) ≡ Some file

asks_by : (task : Task) (file : Text) (words : List Marked) → ArePlain words → Behind task file words → Ask (name_of task ∷ map text_of words) task file
asks_by task file words are is =
    let name = name_of task in
    let s = shape_of name in
    let rest = map text_of words in
    let found : subcommand_of program (name ∷ rest) ≡ Some (name, rows_behind s words) = subcommand_entered program name s rest (task_enters task)
    ∙ ap₂ (λ (n : Text) (rows : List Row). Some (n, rows)) (task_enters task).named (rows_marked s words are) in
    let fault = fault_entered program name s rest (task_enters task) ∙ ap (λ kinds. or_else kinds []) (level_marked s words are ∙ is.free) in
    (fault, (ap task_in found ∙ is.tells, ap (λ (f : Found). value_in f (codes "file")) found ∙ is.file_is))

abbrev pub feed_by : Option AnyFeed → Option ℕ → Option Wanted
feed_by feed at = option_and_then (λ feed. option_map (λ at. want.Feed feed at) (option_map (λ n. Some n) at)) feed

abbrev pub history_by : Option ℕ → Option Wanted
history_by number = option_map (λ (after : Option ℕ). want.History after) (option_map (λ (n : ℕ). Some n) number)

abbrev pub import_by : Option Text → Option ℕ → Option Wanted
import_by name at = option_and_then (λ name. option_map (λ at. want.Import name at) (option_map (λ n. Some n) at)) name

abbrev pub serve_by : Option ℕ → Option ℕ → Option Wanted
serve_by port count = option_and_then (λ port. option_map (λ count. want.Serve port count) (option_map (λ n. Some n) count)) port

behind_init : (file : Text) → Behind (OnFile Init) file (plain file ∷ [])
unfolding program clap_on_literals task_of
behind_init file = record { free = refl; tells = refl; file_is = refl }

behind_check : (file : Text) → Behind (OnFile Check) file (plain file ∷ [])
unfolding program clap_on_literals task_of
behind_check file = record { free = refl; tells = refl; file_is = refl }

behind_raise : (file : Text) → Behind (OnFile Raise) file (plain file ∷ [])
unfolding program clap_on_literals task_of
behind_raise file = record { free = refl; tells = refl; file_is = refl }

behind_lines : (file : Text) → Behind (OnFile Lines) file (plain file ∷ [])
unfolding program clap_on_literals task_of
behind_lines file = record { free = refl; tells = refl; file_is = refl }

behind_feed : (feed : AnyFeed) (file name : Text) → feed_of name ≡ Some feed → Behind (OnFile (Feed feed None)) file (plain file ∷ plain name ∷ [])
unfolding program clap_on_literals task_of
behind_feed feed file name is = record {
  free = refl;
  tells = ap (option_and_then (λ (feed : AnyFeed). Some (want.Feed feed None))) is;
  file_is = refl;
}

behind_feed_at : (feed : AnyFeed) (at : ℕ) (file name text : Text) → feed_of name ≡ Some feed → number_of 0 last_moment text ≡ Some at
    → Behind (OnFile (Feed feed (Some at))) file (plain file ∷ plain name ∷ other (codes "--at") ∷ plain text ∷ [])
unfolding program clap_on_literals task_of
behind_feed_at feed at file name text is seconds = record {
  free = refl;
  tells = ap₂ feed_by is seconds;
  file_is = refl;
}

behind_day : (table : DayTable) (date zone : Bor Text) (file name : Text) → table_of name ≡ Some table
    → Behind (OnFile (Day table date zone)) file (plain file ∷ plain name ∷ plain date.now ∷ plain zone.now ∷ [])
unfolding program clap_on_literals task_of
behind_day table date zone file name is = record {
  free = refl;
  tells = ap (option_and_then (λ (table : DayTable). Some (want.Day table date.now zone.now))) is;
  file_is = refl;
}

-- all texts stand behind a `--`
behind_day_all : (table : DayTable) (date zone : Bor Text) (file name : Text) → table_of name ≡ Some table
    → Behind (OnFile (Day table date zone)) file (other (codes "--") ∷ other file ∷ other name ∷ other date.now ∷ other zone.now ∷ [])
unfolding program clap_on_literals task_of
behind_day_all table date zone file name is = record {
  free = refl;
  tells = ap (option_and_then (λ (table : DayTable). Some (want.Day table date.now zone.now))) is;
  file_is = refl;
}

behind_history : (file : Text) → Behind (OnFile (History None)) file (plain file ∷ [])
unfolding program clap_on_literals task_of
behind_history file = record { free = refl; tells = refl; file_is = refl }

behind_history_after : (number : ℕ) (file text : Text) → number_of 0 9223372036854775807 text ≡ Some number
    → Behind (OnFile (History (Some number))) file (plain file ∷ plain text ∷ [])
unfolding program clap_on_literals task_of
behind_history_after number file text is = record { free = refl; tells = ap history_by is; file_is = refl }

behind_import : (name : Bor Text) (file : Text) → ident_of name.now ≡ Some name.now → Behind (OnFile (Import name None)) file (plain file ∷ plain name.now ∷ [])
unfolding program clap_on_literals task_of
behind_import name file is = record {
  free = refl;
  tells = ap (option_and_then (λ (name : Text). Some (want.Import name None))) is;
  file_is = refl;
}

behind_import_at : (name : Bor Text) (at : ℕ) (file text : Text) → ident_of name.now ≡ Some name.now → number_of 0 last_moment text ≡ Some at
    → Behind (OnFile (Import name (Some at))) file (plain file ∷ plain name.now ∷ other (codes "--at") ∷ plain text ∷ [])
unfolding program clap_on_literals task_of
behind_import_at name at file text is seconds = record { free = refl; tells = ap₂ import_by is seconds; file_is = refl }

behind_import_all : (name : Bor Text) (file : Text) → ident_of name.now ≡ Some name.now
    → Behind (OnFile (Import name None)) file (other (codes "--") ∷ other file ∷ other name.now ∷ [])
unfolding program clap_on_literals task_of
behind_import_all name file is = record {
  free = refl;
  tells = ap (option_and_then (λ (name : Text). Some (want.Import name None))) is;
  file_is = refl;
}

behind_import_at_all : (name : Bor Text) (at : ℕ) (file text : Text) → ident_of name.now ≡ Some name.now → number_of 0 last_moment text ≡ Some at
    → Behind (OnFile (Import name (Some at))) file (other (codes "--at") ∷ plain text ∷ other (codes "--") ∷ other file ∷ other name.now ∷ [])
unfolding program clap_on_literals task_of
behind_import_at_all name at file text is seconds = record { free = refl; tells = ap₂ import_by is seconds; file_is = refl }

behind_serve : (port : ℕ) (file text : Text) → number_of 0 65535 text ≡ Some port
    → Behind (Serve port None) file (plain file ∷ other (codes "--port") ∷ plain text ∷ [])
unfolding program clap_on_literals task_of
behind_serve port file text is = record {
  free = refl;
  tells = ap (option_and_then (λ (port : ℕ). Some (want.Serve port None))) is;
  file_is = refl;
}

behind_serve_count : (port count : ℕ) (file text many : Text) → number_of 0 65535 text ≡ Some port → number_of 1 1000000000 many ≡ Some count
    → Behind (Serve port (Some count)) file (plain file ∷ other (codes "--port") ∷ plain text ∷ other (codes "--count") ∷ plain many ∷ [])
unfolding program clap_on_literals task_of
behind_serve_count port count file text many is counts = record {
  free = refl;
  tells = ap₂ serve_by is counts;
  file_is = refl;
}

-- ---- texts that may begin with a hyphen

both_false : (a b : Bool) → a || b ≡ false → (a ≡ false) × (b ≡ false)
both_false true b is = cc
both_false false b is = (refl, is)

all_plain : (texts : List Text) → list_any starts_with_minus texts ≡ false → ArePlain (map plain texts)
all_plain [] none = tt
all_plain (text ∷ texts) none =
    let both = both_false (starts_with_minus text) (list_any starts_with_minus texts) none in
    (both.0, all_plain texts both.1)

-- a task whose texts are placed is asked for both where they are plain and where not
placed_asks : (task : Task) (file : Text) (texts options : List Text) (some : Bool) → list_any starts_with_minus texts ≡ some
    → (list_any starts_with_minus texts ≡ false → Ask (name_of task ∷ texts ++ options) task file)
    → Ask (name_of task ∷ options ++ codes "--" ∷ texts) task file
    → Ask (name_of task ∷ (if some then options ++ codes "--" ∷ texts else texts ++ options)) task file
placed_asks task file texts options true is usual all = all
placed_asks task file texts options false is usual all = usual is

day_asks : (table : DayTable) (date zone : Bor Text) (file : Text) → Ask (words_for (OnFile (Day table date zone)) file) (OnFile (Day table date zone)) file
day_asks table date zone file =
    let task = OnFile (Day table date zone) in
    let name = table_name table in
    let texts = file ∷ name ∷ date.now ∷ zone.now ∷ [] in
    placed_asks task file texts [] (list_any starts_with_minus texts) refl
    (λ none. asks_by task file (map plain texts) (all_plain texts none) (behind_day table date zone file name (table_named table)))
    (asks_by task file (other (codes "--") ∷ map other texts) tt (behind_day_all table date zone file name (table_named table)))

import_asks : (name : Bor Text) (at : Option ℕ) (file : Text) → IsWithin (OnFile (Import name at)) → Ask (words_for (OnFile (Import name at)) file) (OnFile (Import name at)) file
import_asks name None file within =
    let task = OnFile (Import name None) in
    let texts = file ∷ name.now ∷ [] in
    let is = ident_named name.now within.0 in
    placed_asks task file texts [] (list_any starts_with_minus texts) refl
    (λ none. asks_by task file (map plain texts) (all_plain texts none) (behind_import name file is))
    (asks_by task file (other (codes "--") ∷ map other texts) tt (behind_import_all name file is))
import_asks name (Some at) file within =
    let task = OnFile (Import name (Some at)) in
    let texts = file ∷ name.now ∷ [] in
    let option = other (codes "--at") ∷ plain (decimal at) ∷ [] in
    let is = ident_named name.now within.0 in
    let seconds = read_back 0 last_moment at (omega arith) (omega arith) within.1 in
    let no_minus = decimal_plain at (omega (arith, within.1)) in
    placed_asks task file texts (codes "--at" ∷ decimal at ∷ []) (list_any starts_with_minus texts) refl
    (λ none. let plain_texts = all_plain texts none in
    asks_by task file (plain file ∷ plain name.now ∷ option) (plain_texts.0, (plain_texts.1.0, (no_minus, tt))) (behind_import_at name at file (decimal at) is seconds))
    (asks_by task file (option ++ other (codes "--") ∷ map other texts) (no_minus, tt) (behind_import_at_all name at file (decimal at) is seconds))

pub word_asks : (task : Task) (file : Text) → starts_with_minus file ≡ false → IsWithin task → Ask (words_for task file) task file
word_asks (OnFile Init) file no_minus within = asks_by (OnFile Init) file (plain file ∷ []) (no_minus, tt) (behind_init file)
word_asks (OnFile Check) file no_minus within = asks_by (OnFile Check) file (plain file ∷ []) (no_minus, tt) (behind_check file)
word_asks (OnFile Raise) file no_minus within = asks_by (OnFile Raise) file (plain file ∷ []) (no_minus, tt) (behind_raise file)
word_asks (OnFile Lines) file no_minus within = asks_by (OnFile Lines) file (plain file ∷ []) (no_minus, tt) (behind_lines file)
word_asks (OnFile (Feed feed None)) file no_minus within =
    asks_by (OnFile (Feed feed None)) file (plain file ∷ plain (feed_name feed) ∷ []) (no_minus, (feed_plain feed, tt))
    (behind_feed feed file (feed_name feed) (feed_named feed))
word_asks (OnFile (Feed feed (Some at))) file no_minus within =
    asks_by (OnFile (Feed feed (Some at))) file (plain file ∷ plain (feed_name feed) ∷ other (codes "--at") ∷ plain (decimal at) ∷ [])
    (no_minus, (feed_plain feed, (decimal_plain at (omega (arith, within)), tt)))
    (behind_feed_at feed at file (feed_name feed) (decimal at) (feed_named feed) (read_back 0 last_moment at (omega arith) (omega arith) within))
word_asks (OnFile (Day table date zone)) file no_minus within = day_asks table date zone file
word_asks (OnFile (History None)) file no_minus within = asks_by (OnFile (History None)) file (plain file ∷ []) (no_minus, tt) (behind_history file)
word_asks (OnFile (History (Some number))) file no_minus within =
    asks_by (OnFile (History (Some number))) file (plain file ∷ plain (decimal number) ∷ []) (no_minus, (decimal_plain number (omega (arith, within)), tt))
    (behind_history_after number file (decimal number) (read_back 0 9223372036854775807 number (omega arith) (omega arith) within))
word_asks (OnFile (Import name at)) file no_minus within = import_asks name at file within
word_asks (Serve port None) file no_minus within =
    asks_by (Serve port None) file (plain file ∷ other (codes "--port") ∷ plain (decimal port) ∷ [])
    (no_minus, (decimal_plain port (omega (arith, within.0)), tt))
    (behind_serve port file (decimal port) (read_back 0 65535 port (omega arith) (omega arith) within.0))
word_asks (Serve port (Some count)) file no_minus within =
    asks_by (Serve port (Some count)) file
    (plain file ∷ other (codes "--port") ∷ plain (decimal port) ∷ other (codes "--count") ∷ plain (decimal count) ∷ [])
    (no_minus, (decimal_plain port (omega (arith, within.0)), (decimal_plain count (omega (arith, within.1.1)), tt)))
    (behind_serve_count port count file (decimal port) (decimal count) (read_back 0 65535 port (omega arith) (omega arith) within.0)
    (read_back 1 1000000000 count (omega arith) within.1.0 within.1.1))
