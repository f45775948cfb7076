-- The numbers of a task that is found lie within their bounds, and its import's name is an identifier.
use Rattle.std.proofs.Common.{◌≡◌, ◌≤◌, ℕ, refl, subst, Bool, Option, Some, None, IfSome, if◌then◌else◌, option_and_then, option_map, true, false, codes}
use Rattle.std.specs.Str.{bytes_eq}
use Rattle.clap.specs.Words.{Text}
use Rattle.bike_fixed.specs.Whole.{last_moment, number_of}
use Rattle.bike_fixed.proofs.Numbers.{number_sound}
use Rattle.bike_fields.specs.Bytes.{ident_of, is_ident, kept_if}
use Rattle.bike_day_texts.specs.declared.table.DayTable.{DayTable}
use Rattle.bike_feed_texts.specs.declared.feed.Feed.{Feed as AnyFeed}
use Rattle.bike_command_line.specs.Program.{IsWithin}
use Rattle.bike_command_line.specs.Asked.{Found, after_in, count_in, day_task, feed_in, feed_task, history_task, import_in, import_task, moment_in}
use Rattle.bike_command_line.specs.Asked.{name_in, number_given, port_in, serve_task}
use Rattle.bike_command_line.specs.Asked.{Wanted, Feed, Day, History, Import, Serve, table_in, task_in, task_of, value_in, want_of}
use Rattle.bike_command_line.specs.declared.task.Task.{Task}
use Rattle.bike_command_line.specs.declared.task.Task.TheVariants as task
use Rattle.bike_command_line.specs.declared.task.FileTask.TheVariants as file

abbrev Lies : ℕ → ℕ → ℕ → Type 0
Lies low high n = (low ≤ n) × (n ≤ high)

-- the same of what is wanted
abbrev IsGood : Wanted → Type 0
IsGood (Feed feed at) = IfSome at (λ seconds. seconds ≤ last_moment)
IsGood (History after) = IfSome after (λ number. number ≤ 9223372036854775807)
IsGood (Import name at) = (is_ident name ≡ true) × IfSome at (λ seconds. seconds ≤ last_moment)
IsGood (Serve port count) = (port ≤ 65535) × IfSome count (λ n. (1 ≤ n) × (n ≤ 1000000000))
IsGood _ = Unit

good_within : (task : Task) → IsGood (want_of task) → IsWithin task
good_within (task.OnFile file.Init) good = tt
good_within (task.OnFile file.Check) good = tt
good_within (task.OnFile file.Raise) good = tt
good_within (task.OnFile file.Lines) good = tt
good_within (task.OnFile (file.Feed feed at)) good = good
good_within (task.OnFile (file.Day table date zone)) good = tt
good_within (task.OnFile (file.History after)) good = good
good_within (task.OnFile (file.Import name at)) good = good
good_within (task.Serve port count) good = good

if_some : {A : Type 0} (o : Option A) (P : A → Type 0) → ((a : A) → o ≡ Some a → P a) → IfSome o P
if_some None P each = tt
if_some (Some a) P each = each a refl

number_lies : (low high : ℕ) (text : Text) → IfSome (number_of low high text) (Lies low high)
number_lies low high text = if_some (number_of low high text) (Lies low high) (λ n is.
    let number = number_sound low high text n is in (number.low_le, number.le_high))

wanted_lies : (low high : ℕ) (text : Option Text) → IfSome (option_and_then (number_of low high) text) (Lies low high)
wanted_lies low high None = tt
wanted_lies low high (Some text) = number_lies low high text

one_given : (o : Option ℕ) (P : ℕ → Type 0) → IfSome o P → IfSome (option_map (λ (n : ℕ). Some n) o) (λ given. IfSome given P)
one_given None P is = tt
one_given (Some n) P is = is

given_lies : (low high : ℕ) (text : Option Text) → IfSome (number_given low high text) (λ given. IfSome given (Lies low high))
given_lies low high None = tt
given_lies low high (Some text) = one_given (number_of low high text) (Lies low high) (number_lies low high text)

feed_lies : (feed : Option AnyFeed) (at : Option (Option ℕ)) → IfSome at (λ given. IfSome given (Lies 0 last_moment))
    → IfSome (option_and_then (λ (feed : AnyFeed). option_map (λ (at : Option ℕ). Feed feed at) at) feed) IsGood
feed_lies None at lies = tt
feed_lies (Some feed) None lies = tt
feed_lies (Some feed) (Some None) lies = tt
feed_lies (Some feed) (Some (Some seconds)) lies = lies.1

day_lies : (table : Option DayTable) (date zone : Option Text)
    → IfSome (option_and_then (λ (table : DayTable). option_and_then (λ (date : Text). option_map (λ (zone : Text). Day table date zone) zone) date) table) IsGood
day_lies None date place = tt
day_lies (Some table) None place = tt
day_lies (Some table) (Some date) None = tt
day_lies (Some table) (Some date) (Some zone) = tt

history_lies : (after : Option (Option ℕ)) → IfSome after (λ given. IfSome given (Lies 0 9223372036854775807))
    → IfSome (option_map (λ (after : Option ℕ). History after) after) IsGood
history_lies None lies = tt
history_lies (Some None) lies = tt
history_lies (Some (Some number)) lies = lies.1

kept_good : (passes : Bool) (text : Text) → is_ident text ≡ passes → IfSome (kept_if passes text) (λ name. is_ident name ≡ true)
kept_good true text is = is
kept_good false text is = tt

named_lies : (text : Option Text) → IfSome (option_and_then ident_of text) (λ name. is_ident name ≡ true)
unfolding ident_of
named_lies None = tt
named_lies (Some text) = kept_good (is_ident text) text refl

import_lies : (name : Option Text) (at : Option (Option ℕ)) → IfSome name (λ name. is_ident name ≡ true) → IfSome at (λ given. IfSome given (Lies 0 last_moment))
    → IfSome (option_and_then (λ (name : Text). option_map (λ (at : Option ℕ). Import name at) at) name) IsGood
import_lies None at good lies = tt
import_lies (Some name) None good lies = tt
import_lies (Some name) (Some None) good lies = (good, tt)
import_lies (Some name) (Some (Some seconds)) good lies = (good, lies.1)

serve_lies : (port : Option ℕ) (count : Option (Option ℕ)) → IfSome port (Lies 0 65535) → IfSome count (λ given. IfSome given (Lies 1 1000000000))
    → IfSome (option_and_then (λ (port : ℕ). option_map (λ (count : Option ℕ). Serve port count) count) port) IsGood
serve_lies None count lies many = tt
serve_lies (Some port) None lies many = tt
serve_lies (Some port) (Some None) lies many = (lies.1, tt)
serve_lies (Some port) (Some (Some count)) lies many = (lies.1, many)

by_test : (a : Bool) (first second : Option Wanted) → IfSome first IsGood → IfSome second IsGood → IfSome (if a then first else second) IsGood
by_test true first second good other = good
by_test false first second good other = other

task_within : (name : Text) (found : Found) → IfSome (task_of name found) IsGood
unfolding task_of
task_within name found =
    let at = given_lies 0 last_moment (value_in found (codes "at")) in
    let feed = feed_lies (feed_in found) (moment_in found) at in
    let day = day_lies (table_in found) (value_in found (codes "date")) (value_in found (codes "zone")) in
    let history = history_lies (after_in found) (given_lies 0 9223372036854775807 (value_in found (codes "after"))) in
    let stations = import_lies (import_in found) (moment_in found) (named_lies (value_in found (codes "name"))) at in
    let serve = serve_lies (port_in found) (count_in found) (wanted_lies 0 65535 (value_in found (codes "port")))
    (given_lies 1 1000000000 (value_in found (codes "count"))) in
    by_test (bytes_eq name (codes "init")) _ _ tt (by_test (bytes_eq name (codes "check")) _ _ tt (by_test (bytes_eq name (codes "raise")) _ _ tt (by_test (bytes_eq name (codes "lines")) _ _ tt
    (by_test (bytes_eq name (codes "feed")) (feed_task found) _ feed (by_test (bytes_eq name (codes "day")) (day_task found) _ day
    (by_test (bytes_eq name (codes "history")) (history_task found) _ history (by_test (bytes_eq name (codes "import")) (import_task found) _ stations
    (by_test (bytes_eq name (codes "serve")) (serve_task found) None serve tt))))))))

named_within : (name : Option Text) (found : Found) → IfSome (option_and_then (λ (name : Text). task_of name found) name) IsGood
named_within None found = tt
named_within (Some name) found = task_within name found

pub found_within : (found : Found) (task : Task) → task_in found ≡ Some (want_of task) → IsWithin task
found_within found task is = good_within task (subst (λ (o : Option Wanted). IfSome o IsGood) is (named_within (name_in found) found))
