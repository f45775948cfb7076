use Rattle.std.proofs.Common.{◌≡◌, ◌∙◌, ℕ, ap, ap₂, arith, refl, sym, codes, decimal, [], ◌∷◌, Option, Some, None, option_and_then}
use Rattle.std.proofs.lemmas.Fmt.{decimal_digit}
use Rattle.std.specs.Str.Parse.{digits_value}
use Rattle.clap.specs.Words.{Text, subcommand_of}
use Rattle.clap.proofs.OnLiterals.{clap_on_literals}
use Rattle.bike_fixed.specs.Whole.{last_moment, number_of}
use Rattle.bike_fixed.proofs.Numbers.{number_full}
use Rattle.bike_fields.specs.Bytes.{ident_of}
use Rattle.bike_day_texts.specs.Tables.{table_of}
use Rattle.bike_feed_texts.specs.Feeds.{feed_of}
use Rattle.bike_day_texts.specs.declared.table.DayTable.TheVariants.{Rentals}
use Rattle.bike_feed_texts.specs.declared.feed.Feed.TheVariants.{Gbfs, StationStatus}
use Rattle.bike_command_line.specs.Program.{name_of, program}
use Rattle.bike_command_line.specs.Asked.{Wanted, parted, task_of, value_in}
use Rattle.bike_command_line.specs.Asked as want
use Rattle.bike_command_line.specs.declared.task.Task.{Task}
use Rattle.bike_command_line.specs.declared.task.Task.TheVariants.{OnFile, Serve}
use Rattle.bike_command_line.specs.declared.task.FileTask.TheVariants.{Init, Check, Raise, Lines, Feed, Day, History, Import}
use Rattle.bike_command_line.proofs.Asks.{feed_by, history_by, import_by, serve_by, word_asks}
use Rattle.bike_command_line.proofs.Bounds.{found_within}
use Rattle.bike_command_line.proofs.Numbers.{no_number, number_read}
use Rattle.bike_command_line.proofs.Parse.{faulty, fileless, taskless}
use Rattle.bike_command_line.proofs.laws.word_laws.Goals as goal

bare : (task : Task) → value_in (subcommand_of program (name_of task ∷ [])) (codes "file") ≡ None
unfolding program clap_on_literals
bare (OnFile Init) = refl
bare (OnFile Check) = refl
bare (OnFile Raise) = refl
bare (OnFile Lines) = refl
bare (OnFile (Feed feed at)) = refl
bare (OnFile (Day table date zone)) = refl
bare (OnFile (History after)) = refl
bare (OnFile (Import name at)) = refl
bare (Serve port count) = refl

port_zero : number_of 0 65535 (codes "0") ≡ Some 0
port_zero = number_full 0 65535 (codes "0") 0 (omega arith) (record { low_le = omega arith; le_high = omega arith; spelled = sym (decimal_digit 0 (omega arith)) })

port_eighty : number_of 0 65535 (codes "80") ≡ Some 80
port_eighty = number_read 0 65535 80 (codes "80") (omega arith) (omega arith) (omega arith) refl refl (omega arith) refl

port_high : number_of 0 65535 (codes "8080") ≡ Some 8080
port_high = number_read 0 65535 8080 (codes "8080") (omega arith) (omega arith) (omega arith) refl refl (omega arith) refl

count_one : number_of 1 1000000000 (codes "1") ≡ Some 1
count_one = number_read 1 1000000000 1 (codes "1") (omega arith) (omega arith) (omega arith) refl refl (omega arith) refl

count_zero : number_of 1 1000000000 (codes "0") ≡ None
unfolding number_of
count_zero = refl

moment_read : number_of 0 last_moment (codes "1700000000") ≡ Some 1700000000
moment_read = number_read 0 last_moment 1700000000 (codes "1700000000") (omega arith) (omega arith) (omega arith) refl refl (omega arith) refl

moment_late : number_of 0 last_moment (codes "253402300800") ≡ None
unfolding number_of
moment_late = refl

port_past : number_of 0 65535 (codes "65536") ≡ None
unfolding number_of
port_past = refl

after_read : number_of 0 9223372036854775807 (codes "9223372036854775807") ≡ Some 9223372036854775807
after_read = number_read 0 9223372036854775807 9223372036854775807 (codes "9223372036854775807") (omega arith) (omega arith) (omega arith) refl refl (omega arith) refl

after_past : number_of 0 9223372036854775807 (codes "9223372036854775808") ≡ None
unfolding number_of
after_past = refl

after_led : number_of 0 9223372036854775807 (codes "01") ≡ None
unfolding number_of
after_led = let one : decimal (digits_value 10 (codes "01")) ≡ codes "1" = decimal_digit 1 (omega arith) in rw one refl

abbrev port_alone : Option ℕ → Option Wanted
port_alone = option_and_then (λ (port : ℕ). Some (want.Serve port None))

pub returns : goal.returns
unfolding program clap_on_literals task_of feed_of table_of ident_of
returns c = record {
  file = word_asks;
  within = λ texts task file asks. found_within (subcommand_of program texts) task asks.1.0;
  dashes = (refl, (refl, refl));
  bare = λ task. fileless (name_of task ∷ []) (bare task);
  second = faulty (parted (codes "check f g")) refl;
  flag = faulty (parted (codes "init -f")) refl;
  other = faulty (parted (codes "start f")) refl;
  help = faulty (parted (codes "help")) refl;
  flag_help = faulty (parted (codes "--help")) refl;
  word_help = faulty (parted (codes "lines --help")) refl;
  feed = (refl, (refl, refl));
  feed_at = (refl, (ap (feed_by (Some StationStatus)) moment_read, refl));
  no_feed = taskless (parted (codes "feed f nothing")) refl;
  no_name = taskless (parted (codes "feed f")) refl;
  signed = faulty (parted (codes "feed f gbfs --at -1")) refl;
  tied = taskless (parted (codes "feed f gbfs --at=-1"))
      (ap (feed_by (Some Gbfs)) (no_number 0 last_moment (codes "-1") (omega arith) refl));
  late = taskless (parted (codes "feed f gbfs --at 253402300800")) (ap (feed_by (Some Gbfs)) moment_late);
  day = λ date zone is_date is_zone. (refl, (sym (ap₂ (λ (d z : Text). Some (want.Day Rentals d z)) is_date is_zone), refl));
  no_table = taskless (parted (codes "day f riders 2024-03-31 UTC0")) refl;
  no_zone = taskless (parted (codes "day f entries 2024-03-31")) refl;
  history = (refl, (refl, refl));
  history_after = (refl, (ap history_by after_read, refl));
  past = taskless (parted (codes "history f 9223372036854775808")) (ap history_by after_past);
  led = taskless (parted (codes "history f 01")) (ap history_by after_led);
  below = faulty (parted (codes "history f -1")) refl;
  import = λ name is. (refl, (sym (ap (λ (n : Text). Some (want.Import n None)) is), refl));
  import_at = λ name is. (refl, (ap (import_by (Some (codes "harbor-2"))) moment_read ∙ sym (ap (λ (n : Text). Some (want.Import n (Some 1700000000))) is), refl));
  no_ident = taskless (parted (codes "import f Harbor")) refl;
  unnamed = taskless (parted (codes "import f")) refl;
  serve = (refl, (ap port_alone port_high, refl));
  serve_one = (refl, (ap₂ serve_by port_zero count_one, refl));
  before = (refl, (ap port_alone port_eighty, refl));
  no_port = taskless (parted (codes "serve f")) refl;
  high = taskless (parted (codes "serve f --port 65536")) (ap port_alone port_past);
  plus = taskless (parted (codes "serve f --port +80")) (ap port_alone (no_number 0 65535 (codes "+80") (omega arith) refl));
  no_count = taskless (parted (codes "serve f --port 80 --count 0")) (ap₂ serve_by port_eighty count_zero);
  twice = faulty (parted (codes "serve f --port 1 --port 2")) refl;
  not_its = faulty (parted (codes "lines f --port 80")) refl;
}
