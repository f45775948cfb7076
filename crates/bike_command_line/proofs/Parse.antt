-- What a parse of the program's words gives.
use Rattle.std.proofs.Common.{◌≡◌, ◌∙◌, ap, refl, sym, subst, codes, Result, ◌⊎◌, List, [], Some, None, option_map, true, false}
use Rattle.clap.specs.Kinds.{Kinds, HasKind, FailsBy, IsAmong}
use Rattle.clap.specs.Walk.{is_empty}
use Rattle.clap.specs.Words.{App, HasMatchesOf, kind_of, subcommand_rows_of, Text, fault_of, first_of, first_value, is_simple, is_simple_and_free, rows_of, subcommand_of}
use Rattle.clap.specs.declared.parser.matches.Found.{Found as Matched}
use Rattle.clap.specs.declared.parser.matches.ArgMatches.{ArgMatches}
use Rattle.clap.specs.declared.error.Error.{Error}
use Rattle.clap.specs.declared.error.kind.ErrorKind.{ErrorKind}
use Rattle.clap.specs.declared.error.kind.ErrorKind.TheVariants.{OutOfMemory}
use Rattle.clap.proofs.WalkLemmas.{first_value-rows}
use Rattle.clap.proofs.OnLiterals.{clap_on_literals}
use Rattle.bike_command_line.specs.Program.{program}
use Rattle.bike_command_line.specs.Asked.{AskNothing, Found, task_in, value_in, want_of}
use Rattle.bike_command_line.specs.Told.{Against}

pub value_found : (found : Found) (matched : Matched) (id : Text) → Some (rows_of matched) ≡ option_map (λ it. it.1) found
    → first_value matched id ≡ value_in found id
value_found None matched id rows = cc
value_found (Some it) matched id rows =
    let same : rows_of matched ≡ it.1 = cc in
    first_value-rows matched id ∙ ap (first_of id) same

-- the program is simple, so that clap tells its matches and its refusals
program_simple : is_simple program ≡ true
unfolding program clap_on_literals
program_simple = refl

program_free : is_simple_and_free program ≡ true
unfolding program clap_on_literals
program_free = refl

pub program_matches : (app : App) (texts : List Text) (m : ArgMatches) → app ≡ program → HasMatchesOf app texts m
    → subcommand_rows_of m ≡ subcommand_of program texts
program_matches app texts m same has = (has (ap is_simple same ∙ program_simple)).1 ∙ ap (λ (a : App). subcommand_of a texts) same

pub program_fails : (app : App) (texts : List Text) (answer : Result ArgMatches Error) → app ≡ program
    → (is_simple_and_free app ≡ true → FailsBy (fault_of app texts) answer) → FailsBy (fault_of program texts) answer
program_fails app texts answer same fails =
    subst (λ (a : App). FailsBy (fault_of a texts) answer) same (fails (ap is_simple_and_free same ∙ program_free))

-- the kind that is told of an error
pub has_among : (kind : ErrorKind) (error : Error) (kinds : Kinds) → kind ≡ kind_of error → HasKind kinds error → (kind ≡ OutOfMemory) ⊎ IsAmong kind kinds
has_among kind error kinds is has = rw is has

-- what clap has a kind against
pub against_nothing : (texts : List Text) (kind : ErrorKind) → Against texts kind → fault_of program texts ≡ [] → ⊥
against_nothing texts kind against none = let bad : IsAmong kind [] = rw none at against in bad

pub refused_by : (texts : List Text) (kind : ErrorKind) → Against texts kind → AskNothing texts
refused_by texts kind against task file ask = against_nothing texts kind against ask.0

-- what clap has something against
pub faulty : (texts : List Text) → is_empty (fault_of program texts) ≡ false → AskNothing texts
faulty texts some task file ask =
    let bad : true ≡ false = sym (ap is_empty ask.0) ∙ some in
    absurd cc

-- .. and what is no task where it hasn't
pub taskless : (texts : List Text) → task_in (subcommand_of program texts) ≡ None → AskNothing texts
taskless texts none task file ask =
    let bad : None ≡ Some (want_of task) = sym none ∙ ask.1.0 in
    absurd cc

-- .. or has no FILE
pub fileless : (texts : List Text) → value_in (subcommand_of program texts) (codes "file") ≡ None → AskNothing texts
fileless texts none task file ask =
    let bad : None ≡ Some file = sym none ∙ ask.1.1 in
    absurd cc
