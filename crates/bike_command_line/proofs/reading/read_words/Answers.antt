use Rattle.std.proofs.Common.{◌≡◌, map, subst, Bor, List, ℕ}
use Rattle.clap.specs.Words.{subcommand_of}
use Rattle.bike_command_line.specs.Program.{program}
use Rattle.bike_command_line.specs.Asked.{Ask}
use Rattle.bike_command_line.specs.Told.{IsOfValue}
use Rattle.bike_command_line.specs.declared.mistake.Mistake.{Mistake}
use Rattle.bike_command_line.specs.declared.reading.WordsFault.TheVariants.{NoMemory, Usage}
use Rattle.bike_command_line.proofs.Asks.{word_asks}
use Rattle.bike_command_line.proofs.Answer.{told}
use Rattle.bike_command_line.proofs.Bounds.{found_within}
use Rattle.bike_command_line.proofs.Refused.{first_is, value_told}
use Rattle.bike_command_line.proofs.reading.read_words.Goals as goal

pub returns-in-Ok-asked-clause-within : goal.returns-in-Ok-asked-clause-within
returns-in-Ok-asked-clause-within c = found_within _ c.in-Ok-asked.words.task c.in-Ok-asked.ensures.some.0

pub returns-in-Ok-asked-clause-plain : goal.returns-in-Ok-asked-clause-plain
returns-in-Ok-asked-clause-plain c = λ task file is plain within.
    let texts = map (λ (w : Bor (List ℕ)). w.now) c.args.words.now in
    let asks : Ask texts task file = rw is (word_asks task file plain within) in
    told task file c.in-Ok-asked.words (subcommand_of program texts) asks.1 (rw c.in-Ok.ensures.found at c.in-Ok-asked.ensures.some)

pub returns-in-Err-asked-clause-plain : goal.returns-in-Err-asked-clause-plain
returns-in-Err-asked-clause-plain c = λ task file is plain within.
    let texts = map (λ (w : Bor (List ℕ)). w.now) c.args.words.now in
    let asks : Ask texts task file = rw is (word_asks task file plain within) in
    let none = rw c.in-Ok.ensures.found at c.in-Err-asked.ensures.none in
    absurd (none task file asks.1)

pub returns-in-Err-asked-clause-value : goal.returns-in-Err-asked-clause-value
returns-in-Err-asked-clause-value c = λ mistake word leads none is.
    let texts = map (λ (w : Bor (List ℕ)). w.now) c.args.words.now in
    let so = c.in-Err-asked.ensures.told texts (first_is c.args.words.now _ c.if-is_empty.ensures) c.in-Ok.ensures.taken c.in-Ok.ensures.found in
    let same : c.in-Err-asked.mistake ≡ mistake = cc in
    subst (λ (m : Mistake). IsOfValue m) same (value_told texts c.in-Err-asked.mistake word so leads none)

pub fault_in-requires-clause-first : goal.fault_in-requires-clause-first
fault_in-requires-clause-first c = first_is c.args.words.now _ c.if-is_empty.ensures

pub returns-in-Err-clause-plain : goal.returns-in-Err-clause-plain
returns-in-Err-clause-plain c = λ task file is plain within. c.fault_in.ensures.memory (rw is (word_asks task file plain within).0)

pub returns-in-Err-clause-refused : goal.returns-in-Err-clause-refused
returns-in-Err-clause-refused c = λ mistake is task file ask.
    let told : c.fault_in.result ≡ Usage mistake = cc in
    let none : c.fault_in.result ≡ NoMemory = c.fault_in.ensures.memory ask.0 in
    absurd cc

pub returns-in-Err-clause-value : goal.returns-in-Err-clause-value
returns-in-Err-clause-value c = λ mistake word leads free is.
    let told : c.fault_in.result ≡ Usage mistake = cc in
    let none : c.fault_in.result ≡ NoMemory = c.fault_in.ensures.memory free in
    absurd cc
