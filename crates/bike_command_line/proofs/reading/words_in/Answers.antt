use Rattle.std.proofs.Common.{◌∙◌, ap, inl, sym, option_and_then}
use Rattle.clap.specs.Words.{subcommand_rows_of}
use Rattle.bike_command_line.specs.Asked.{Found, name_in}
use Rattle.bike_command_line.specs.Names.{word_named}
use Rattle.bike_command_line.proofs.Named.{name_found, no_word, none_first, nothing_asked, task_at}
use Rattle.bike_command_line.proofs.Refused.{bad_told, missing_told}
use Rattle.bike_command_line.proofs.reading.words_in.Goals as goal

pub returns-in_default-clause-none : goal.returns-in_default-clause-none
returns-in_default-clause-none c = no_word _ (sym c.in_default.ensures)

pub returns-in_default-clause-told : goal.returns-in_default-clause-told
returns-in_default-clause-told c = λ texts first none is.
    (inl none, first, none_first texts c.args.first.now first (ap (λ (found : Found). option_and_then word_named (name_in found)) (sym is) ∙ sym c.in_default.ensures))

pub returns-in-Ok-clause-some : goal.returns-in-Ok-clause-some
returns-in-Ok-clause-some c =
    let named = name_found (subcommand_rows_of c.args.matches.now) c.in-Some.word (sym c.in-Some.ensures) in
    (task_at _ c.in-Some.word named ∙ c.in-Ok.ensures.task, c.in-Ok.ensures.file)

pub returns-in-Err-Missing-clause-none : goal.returns-in-Err-Missing-clause-none
returns-in-Err-Missing-clause-none c =
    nothing_asked _ c.in-Some.word (name_found (subcommand_rows_of c.args.matches.now) c.in-Some.word (sym c.in-Some.ensures)) c.in-Err-Missing.ensures.none

pub returns-in-Err-Missing-clause-told : goal.returns-in-Err-Missing-clause-told
returns-in-Err-Missing-clause-told c = λ texts first none is.
    let named = name_found (subcommand_rows_of c.args.matches.now) c.in-Some.word (sym c.in-Some.ensures) in
    missing_told texts _ c.in-Some.word c.in-Err-Missing.value none is named (rw c.in-Err-Missing.field-0-is at c.in-Err-Missing.ensures.wrong)

pub returns-in-Err-Bad-clause-none : goal.returns-in-Err-Bad-clause-none
returns-in-Err-Bad-clause-none c =
    nothing_asked _ c.in-Some.word (name_found (subcommand_rows_of c.args.matches.now) c.in-Some.word (sym c.in-Some.ensures)) c.in-Err-Bad.ensures.none

pub returns-in-Err-Bad-clause-told : goal.returns-in-Err-Bad-clause-told
returns-in-Err-Bad-clause-told c = λ texts first none is.
    let named = name_found (subcommand_rows_of c.args.matches.now) c.in-Some.word (sym c.in-Some.ensures) in
    bad_told texts _ c.in-Some.word c.in-Err-Bad.value c.in-Err-Bad.text none is named (rw c.in-Err-Bad.field-0-is at c.in-Err-Bad.ensures.wrong)
