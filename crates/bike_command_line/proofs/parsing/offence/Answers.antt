use Rattle.std.proofs.Common.{◌∙◌, ap, sym, inr, option_and_then}
use Rattle.clap.specs.declared.error.kind.ErrorKind.TheVariants.{InvalidValue, TooManyValues}
use Rattle.bike_command_line.specs.Names.{word_named}
use Rattle.bike_command_line.proofs.Named.{name_read}
use Rattle.bike_command_line.proofs.Refused.{is_other_kind, offends}
use Rattle.bike_command_line.proofs.parsing.offence.Goals as goal

pub returns-in-DisplayHelp : goal.returns-in-DisplayHelp
returns-in-DisplayHelp c =
    (rw c.in-DisplayHelp.is at c.requires.against, sym (ap (option_and_then word_named) c.requires.leads ∙ name_read c.args.word))

pub returns-in_ok-place-in-TooManyValues : goal.returns-in_ok-place-in-TooManyValues
returns-in_ok-place-in-TooManyValues c =
    let place = c.in_ok-place-in-TooManyValues.place in
    let known = c.in_ok-place-in-TooManyValues.ensures in
    let is = c.in-TooManyValues.is in
    (c.requires.leads, inr (offends c.args.words.now TooManyValues place _ (rw is at c.requires.against) known.within (rw is at known.begins)))

pub returns-in_ok-place-in-InvalidValue : goal.returns-in_ok-place-in-InvalidValue
returns-in_ok-place-in-InvalidValue c =
    let place = c.in_ok-place-in-InvalidValue.place in
    let known = c.in_ok-place-in-InvalidValue.ensures in
    let is = c.in-InvalidValue.is in
    (c.requires.leads, offends c.args.words.now InvalidValue place _ (rw is at c.requires.against) known.within (rw is at known.begins))

pub returns-in_default : goal.returns-in_default
returns-in_default c =
    let other = is_other_kind c.args.kind c.in_default.not-DisplayHelp c.in_default.not-UnknownArgument c.in_default.not-TooManyValues c.in_default.not-InvalidValue
    c.in_default.not-ArgumentConflict in
    (c.requires.leads, (c.args.kind, c.requires.against, other))
