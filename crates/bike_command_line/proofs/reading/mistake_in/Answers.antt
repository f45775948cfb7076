use Rattle.std.proofs.Common.{◌∙◌, List, ℕ, Some, ap, inr, sym}
use Rattle.bike_command_line.proofs.Named.{named_back}
use Rattle.bike_command_line.proofs.reading.mistake_in.Goals as goal

pub offence-requires-clause-leads : goal.offence-requires-clause-leads
offence-requires-clause-leads c =
    c.requires.first ∙ ap (λ (text : List ℕ). Some text) (named_back c.args.first.now c.in-Some.word (sym c.in-Some.ensures))

pub returns-in_default-kind : goal.returns-in_default-kind
returns-in_default-kind c = (inr (c.args.kind, c.requires.against, c.in_default-kind.not-DisplayHelp), c.requires.first, sym c.in_default.ensures)
