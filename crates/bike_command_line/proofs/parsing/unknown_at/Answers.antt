use Rattle.std.proofs.Common.{Some, None, inl, inr, sym}
use Rattle.bike_command_line.proofs.Refused.{is_unknown, unknown_bad}
use Rattle.bike_command_line.proofs.parsing.unknown_at.Goals as goal

pub returns-in-Some : goal.returns-in-Some
returns-in-Some c =
    let value = c.in-Some.value in
    let unknown = is_unknown c.args.words.now c.args.word c.args.place c.saturating_sub.result _ (Some value) c.saturating_sub.ensures
    c.requires.within c.requires.against c.requires.begins (sym c.in-Some.ensures) in
    let bad = unknown_bad _ c.args.word _ value unknown in
    (bad.0, inr (c.requires.leads, unknown), bad.1)

pub returns-in-None : goal.returns-in-None
returns-in-None c =
    let unknown = is_unknown c.args.words.now c.args.word c.args.place c.saturating_sub.result _ None c.saturating_sub.ensures
    c.requires.within c.requires.against c.requires.begins (sym c.in-None.ensures) in
    (c.requires.leads, inl unknown)
