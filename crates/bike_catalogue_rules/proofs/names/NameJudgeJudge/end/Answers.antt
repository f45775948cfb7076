use Rattle.std.proofs.Common.{sym, ◌∙◌}
use Rattle.std.specs.Prelude.{option_and_then}
use Rattle.bike_readings.specs.Readings.{name_read}
use Rattle.bike_catalogue_rules.proofs.NamesJudged.{no_line}
use Rattle.bike_catalogue_rules.proofs.names.NameJudgeJudge.end.Goals as goal

pub returns : goal.returns
returns c = λ verdict is. sym (no_line c.args.self.own (option_and_then name_read c.args.self.last) c.args.self.run) ∙ is
