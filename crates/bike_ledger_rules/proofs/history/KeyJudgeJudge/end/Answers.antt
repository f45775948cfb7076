use Rattle.std.proofs.Common.{sym, ◌∙◌}
use Rattle.std.specs.Prelude.{option_map}
use Rattle.bike_judges.specs.Judging.{key_row}
use Rattle.bike_ledger_rules.proofs.HistoryKeys.{no_line}
use Rattle.bike_ledger_rules.proofs.history.KeyJudgeJudge.end.Goals as goal

pub returns : goal.returns
returns c = λ verdict is. sym (no_line (option_map key_row c.args.self.found) c.args.self.last) ∙ is
