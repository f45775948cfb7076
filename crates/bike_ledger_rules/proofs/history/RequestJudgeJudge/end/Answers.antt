use Rattle.std.proofs.Common.{sym, ◌∙◌}
use Rattle.bike_ledger_rules.proofs.HistoryRows.{no_row}
use Rattle.bike_ledger_rules.proofs.history.RequestJudgeJudge.end.Goals as goal

pub returns : goal.returns
returns c = λ verdict is. sym (no_row c.args.self.moment c.args.self.before c.args.self.last) ∙ is
