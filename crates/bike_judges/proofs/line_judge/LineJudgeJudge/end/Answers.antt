use Rattle.std.proofs.Common.{sym, ◌∙◌}
use Rattle.bike_judges.proofs.StepLemmas.{no_line}
use Rattle.bike_judges.proofs.line_judge.LineJudgeJudge.end.Goals as goal

pub returns : goal.returns
returns g c = λ verdict is. sym (no_line (g.T.LineTest.test c.args.self.test) (g.T.LineTest.key c.args.self.test) c.args.self.before) ∙ is
