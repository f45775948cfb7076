use Rattle.std.proofs.Common.{◌≡◌, rules, suc, ap, Some, sym, ◌∙◌}
use Rattle.bike_judges.specs.Passes.{first_failing}
use Rattle.bike_judges.proofs.StepLemmas.{good_line, bad_line}
use Rattle.bike_judges.proofs.line_judge.LineJudgeJudge.take.Goals as goal

pub returns-then-not-branch : goal.returns-then-not-branch
returns-then-not-branch g c = λ left verdict is.
    bad_line _ _ _ _ left verdict is (let told = c.in_ok-is_good.ensures in let fails = c.if-not-branch.true in cc) ∙ ap Some (sym c.in_ok-bad_key.ensures)

pub returns : goal.returns
returns g c = λ left verdict is.
    let counted : c.in_ok-self.field-0 ≡ suc c.args.self.now.before = search rules in
    ap (λ n. first_failing (g.T.LineTest.test c.args.self.now.test) (g.T.LineTest.key c.args.self.now.test) n left) counted
    ∙ good_line _ _ _ _ left verdict is (let told = c.in_ok-is_good.ensures in let holds = c.if-not-branch.false in cc)
