use Rattle.std.proofs.Common.{ap, Some, ◌∙◌}
use Rattle.bike_judges.proofs.StepLemmas.{end_none, end_good, end_bad}
use Rattle.bike_judges.proofs.stretch.StretchJudgeJudge.end.Goals as goal

pub returns-in-None : goal.returns-in-None
returns-in-None g c = λ verdict is. end_none _ _ _ _ _ _ verdict is c.in-None.is

pub returns-then-is_good : goal.returns-then-is_good
returns-then-is_good g c = λ verdict is.
    end_good _ _ _ _ _ _ verdict is c.in-Some.account c.in-Some.is (let told = c.is_good.ensures in let holds = c.if-is_good.true in cc)

pub returns-else-is_good : goal.returns-else-is_good
returns-else-is_good g c = λ verdict is.
    ap Some c.bad_key.ensures
    ∙ end_bad _ _ _ _ _ _ verdict is c.in-Some.account c.in-Some.is (let told = c.is_good.ensures in let fails = c.if-is_good.false in cc)
