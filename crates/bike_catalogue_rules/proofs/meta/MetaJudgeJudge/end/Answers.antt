use Rattle.std.proofs.Common.{sym, ◌∙◌}
use Rattle.bike_catalogue_rules.specs.OneRow.{is_meta}
use Rattle.bike_catalogue_rules.proofs.MetaJudged.{end_behind, end_missing}
use Rattle.bike_catalogue_rules.proofs.meta.MetaJudgeJudge.end.Goals as goal

pub returns-then-self : goal.returns-then-self
returns-then-self c = λ verdict is. sym (end_behind (is_meta c.args.self.archived) c.args.self.seen c.if-self.true) ∙ is

pub returns : goal.returns
returns c = λ verdict is. sym (end_missing (is_meta c.args.self.archived) c.args.self.seen c.if-self.false) ∙ is
