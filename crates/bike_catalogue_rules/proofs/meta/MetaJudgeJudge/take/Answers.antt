use Rattle.std.proofs.Common.{◌≡◌, true, false, Some, ap, sym, ◌∙◌}
use Rattle.bike_judges.specs.Least.{least_key}
use Rattle.bike_catalogue_rules.specs.OneRow.{is_meta, one_key, first_meta}
use Rattle.bike_catalogue_rules.specs.declared.meta.MetaJudge.{MetaJudge}
use Rattle.bike_catalogue_rules.proofs.MetaJudged.{row_behind, good_first, bad_first, found_least}
use Rattle.bike_catalogue_rules.proofs.meta.MetaJudgeJudge.take.Goals as goal

pub returns-then-self : goal.returns-then-self
returns-then-self c = λ left verdict is.
    row_behind (is_meta c.args.self.now.archived) c.args.self.now.seen c.args.line.now left verdict is c.if-self.true ∙ ap Some (sym c.in_ok-number_key.ensures)

pub returns-then-is_meta : goal.returns-then-is_meta
returns-then-is_meta c = λ left verdict is.
    let told = c.is_meta.ensures in
    let holds = c.if-is_meta.true in
    let good : is_meta c.args.self.now.archived c.args.line.now ≡ true = cc in
    good_first (is_meta c.args.self.now.archived) c.args.self.now.seen c.args.line.now left verdict is c.if-self.false good

pub returns : goal.returns
returns c = λ left verdict is.
    let told = c.is_meta.ensures in
    let fails = c.if-is_meta.false in
    let bad : is_meta c.args.self.now.archived c.args.line.now ≡ false = cc in
    found_least (λ (j : MetaJudge) lines found. first_meta (is_meta j.archived) j.seen lines ≡ found) c.args.self.now left verdict c.least.result _ one_key c.least.ensures
    (bad_first (is_meta c.args.self.now.archived) c.args.self.now.seen c.args.line.now left verdict is c.if-self.false bad
    ∙ ap (λ key. least_key (Some key) (Some one_key)) (sym c.in_ok-number_key-2.ensures))
