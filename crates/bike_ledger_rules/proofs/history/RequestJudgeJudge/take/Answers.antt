use Rattle.std.proofs.Common.{◌≡◌, rules, ◌+◌, Some, ap, sym, ◌∙◌}
use Rattle.bike_ledger_rules.specs.History.{first_astray}
use Rattle.bike_ledger_rules.proofs.HistoryRows.{next_row, astray_row}
use Rattle.bike_ledger_rules.proofs.history.RequestJudgeJudge.take.Goals as goal

pub returns-in_default : goal.returns-in_default
returns-in_default c = λ left verdict is.
    astray_row c.args.self.now.moment c.args.self.now.before c.args.self.now.last c.args.line.now left verdict is (sym c.in_ok-next.ensures ∙ c.in_default.is)
    ∙ ap Some (sym c.in_ok-number_key.ensures)

pub returns : goal.returns
returns c = λ left verdict is.
    let counted : c.in_ok-self.field-0 ≡ c.args.self.now.before + 1 = search rules in
    ap (λ n. first_astray c.args.self.now.moment n (Some c.in-Some.moment) left) counted
    ∙ next_row c.args.self.now.moment c.args.self.now.before c.args.self.now.last c.args.line.now left verdict is c.in-Some.moment (sym c.in_ok-next.ensures ∙ c.in-Some.is)
