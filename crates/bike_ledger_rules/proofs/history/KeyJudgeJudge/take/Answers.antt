use Rattle.std.proofs.Common.{◌≡◌, Some, ap, sym, ◌∙◌}
use Rattle.std.specs.Prelude.{option_map}
use Rattle.bike_judges.specs.Judging.{key_row}
use Rattle.bike_judges.specs.Least.{least_key}
use Rattle.bike_ledger_rules.specs.History.{number_again, least_again}
use Rattle.bike_ledger_rules.proofs.HistoryKeys.{next_line}
use Rattle.bike_ledger_rules.proofs.history.KeyJudgeJudge.take.Goals as goal

pub returns : goal.returns
returns c = λ left verdict is.
    let before = option_map key_row c.args.self.now.found in
    let found : option_map key_row c.least.result ≡ least_key before (number_again c.args.self.now.last c.args.line.now) =
    c.least.ensures ∙ ap (λ o. least_key (option_map key_row o) (option_map key_row c.in_ok-again.again)) c.take.ensures.value ∙ ap (least_key before) c.in_ok-again.ensures in
    (λ i. least_again (found i) (Some (c.in_ok-copy.ensures i)) left) ∙ sym (next_line before c.args.self.now.last c.args.line.now left) ∙ is
