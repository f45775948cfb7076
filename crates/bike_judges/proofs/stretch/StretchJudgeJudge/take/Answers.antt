use Rattle.std.proofs.Common.{◌≡◌, ap, ap₂, Some, None, sym, subst, ◌∙◌}
use Rattle.std.specs.Prelude.{take}
use Rattle.bike_judges.specs.Passes.{pass}
use Rattle.bike_judges.specs.Closing.{Closes}
use Rattle.bike_judges.specs.declared.stretch.StretchJudge.{StretchJudge}
use Rattle.bike_judges.proofs.StepLemmas.{head_line, unread_line, unread_good, item_line}
use Rattle.bike_judges.proofs.stretch.StretchJudgeJudge.take.Goals as goal

pub returns-in_ok-found-in-Head : goal.returns-in_ok-found-in-Head
returns-in_ok-found-in-Head g c = λ left verdict is.
    head_line g.A.Account.begins g.A.Account.more g.A.Account.good g.A.Account.key {J = StretchJudge g.row.A.Denot}
    (λ j lines v. pass g.A.Account.begins g.A.Account.more g.A.Account.good g.A.Account.key (take 1) j.account j.closed lines ≡ v)
    (record { alloc = c.close.new.self.alloc; account = Some c.in-Head.account; closed = c.close.new.self.closed }) c.args.self.now.account c.args.self.now.closed c.args.line.now left verdict is
    c.in-Head.account c.close.new.self.closed c.in_ok-found-in-Head.found (sym c.in_ok-account.ensures ∙ c.in-Head.is) c.in_ok-found-in-Head.ensures.closes (λ so. so)

pub returns-in_ok-copy-in-None : goal.returns-in_ok-copy-in-None
returns-in_ok-copy-in-None g c = λ left verdict is.
    let good : Closes g.A.Account.good g.A.Account.key c.args.self.now.account c.args.self.now.closed c.close-in-Unread.new.self.closed None =
    subst (Closes g.A.Account.good g.A.Account.key c.args.self.now.account c.args.self.now.closed c.close-in-Unread.new.self.closed) c.in-None.is c.in_ok-found-in-Unread.ensures.closes in
    unread_good _ _ _ _ _ _ _ left verdict is c.close-in-Unread.new.self.closed (sym c.in_ok-account.ensures ∙ c.in-Unread.is) good
    ∙ ap (λ row. Some (take 1 row)) (sym c.in_ok-copy-in-None.ensures)

pub returns-in_default : goal.returns-in_default
returns-in_default g c = λ left verdict is.
    unread_line g.A.Account.begins g.A.Account.more g.A.Account.good g.A.Account.key {J = StretchJudge g.row.A.Denot}
    (λ j lines v. pass g.A.Account.begins g.A.Account.more g.A.Account.good g.A.Account.key (take 1) j.account j.closed lines ≡ v)
    c.close-in-Unread.new.self c.args.self.now.account c.args.self.now.closed c.args.line.now left verdict is
    c.close-in-Unread.new.self.closed c.in_ok-found-in-Unread.found (sym c.in_ok-account.ensures ∙ c.in-Unread.is) c.in_ok-found-in-Unread.ensures.closes c.in_default.not-None

pub returns-in_ok-add-in-Item : goal.returns-in_ok-add-in-Item
returns-in_ok-add-in-Item g c = λ left verdict is.
    let added = c.in_ok-add-in-Item.ensures.added in
    let closed = c.in_ok-add-in-Item.ensures.closed in
    ap₂ (λ account n. pass g.A.Account.begins g.A.Account.more g.A.Account.good g.A.Account.key (take 1) account n left) added closed
    ∙ item_line _ _ _ _ _ _ _ left verdict is (sym c.in_ok-account.ensures ∙ c.in-Item.is)
