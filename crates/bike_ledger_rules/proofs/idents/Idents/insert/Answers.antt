use Rattle.std.proofs.Common.{◌∙◌}
use Rattle.std.specs.FinSet as set
use Rattle.bike_ledger_rules.proofs.IdentSets.{text_inserted}
use Rattle.bike_ledger_rules.proofs.idents.Idents.insert.Goals as goal

pub returns : goal.returns
returns c =
    text_inserted c.self.inside.idents c.insert.new.self _ c.in_ok-insert.ensures.updates
    ∙ (λ i. set.insert (c.self.view_is i) (c.in_ok-ident.ensures.ok i))
