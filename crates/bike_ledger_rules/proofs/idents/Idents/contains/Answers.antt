use Rattle.std.proofs.Common.{◌∙◌, ap}
use Rattle.std.specs.FinSet as set
use Rattle.bike_ledger_rules.proofs.IdentSets.{Ids, text_found}
use Rattle.bike_ledger_rules.proofs.idents.Idents.contains.Goals as goal

pub returns : goal.returns
returns c =
    c.contains.ensures ∙ text_found c.self.inside.idents c.args.ident.now
    ∙ ap (λ (ids : Ids). set.contains ids c.args.ident.now) c.self.view_is
