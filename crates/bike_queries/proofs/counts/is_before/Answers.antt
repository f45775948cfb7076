use Rattle.std.proofs.Common.{rules, ◌≡◌, ◌∷◌, Less, sym, ap₂, subst, ◌∙◌}
use Rattle.bike_operator.specs.Operator.{text_cmp}
use Rattle.bike_queries.specs.StationCounts.{AreAbove, AreRising}
use Rattle.bike_queries.proofs.TypeOrder.{all_above}
use Rattle.bike_queries.proofs.counts.is_before.Goals as goal

pub returns-in-Less : goal.returns-in-Less
returns-in-Less c =
    let type_id = c.args.type_id.now in
    let first = c.in-Some.first.now in
    let others = c.in-Some.field-0-1.now in
    let cut : c.args.rest.now ≡ first ∷ others = search rules in
    let less : text_cmp type_id first.type_id ≡ Less = ap₂ text_cmp (sym c.as_str.ensures.text) (sym c.as_str-in-Some.ensures.text) ∙ sym c.in-Less.ensures in
    λ is rises. subst (AreAbove type_id) (sym cut) (all_above type_id first others (subst AreRising cut rises) less)
