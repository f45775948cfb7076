use Rattle.std.proofs.Common.{rules, ◌≡◌, [], ◌∷◌, ◌++◌, Less, sym, ap₂, subst, ◌∙◌}
use Rattle.bike_operator.specs.Operator.{text_cmp}
use Rattle.bike_queries.specs.StationCounts.{AreBelow, AreRising}
use Rattle.bike_queries.proofs.TypeOrder.{all_below}
use Rattle.bike_queries.proofs.counts.is_behind.Goals as goal

pub returns-in-Less : goal.returns-in-Less
returns-in-Less c =
    let type_id = c.args.type_id.now in
    let last = c.in-Some.last.now in
    let others = c.in-Some.field-0-1.now in
    let cut : c.args.front.now ≡ others ++ last ∷ [] = search rules in
    let less : text_cmp last.type_id type_id ≡ Less = ap₂ text_cmp (sym c.as_str.ensures.text) (sym c.as_str-in-Some.ensures.text) ∙ sym c.in-Less.ensures in
    λ is rises. subst (AreBelow type_id) (sym cut) (all_below type_id others last (subst AreRising cut rises) less)
