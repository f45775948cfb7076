use Rattle.std.proofs.Common.{rules, ◌≡◌, ◌∷◌, ◌++◌, sym, subst, ◌∙◌}
use Rattle.std.proofs.lemmas.Slice.Eq.{bytes_eq-Decides}
use Rattle.bike_book.specs.ByType.{counts_of}
use Rattle.bike_queries.specs.StationCounts.{AreRising}
use Rattle.bike_queries.proofs.TypeOrder.{told_here}
use Rattle.bike_queries.proofs.counts.counts_here.Goals as goal

pub returns-then-eq-clause-told : goal.returns-then-eq-clause-told
returns-then-eq-clause-told c =
    let first = c.in_ok-first.first.now in
    let others = c.in_ok-first.field-0-1.now in
    let cut : c.args.rest.now ≡ first ∷ others = search rules in
    let same : first.type_id ≡ c.args.type_id.now =
    sym c.as_str.ensures.text ∙ (bytes_eq-Decides c.as_str.result.now c.as_str-2.result.now).0 (sym c.if-eq.ensures) ∙ c.as_str-2.ensures.text in
    λ front rises. told_here front others first (subst (λ r. AreRising (front ++ r)) cut rises) ∙ (λ i. counts_of (same i) (front ++ sym cut i))
