use Rattle.std.proofs.Common.{arith, ◌≡◌, ◌+◌, ◌/◌, pos, ap, sym, ◌∙◌}
use Rattle.std.specs.Int.{int_max}
use Rattle.std.proofs.lemmas.Int.{ints, clamps}
use Rattle.bike_fares.specs.Pricing.{cost_of, fare_of}
use Rattle.bike_fares.specs.Counting.{segments_total}
use Rattle.bike_fares.proofs.SumLemmas.{cost_of-division}
use Rattle.bike_fares.proofs.pricing.fare.Goals as goal

pub returns-clause-value : goal.returns-clause-value
returns-clause-value c =
    let plan = c.args.plan.now in
    let seconds = c.elapsed_seconds.result in
    let charges = c.segments_total.ensures.value ∙ ap (λ ss. segments_total ss (seconds / 60 + 1)) c.segments.ensures.value in
    let division = cost_of-division plan seconds c.elapsed_seconds.ensures.high in
    let price = c.price.ensures in
    let got = c.get.ensures.value in
    let made = c.new.ensures in
    let most = c.max.ensures.value in
    let value : fare_of plan c.args.start c.args.end ≡ int_max (cost_of plan seconds) (pos 0) =
    ap (λ e. int_max (cost_of plan e) (pos 0)) (sym c.elapsed_seconds.ensures.value) in
    omega (arith, ints, clamps, charges, division, price, got, made, most, value)
