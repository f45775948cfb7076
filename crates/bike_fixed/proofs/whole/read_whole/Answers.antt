use Rattle.std.proofs.Common.{◌<◌, ◌^◌, ◌≡◌, Ok, sym, ◌∙◌, arith, rules}
use Rattle.bike_fixed.proofs.Numbers.{number_none, number_full, number_parsed}
use Rattle.bike_fixed.proofs.whole.read_whole.Goals as goal
use Rattle.bike_fixed.proofs.whole.read_whole.Goals.{then-number-least-via-then-number-least, then-number-least-via-else-number-least+then-number-greatest}

pub returns-in_default-clause-value : goal.returns-in_default-clause-value
returns-in_default-clause-value c =
    let small : c.args.greatest < 2 ^ 64 = omega (arith, c.ranges.greatest) in
    sym (number_none c.args.least c.args.greatest c.args.text.now (λ n h.
    let e = number_parsed c.args.least c.args.greatest c.args.text.now _ n small c.parse.ensures.value.0 h in cc))

pub returns-then-number-least-clause-value : goal.returns-then-number-least-clause-value
returns-then-number-least-clause-value c =
    let small : c.args.greatest < 2 ^ 64 = omega (arith, c.ranges.greatest) in
    sym (number_none c.args.least c.args.greatest c.args.text.now (λ n h.
    let e : Ok n ≡ Ok c.in-Ok.number = sym (number_parsed c.args.least c.args.greatest c.args.text.now _ n small c.parse.ensures.value.0 h) ∙ c.in-Ok.is in
    let same : n ≡ c.in-Ok.number = cc in
    let low = h.low_le in
    let high = h.le_high in
    elim c.then-number-least.branch [ then-number-least-via-then-number-least w ↦ omega arith | then-number-least-via-else-number-least+then-number-greatest w ↦ omega arith ]))

pub returns-then-ne-clause-value : goal.returns-then-ne-clause-value
returns-then-ne-clause-value c =
    let small : c.args.greatest < 2 ^ 64 = omega (arith, c.ranges.greatest) in
    sym (number_none c.args.least c.args.greatest c.args.text.now (λ n h.
    let e : Ok n ≡ Ok c.in-Ok.number = sym (number_parsed c.args.least c.args.greatest c.args.text.now _ n small c.parse.ensures.value.0 h) ∙ c.in-Ok.is in
    let same : n ≡ c.in-Ok.number = cc in
    let text : c.args.text.now ≡ c.format.result.now = cc (h.spelled, c.format.ensures.text) in
    search rules))

pub returns-clause-value : goal.returns-clause-value
returns-clause-value c =
    let small : c.args.greatest < 2 ^ 64 = omega (arith, c.ranges.greatest) in
    let text : c.format.result.now ≡ c.args.text.now = search rules in
    sym (number_full c.args.least c.args.greatest c.args.text.now c.in-Ok.number small
    (record { low_le = c.if-number-least.false; le_high = c.if-number-greatest.false; spelled = cc (text, c.format.ensures.text) }))
