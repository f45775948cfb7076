use Rattle.std.proofs.Common.{rules, ◌≡◌, Ok, sym, ◌∙◌, ap, FitsSigned, Some}
use Rattle.std.specs.Int.{w64}
use Rattle.std.specs.Fmt.{signed_decimal}
use Rattle.bike_fixed.proofs.Numbers.{signed_none, signed_full, signed_parsed, is_itself, not_below, is_above}
use Rattle.bike_fixed.proofs.whole.read_signed.Goals as goal
use Rattle.bike_fixed.proofs.whole.read_signed.Goals.{then-number-least-via-then-number-least, then-number-least-via-else-number-least+then-number-greatest}

pub returns-in_default-clause-value : goal.returns-in_default-clause-value
returns-in_default-clause-value c =
    sym (signed_none c.args.least c.args.greatest c.args.text.now (λ z h.
    let e = signed_parsed c.args.least c.args.greatest c.args.text.now _ z c.ranges.least c.ranges.greatest c.parse.ensures.value.0 h in cc))

pub returns-then-number-least-clause-value : goal.returns-then-number-least-clause-value
returns-then-number-least-clause-value c =
    let fits : FitsSigned w64 c.in-Ok.number = search rules in
    sym (signed_none c.args.least c.args.greatest c.args.text.now (λ z h.
    let e : Ok z ≡ Ok c.in-Ok.number = sym (signed_parsed c.args.least c.args.greatest c.args.text.now _ z c.ranges.least c.ranges.greatest c.parse.ensures.value.0 h) ∙ c.in-Ok.is in
    let same : z ≡ c.in-Ok.number = cc in
    let low = rw same at h.low_le in
    let high = rw same at h.le_high in
    elim c.then-number-least.branch [
      | then-number-least-via-then-number-least w ↦ not_below c.in-Ok.number c.args.least fits c.ranges.least w.if-number-least.true low
      | then-number-least-via-else-number-least+then-number-greatest w ↦ not_below c.args.greatest c.in-Ok.number c.ranges.greatest fits w.if-number-greatest.true high
    ]))

pub returns-then-ne-clause-value : goal.returns-then-ne-clause-value
returns-then-ne-clause-value c =
    let fits : FitsSigned w64 c.in-Ok.number = search rules in
    sym (signed_none c.args.least c.args.greatest c.args.text.now (λ z h.
    let e : Ok z ≡ Ok c.in-Ok.number = sym (signed_parsed c.args.least c.args.greatest c.args.text.now _ z c.ranges.least c.ranges.greatest c.parse.ensures.value.0 h) ∙ c.in-Ok.is in
    let same : z ≡ c.in-Ok.number = cc in
    let text : c.args.text.now ≡ c.format.result.now = h.spelled ∙ ap signed_decimal (same ∙ sym (is_itself c.in-Ok.number fits)) ∙ sym c.format.ensures.text in
    search rules))

pub returns-clause-value : goal.returns-clause-value
returns-clause-value c =
    let fits : FitsSigned w64 c.in-Ok.number = search rules in
    let text : c.format.result.now ≡ c.args.text.now = search rules in
    ap Some (is_itself c.in-Ok.number fits) ∙ sym (signed_full c.args.least c.args.greatest c.args.text.now c.in-Ok.number fits (record {
      low_le = is_above c.in-Ok.number c.args.least fits c.ranges.least c.if-number-least.false;
      le_high = is_above c.args.greatest c.in-Ok.number c.ranges.greatest fits c.if-number-greatest.false;
      spelled = sym text ∙ c.format.ensures.text ∙ ap signed_decimal (is_itself c.in-Ok.number fits);
    }))
