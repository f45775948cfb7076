use Rattle.std.proofs.Common.{refl, ◌≡◌, sym, ◌∙◌, true, false}
use Rattle.bike_fixed.specs.Coordinate.{digits_of, are_digits}
use Rattle.bike_fixed.proofs.Coordinates.{few_digits, digits_below, digits_parsed}
use Rattle.bike_fixed.proofs.micro.digits.Goals as goal

pub returns-then-not-are_few_digits-clause-value : goal.returns-then-not-are_few_digits-clause-value
unfolding digits_of
returns-then-not-are_few_digits-clause-value c =
    let e : are_digits c.args.most c.args.text.now ≡ false = sym c.are_few_digits.ensures ∙ c.if-not-are_few_digits.true in
    rw e refl

pub returns-clause-value : goal.returns-clause-value
unfolding digits_of
returns-clause-value c =
    let e : are_digits c.args.most c.args.text.now ≡ true = sym c.are_few_digits.ensures ∙ c.if-not-are_few_digits.false in
    let r = digits_parsed c.args.most c.args.text.now c.parse.result c.requires c.parse.ensures.value.0 e in
    c.ok.ensures.value ∙ rw (r, e) refl

pub returns-clause-bound : goal.returns-clause-bound
returns-clause-bound c =
    let e : are_digits c.args.most c.args.text.now ≡ true = sym c.are_few_digits.ensures ∙ c.if-not-are_few_digits.false in
    let r = digits_parsed c.args.most c.args.text.now c.parse.result c.requires c.parse.ensures.value.0 e in
    let f = few_digits c.args.most c.args.text.now e in
    rw (c.ok.ensures.value, r) (digits_below c.args.most c.args.text.now f, f.some, f.few)
