use Rattle.std.proofs.Common.{◌≡◌, ◌+◌, ◌<◌, ◌∷◌, ◌∙◌, ap, sym, length, set, take, arith}
use Rattle.std.proofs.lemmas.List.{length-set, take_more_set}
use Rattle.bike_json.specs.Escapes.{json_escapes}
use Rattle.bike_json.proofs.Escaping.{string_goes_on, string_ends}
use Rattle.bike_json.proofs.escape.quote.Goals as goal

pub loop-i-init : goal.loop-i-init
loop-i-init c =
    let buf = c.args.buf.now in
    (length-set buf 0 34 ∙ c.told-buf, take_more_set buf 0 34 (omega (arith, c.told-buf)))

pub loop-i-preserved : goal.loop-i-preserved
loop-i-preserved c =
    let l = c.loop-i in
    let room : l.i + 1 < length l.buf = omega (arith, l.invariant.0, c.loop-i-test.true, c.if-text.false) in (
      length-set l.buf (l.i + 1) _ ∙ l.invariant.0,
      string_goes_on c.args.text.now l.buf l.i c.loop-i-test.true room (c.stands_for_itself.ensures c.if-not-stands_for_itself.false) l.invariant.1,
    )

pub returns-clause-string : goal.returns-clause-string
returns-clause-string c more =
    let l = c.loop-i in
    let text = c.args.text.now in
    let at : l.i ≡ length text = omega (arith, c.loop-i-test.false, l.auto.i-end) in
    let room : length text + 1 < length l.buf = omega (arith, l.invariant.0, c.if-text.false) in
    let twice : length text + 2 ≡ length text + 1 + 1 = omega arith in
    ap (λ n. take n (set l.buf (length text + 1) 34)) twice ∙ string_ends text l.buf room (ap (λ n. take (n + 1) l.buf) (sym at) ∙ (l.invariant.1 ∙ ap (λ n. 34 ∷ json_escapes (take n text)) at))
