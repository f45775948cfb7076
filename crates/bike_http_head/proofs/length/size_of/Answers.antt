use Rattle.std.proofs.Common.{◌+◌, ◌*◌, ◌∙◌, ℕ, min, ap}
use Rattle.bike_http_head.proofs.Digits.{digits_more, value_more}
use Rattle.bike_http_head.proofs.length.size_of.Goals as goal

pub loop-byte-preserved : goal.loop-byte-preserved
loop-byte-preserved c = record {
  digits = digits_more c.args.text.now c.loop-byte.byte-index c.loop-byte-test.true c.loop-byte.invariant.digits c.if-not-is_ascii_digit.ensures.value;
  value = value_more c.args.text.now c.loop-byte.byte-index c.loop-byte.size c.min-size.result c.loop-byte-test.true c.if-not-is_ascii_digit.ensures.value
      c.loop-byte.invariant.value (c.min-size.ensures ∙ ap (λ (k : ℕ). min (c.loop-byte.size * 10 + k) 16385) c.from.ensures);
}
