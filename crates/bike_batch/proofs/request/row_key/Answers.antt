use Rattle.std.proofs.Common.{◌≡◌, ◌≤◌, ap, refl, length, decimal, arith}
use Rattle.bike_batch.specs.Rows.{key_of}
use Rattle.bike_batch.proofs.Keys.{is_key_of}
use Rattle.bike_batch.proofs.request.row_key.Goals as goal

pub returns-clause-good : goal.returns-clause-good
returns-clause-good c =
    let bytes : c.push_str-2.new.self.bytes ≡ key_of c.args.number = rw (c.push_str-2.ensures.bytes, c.push_str.ensures.bytes, c.format.ensures.text, c.new-key.ensures) refl in
    let short : length (decimal c.args.number) ≤ 60 = omega (arith, ap length c.format.ensures.text, c.format.ensures.short) in
    rw bytes (is_key_of c.args.number c.ranges.number.fits short)
