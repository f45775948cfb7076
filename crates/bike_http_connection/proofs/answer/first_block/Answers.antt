use Rattle.std.proofs.Common.{◌<◌, length, vec_items, refl, arith}
use Rattle.bike_http_connection.proofs.Sending.{first_in}
use Rattle.bike_http_connection.proofs.answer.first_block.Goals as goal

pub returns-in-Some-clause-front : goal.returns-in-Some-clause-front
returns-in-Some-clause-front c =
    let some : 0 < length c.args.full.now.items = omega (arith, c.args.full.now.ok.0, c.in-Some.ensures.variant.0 refl) in
    rw c.as_slice.ensures.value (first_in vec_items c.args.full.now.items c.in-Some.block.now c.args.last.now.items some c.in-Some.ensures.lookup)
