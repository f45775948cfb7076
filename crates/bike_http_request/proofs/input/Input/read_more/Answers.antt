use Rattle.std.proofs.Common.{◌≡◌, ℕ, length, take, ap, arith, length-take, length-drop}
use Rattle.bike_http_request.proofs.Receiving.{reads_more}
use Rattle.bike_http_request.proofs.input.Input.read_more.Goals as goal

pub returns-in-Ok-clause-more : goal.returns-in-Ok-clause-more
returns-in-Ok-clause-more g c =
    let full : length c.self.inside.bytes ≡ 24576 = search in
    let here : c.args.self.now ≡ take c.self.inside.length c.self.inside.bytes = search in
    let bound = c.in-Ok.ensures.bound in
    reads_more _ _ _ c.self.inside.bytes c.read.new.buf _ c.self.inside.length c.in-Ok.count here (omega (arith, full, c.self.invariant)) bound.0 c.in-Ok.ensures.bytes.0
    (λ zero. c.in-Ok.ensures.bytes.1 zero (omega (arith, full, ap length here, c.requires.room, c.requires.end, length-take {A = ℕ}, length-drop {A = ℕ})))
