use Rattle.std.proofs.Common.{◌≡◌, ℕ, List, Bor, arith, map}
use Rattle.bike_command_line.proofs.Refused.{never}
use Rattle.bike_command_line.proofs.parsing.place_of.Goals as goal

pub unreachable-requires : goal.unreachable-requires
unreachable-requires c =
    let zero : c.loop-place.place ≡ 0 = omega (arith, c.loop-place-test.false) in
    never (map (λ (w : Bor (List ℕ)). w.now) c.args.words.now) c.args.kind (rw zero at c.loop-place.invariant.there)
