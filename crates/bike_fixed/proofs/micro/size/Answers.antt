use Rattle.std.proofs.Common.{◌<◌, ◌*◌, arith, length}
use Rattle.bike_fixed.proofs.Coordinates.{decimals_below, degrees_below}
use Rattle.bike_fixed.proofs.micro.size.Goals as goal

pub overflow_mul-result-in-Some-2 : goal.overflow_mul-result-in-Some-2
overflow_mul-result-in-Some-2 c =
    let b = c.in_ok-decimals-in-Some.ensures.bound in
    let s : c.in_ok-decimals-in-Some.decimals * c.pow.result < 1000000 = rw c.pow.ensures (decimals_below c.in_ok-decimals-in-Some.decimals (length c.in-Some.part.now) b.1 b.2 b.0) in
    omega arith

pub overflow_add-result : goal.overflow_add-result
overflow_add-result c =
    let b = c.in_ok-decimals-in-Some.ensures.bound in
    let s : c.in_ok-decimals-in-Some.decimals * c.pow.result < 1000000 = rw c.pow.ensures (decimals_below c.in_ok-decimals-in-Some.decimals (length c.in-Some.part.now) b.1 b.2 b.0) in
    let a = c.in_ok-degrees-in-Some.ensures.bound in
    let t = degrees_below c.in_ok-degrees-in-Some.degrees (length c.in-Some.whole.now) a.2 a.0 in
    omega arith
