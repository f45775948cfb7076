use Rattle.std.proofs.Common.{◌++◌}
use Rattle.std.specs.Prelude.{codes}
use Rattle.std.specs.Fmt.{decimal}
use Rattle.bike_console.proofs.PieceLemmas.{puts_as, puts_both, puts_three}
use Rattle.bike_console.proofs.end.put_row.Goals as goal

pub returns : goal.returns
returns g c =
    let w = g.W.Output.contents in
    let a = w c.args.out.now in
    let b = w c.put-going.new.out in
    let d = w c.put_number-going.new.out in
    let e = w c.put-going-2.new.out in
    let f = w c.put.new.out in
    let h = c.put-going.result in
    let i = c.put_number-going.result in
    let j = c.put-going-2.result in
    let k = c.put.result in
    let number = decimal c.args.number in
    let what = c.args.what.now in
    let front = puts_three a b d e (codes " ") number (codes " ") c.args.going h i j c.put-going.ensures c.put_number-going.ensures c.put-going-2.ensures in
    puts_both a e f (codes " " ++ number ++ codes " ") what c.args.going j k front (puts_as e f c.as_bytes.result.now what j k c.as_bytes.ensures.value c.put.ensures)
