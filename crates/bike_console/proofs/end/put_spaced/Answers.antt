use Rattle.std.specs.Prelude.{codes}
use Rattle.std.specs.Fmt.{decimal}
use Rattle.bike_console.proofs.PieceLemmas.{puts_both}
use Rattle.bike_console.proofs.end.put_spaced.Goals as goal

pub returns : goal.returns
returns g c =
    let w = g.W.Output.contents in
    puts_both (w c.args.out.now) (w c.put-going.new.out) (w c.put_number.new.out) (codes " ")
    (decimal c.args.number) c.args.going c.put-going.result c.put_number.result c.put-going.ensures c.put_number.ensures
