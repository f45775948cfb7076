use Rattle.std.proofs.Common.{true}
use Rattle.std.specs.Prelude.{codes}
use Rattle.std.specs.Fmt.{decimal}
use Rattle.bike_console.proofs.PieceLemmas.{puts_three, writer_with}
use Rattle.bike_app.proofs.ImportLemmas.{rows_put}
use Rattle.bike_app.proofs.import.put_rows.Goals as goal

pub returns : goal.returns
returns g c =
    let w = g.W.Write.contents in
    let a = w c.args.writer.now in
    let b = w c.put-going.new.out in
    let d = w c.put_number-going.new.out in
    let e = w c.put.new.out in
    rows_put a e c.args.count c.put.result
    (puts_three (writer_with a) (writer_with b) (writer_with d) (writer_with e) (codes "rows ") (decimal c.args.count) (codes "\n")
    true c.put-going.result c.put_number-going.result c.put.result c.put-going.ensures c.put_number-going.ensures c.put.ensures)
