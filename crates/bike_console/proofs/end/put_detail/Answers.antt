use Rattle.std.proofs.Common.{◌∙◌, ◌++◌, sym, ap}
use Rattle.std.specs.Prelude.{codes}
use Rattle.bike_audit.specs.Audit.{row_name}
use Rattle.bike_migrate.specs.Raising.{name_at}
use Rattle.bike_console.specs.Ends.{detail_of}
use Rattle.bike_console.specs.Pieces.{key_text}
use Rattle.bike_console.proofs.PieceLemmas.{puts_as, puts_both, puts_three}
use Rattle.bike_console.proofs.end.put_detail.Goals as goal

pub returns-in-Unsound : goal.returns-in-Unsound
returns-in-Unsound g c =
    let w = g.W.Output.contents in
    let a = w c.args.out.now in
    let b = w c.put-going.new.out in
    let d = w c.put-going-in-Unsound.new.out in
    let e = w c.put-going-in-Unsound-2.new.out in
    let f = w c.put_key.new.out in
    let h = c.put-going.result in
    let i = c.put-going-in-Unsound.result in
    let j = c.put-going-in-Unsound-2.result in
    let k = c.put_key.result in
    let name = name_at c.in-Unsound.bad.earlier (row_name c.in-Unsound.bad.row).0 in
    let key = key_text (row_name c.in-Unsound.bad.row).1 in
    let table = puts_as b d c.as_bytes.result.now name h i (c.as_bytes.ensures.value ∙ c.table_name.ensures) c.put-going-in-Unsound.ensures in
    let front = puts_three a b d e (codes " ") name (codes " ") c.args.going h i j c.put-going.ensures table c.put-going-in-Unsound-2.ensures in
    puts_as a f (codes " " ++ name ++ codes " " ++ key) (detail_of c.args.fault.now) c.args.going k (ap detail_of (sym c.in-Unsound.is))
    (puts_both a e f (codes " " ++ name ++ codes " ") key c.args.going j k front c.put_key.ensures)
