use Rattle.std.proofs.Common.{◌∙◌, ◌++◌, true, sym, ap}
use Rattle.std.specs.Prelude.{codes}
use Rattle.bike_console.specs.Ends.{word_of, detail_of, line_of}
use Rattle.bike_console.proofs.PieceLemmas.{puts_as, puts_three, puts_line}
use Rattle.bike_console.proofs.end.exit_code.Goals as goal

pub returns-in-Err-clause-told : goal.returns-in-Err-clause-told
returns-in-Err-clause-told g c =
    let w = g.W.Output.contents in
    let a = w c.args.errors.now in
    let b = w c.put-going.new.out in
    let d = w c.put_detail-going.new.out in
    let e = w c.put.new.out in
    let word = word_of c.in-Err.fault in
    let detail = detail_of c.in-Err.fault in
    let first = puts_as a b c.as_bytes.result.now word true c.put-going.result (c.as_bytes.ensures.value ∙ c.word.ensures) c.put-going.ensures in
    let all = puts_three a b d e word detail (codes "\n") true c.put-going.result c.put_detail-going.result c.put.result first c.put_detail-going.ensures c.put.ensures in
    puts_line a e (line_of c.args.end.now) c.put.result (puts_as a e (word ++ detail ++ codes "\n") (line_of c.args.end.now) true c.put.result (ap line_of (sym c.in-Err.is)) all)
