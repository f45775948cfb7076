use Rattle.std.proofs.Common.{◌+◌, ◌++◌, ◌<◌, length, take, arith}
use Rattle.sqlite_value.specs.Order.{column}
use Rattle.bike_console.specs.Pieces.{bar, key_text, value_text}
use Rattle.bike_console.proofs.PieceLemmas.{key_text_more, puts_as, puts_both}
use Rattle.bike_console.proofs.pieces.put_columns.Goals as goal

pub loop-at-preserved : goal.loop-at-preserved
loop-at-preserved g c =
    let w = g.W.Output.contents in
    let row = c.args.row.now in
    let at = c.loop-at.at in
    let within : at < length row = omega (arith, c.loop-at-test.true, c.loop-at.invariant.1) in
    let before = key_text (take at row) in
    let next = bar at ++ value_text (column row at) in
    let going = c.loop-at.going in
    let result = c.put_column-going.result in
    let all = puts_both (w c.args.out.now) (w c.loop-at.out) (w c.put_column-going.new.out) before next c.args.going going result c.loop-at.invariant.2 c.put_column-going.ensures in (
      omega (arith, c.loop-at-test.true),
      c.loop-at.invariant.1,
      puts_as (w c.args.out.now) (w c.put_column-going.new.out) (before ++ next) (key_text (take (at + 1) row)) c.args.going result
          (key_text_more row at within) all,
    )
