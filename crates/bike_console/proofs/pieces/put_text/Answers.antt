use Rattle.std.specs.Prelude.{codes}
use Rattle.sqlite_value.specs.declared.value.Value.TheVariants.{Text}
use Rattle.bike_console.specs.Pieces.{value_text}
use Rattle.bike_console.proofs.PieceLemmas.{puts_as, text_plain, text_unread}
use Rattle.bike_console.proofs.pieces.put_text.Goals as goal

pub returns-in-Ok : goal.returns-in-Ok
returns-in-Ok g c =
    let w = g.W.Output.contents in
    let text = c.args.text.now in
    puts_as (w c.args.out.now) (w c.put.new.out) text (value_text (Text text)) c.args.going c.put.result (text_plain text c.in-Ok.ensures.cases.1) c.put.ensures

pub returns-in-Err : goal.returns-in-Err
returns-in-Err g c =
    let w = g.W.Output.contents in
    let text = c.args.text.now in
    puts_as (w c.args.out.now) (w c.put-in-Err.new.out) (codes "?") (value_text (Text text)) c.args.going c.put-in-Err.result (text_unread text c.in-Err.ensures.cases.0) c.put-in-Err.ensures
