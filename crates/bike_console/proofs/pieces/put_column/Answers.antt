use Rattle.std.proofs.Common.{ap}
use Rattle.sqlite_value.specs.declared.value.Value.TheVariants.{Null}
use Rattle.sqlite_value.specs.Value.{owned}
use Rattle.sqlite_value.specs.Order.{column}
use Rattle.bike_console.specs.Pieces.{bar, value_text}
use Rattle.bike_console.proofs.PieceLemmas.{column_past, puts_as, puts_both}
use Rattle.bike_console.proofs.pieces.put_column.Goals as goal

pub returns-in-Ok : goal.returns-in-Ok
returns-in-Ok g c =
    let w = g.W.Output.contents in
    let value = column c.args.row.now c.args.at in
    puts_both (w c.args.out.now) (w c.put_bar-going.new.out) (w c.put_value.new.out) (bar c.args.at) (value_text value) c.args.going c.put_bar-going.result c.put_value.result c.put_bar-going.ensures
    (puts_as (w c.put_bar-going.new.out) (w c.put_value.new.out) (value_text (owned c.in-Ok.value)) (value_text value) c.put_bar-going.result c.put_value.result
    (ap value_text c.in-Ok.ensures.ok.1) c.put_value.ensures)

pub returns-in-Err : goal.returns-in-Err
returns-in-Err g c =
    let w = g.W.Output.contents in
    let value = column c.args.row.now c.args.at in
    puts_both (w c.args.out.now) (w c.put_bar-going.new.out) (w c.put_value-in-Err.new.out) (bar c.args.at)
    (value_text value) c.args.going c.put_bar-going.result c.put_value-in-Err.result c.put_bar-going.ensures
    (puts_as (w c.put_bar-going.new.out) (w c.put_value-in-Err.new.out) (value_text Null) (value_text value) c.put_bar-going.result c.put_value-in-Err.result
    (ap value_text (column_past c.args.row.now c.args.at c.in-Err.ensures.err.1)) c.put_value-in-Err.ensures)
