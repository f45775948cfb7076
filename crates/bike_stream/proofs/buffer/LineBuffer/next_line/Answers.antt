use Rattle.std.proofs.Common.{arith, ◌<◌, length, sym, ◌∙◌}
use Rattle.std.specs.Io.KnownBytes.{prepend_known}
use Rattle.bike_stream.specs.Reads.{most_ahead}
use Rattle.bike_stream.proofs.ReadLemmas.{IsFilled, filled_now, through_shorter}
use Rattle.bike_stream.proofs.Takings.{taking_end, taking_found, taking_more, is_nil, not_nil}
use Rattle.bike_stream.proofs.buffer.LineBuffer.next_line.Given.{Over}
use Rattle.bike_stream.proofs.buffer.LineBuffer.next_line.Goals as goal
use Rattle.bike_stream.proofs.buffer.LineBuffer.next_line.Goals.{After-take_piece, then-is_empty+else-reads-eq0+in-Ok-true, else-is_empty}

pub returns-in-Ok-false-clause-taken : goal.returns-in-Ok-false-clause-taken
returns-in-Ok-false-clause-taken g c =
    let l = c.loop-started in
    let end = c.in-Ok-false.ensures.end c.in-Ok-false.field-0-test in
    taking_end g.row.KEPT (prepend_known c.args.self.now (g.R.Read.remaining c.args.reader.now)) (g.R.Read.remaining l.reader) _ l.started l.self _ l.line
    (is_nil _ _ c.is_empty.ensures c.if-is_empty.true) end.0 l.invariant.taking c.in-Ok-false.ensures.bytes end.1

-- before a piece is taken something is held, whether it was there or was read
filled : (g : Over) (c : After-take_piece g) → IsFilled g.row.KEPT (prepend_known c.args.self.now (g.R.Read.remaining c.args.reader.now)) (g.R.Read.remaining c.args.reader.now)
    (g.R.Read.remaining c.if-is_empty.reader)
    c.loop-started.started c.if-is_empty.self c.loop-started.line c.args.reads.now c.if-is_empty.reads (most_ahead c.args.self.now c.args.reads.now)
filled g c =
    let l = c.loop-started in
    let known = prepend_known c.args.self.now (g.R.Read.remaining c.args.reader.now) in
    elim c.if-is_empty.branch [
      | then-is_empty+else-reads-eq0+in-Ok-true w ↦ rw (w.self-is, w.reader-is, w.reads-is)
          (filled_now g.row.KEPT known _ (g.R.Read.remaining l.reader) _ l.started l.self _ l.line _ l.reads _ (is_nil _ _ c.is_empty.ensures w.if-is_empty.true)
          w.if-reads-eq0.false l.invariant.taking l.invariant.ahead l.invariant.made l.invariant.bytes w.in-Ok-true.ensures.bytes
          (w.in-Ok-true.ensures.more w.in-Ok-true.field-0-test) w.fill.ensures.bound)
      | else-is_empty w ↦ rw (w.self-is, w.reader-is, w.reads-is) (record {
        taking = l.invariant.taking;
        any = not_nil _ _ c.is_empty.ensures w.if-is_empty.false;
        within = l.invariant.ahead;
        made = l.invariant.made;
        bytes = l.invariant.bytes;
      })
    ]

pub returns-then-take_piece-clause-taken : goal.returns-then-take_piece-clause-taken
returns-then-take_piece-clause-taken g c =
    let it = filled g (goal.at.returns-then-take_piece-clause-taken g c).After-take_piece in
    let piece = c.take_piece.ensures in
    taking_found g.row.KEPT (prepend_known c.args.self.now (g.R.Read.remaining c.args.reader.now)) _ c.loop-started.started c.if-is_empty.self c.loop-started.line _ _ it.taking it.any
    (sym c.if-take_piece.true ∙ piece.found) piece.rest piece.line

pub returns-then-take_piece-clause-fewer : goal.returns-then-take_piece-clause-fewer
returns-then-take_piece-clause-fewer g c found =
    let it = filled g (goal.at.returns-then-take_piece-clause-fewer g c).After-take_piece in
    let shorter : length c.take_piece.new.self < length c.if-is_empty.self = rw c.take_piece.ensures.rest (through_shorter c.if-is_empty.self it.any) in
    omega (arith, it.within, shorter)

pub loop-started-preserved : goal.loop-started-preserved
loop-started-preserved g c =
    let it = filled g (goal.at.loop-started-preserved g c).After-take_piece in
    let piece = c.take_piece.ensures in
    let none = piece.drained c.if-take_piece.false in
    record {
      taking =
          taking_more g.row.KEPT (prepend_known c.args.self.now (g.R.Read.remaining c.args.reader.now)) _ c.loop-started.started c.if-is_empty.self c.loop-started.line _ _ it.taking it.any
          (sym c.if-take_piece.false ∙ piece.found) none piece.line;
      ahead = rw none (omega (arith, it.within, it.any));
      made = it.made;
      bytes = it.bytes;
    }
