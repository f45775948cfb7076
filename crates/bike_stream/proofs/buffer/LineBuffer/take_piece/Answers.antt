use Rattle.bike_stream.proofs.Pieces.{piece_found, piece_whole}
use Rattle.bike_stream.proofs.buffer.LineBuffer.take_piece.Goals as goal

pub returns-in-Some : goal.returns-in-Some
returns-in-Some g c =
    let b = c.self.inside in
    let p = piece_found g.row.KEPT b.bytes.items _ _ _ _ b.start b.end _ c.deref.ensures.value c.self.view_is (rw c.in-Some.is at c.memchr.ensures) c.add.ensures in
    record { found = p.found; rest = p.rest; line = p.line; drained = p.drained }

pub returns-in-None : goal.returns-in-None
returns-in-None g c =
    let b = c.self.inside in
    let p = piece_whole g.row.KEPT b.bytes.items _ _ _ _ b.start b.end c.deref.ensures.value c.self.view_is (rw c.in-None.is at c.memchr.ensures) c.add-in-None.ensures in
    record { found = p.found; rest = p.rest; line = p.line; drained = p.drained }
