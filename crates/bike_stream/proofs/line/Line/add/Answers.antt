use Rattle.std.proofs.Common.{◌∙◌}
use Rattle.bike_stream.proofs.Pieces.{piece_added}
use Rattle.bike_stream.proofs.line.Line.add.Goals as goal

pub returns : goal.returns
returns g c =
    rw (← c.self.view_is) (
    piece_added g.row.KEPT c.self.inside.bytes.items c.args.piece.now _ _ c.min-count.result c.len-room.result _ c.extend_from_slice.ensures.items
    (rw c.len-room.ensures c.extend_from_slice.ensures.succeeds) c.min-count.ensures (c.len-room.ensures ∙ c.self.inside.bytes.ok.0)
    (rw c.len-room.ensures c.self.invariant.1) c.self.invariant.0
    )
