use Rattle.std.proofs.Common.{◌≡◌}
use Rattle.bike_http_request.specs.Received.{Grew}
use Rattle.bike_http_connection.specs.Settled.{IsWhole}
use Rattle.bike_http_connection.proofs.gathering.Gathering.gather.Given as goal

-- all that was read so far stands behind what came before, and isn't whole; the client is the same, and took nothing
abbrev pub invariant-loop-turn : goal.invariant-loop-turn
invariant-loop-turn g l = Grew (g.S.Socket.remaining l.fn.reader) (g.S.Socket.remaining l.reader) l.fn.self.bytes.items l.self.bytes.items
    × (IsWhole l.self.bytes.items → ⊥)
    × (g.S.Socket.input l.reader ≡ g.S.Socket.input l.fn.reader)
    × (g.S.Socket.taken l.reader ≡ g.S.Socket.taken l.fn.reader)
