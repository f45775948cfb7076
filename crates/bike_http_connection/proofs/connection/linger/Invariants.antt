use Rattle.std.proofs.Common.{◌≡◌}
use Rattle.bike_http_connection.proofs.connection.linger.Given as goal

-- the client is the same, and took nothing
abbrev pub invariant-loop-turn : goal.invariant-loop-turn
invariant-loop-turn g l = (g.S.Socket.input l.socket ≡ g.S.Socket.input l.fn.socket) × (g.S.Socket.taken l.socket ≡ g.S.Socket.taken l.fn.socket)
