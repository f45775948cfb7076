use Rattle.std.proofs.Common.{◌≡◌}
use Rattle.bike_http_connection.specs.Answers.{Sends}
use Rattle.bike_http_connection.proofs.answer.ResponseBuffer.send.Given as goal

-- what was sent so far, to the same client
abbrev pub invariant-loop-turn : goal.invariant-loop-turn
invariant-loop-turn g l = Sends (g.S.Socket.contents l.fn.writer) (g.S.Socket.contents l.writer) l.fn.self l.self
    × (g.S.Socket.input l.writer ≡ g.S.Socket.input l.fn.writer)
