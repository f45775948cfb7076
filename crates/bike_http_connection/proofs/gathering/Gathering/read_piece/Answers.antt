use Rattle.std.proofs.Common.{inl, inr}
use Rattle.bike_http_connection.proofs.gathering.Gathering.read_piece.Goals as goal

pub returns-then-is_settled-clause-settled : goal.returns-then-is_settled-clause-settled
returns-then-is_settled-clause-settled g c holds = inr (inl (c.is_settled.ensures.settled c.if-is_settled.true))
