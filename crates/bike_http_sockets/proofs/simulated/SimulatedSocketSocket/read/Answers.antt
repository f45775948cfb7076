use Rattle.std.proofs.Common.{◌∙◌, ap, min, length}
use Rattle.bike_http_sockets.proofs.Pieces.{split_read}
use Rattle.bike_http_sockets.proofs.simulated.SimulatedSocketSocket.read.Goals as goal

pub returns-clause-bytes : goal.returns-clause-bytes
returns-clause-bytes c =
    split_read c.args.self.now.client.input.now c.split_at.result.0.now c.split_at.result.1.now c.copy_from_slice.new.self c.args.buf.now c.min-count.result
    c.in_ok-count.count (c.min-count.ensures ∙ ap (λ n. min n (length c.args.self.now.client.input.now)) c.min.ensures) c.in_ok-count.ensures
    c.split_at.ensures.front c.split_at.ensures.back c.copy_from_slice.ensures.after
