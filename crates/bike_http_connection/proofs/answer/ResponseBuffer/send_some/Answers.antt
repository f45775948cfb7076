use Rattle.std.proofs.Common.{◌≡◌, ◌∙◌, ◌-◌, ◌≤◌, length, take, drop, map, vec_items, sym, arith}
use Rattle.bike_http_connection.specs.Answers.{bytes_in}
use Rattle.bike_http_connection.proofs.Sending.{slice_sent}
use Rattle.bike_http_connection.proofs.answer.ResponseBuffer.send_some.Goals as goal

pub returns-in-Ok-clause-sends : goal.returns-in-Ok-clause-sends
returns-in-Ok-clause-sends g c =
    let it = c.self.inside in
    let block = c.first_block-block.result.now in
    let start = c.min-start.result in
    let same : it.taken ≡ start = omega (arith, c.min-start.ensures, c.if-start-block.false) in
    let within : start ≤ length block = omega (arith, c.min-start.ensures) in
    record {
      sent = take c.in-Ok.count (take (length block - start) (drop start block));
      left = sym (c.self.view_is ∙ c.free.ensures)
          ∙ slice_sent
          (bytes_in
          (map vec_items it.full.items) it.last.items) block c.first_block-block.ensures.front.0 it.taken start c.in-Ok.count c.first_block-block.ensures.front.1 same c.in-Ok.ensures.bound within;
      written = c.in-Ok.ensures.bytes;
    }
