use Rattle.std.proofs.Common.{◌∙◌, map, vec_items}
use Rattle.bike_http_connection.proofs.Sending.{freed_is}
use Rattle.bike_http_connection.proofs.answer.ResponseBuffer.free.Goals as goal

pub returns : goal.returns
returns c =
    let it = c.self.inside in
    freed_is (map vec_items it.full.items) it.taken (map vec_items c.free_taken-self-inside.new.full.items) c.free_taken-self-inside.result it.last.items c.free_taken-self-inside.ensures
    ∙ c.self.view_is
