use Rattle.std.proofs.Common.{rules, arith}
use Rattle.bike_http_connection.proofs.Reading.{copied}
use Rattle.bike_http_connection.proofs.request.RequestReader.copy.Goals as goal

pub returns-clause-copied : goal.returns-clause-copied
returns-clause-copied c =
    copied c.args.self.now.bytes.items c.deref.result.now c.args.buf.now c.copy_from_slice.new.self c.args.self.now.start c.min-start.result c.min-count.result
    c.deref.ensures.value (search rules) c.copy_from_slice.ensures.after c.copy_from_slice.ensures.len (omega (arith, c.min-count.ensures))
