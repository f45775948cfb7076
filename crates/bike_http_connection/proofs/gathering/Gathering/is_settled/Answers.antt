use Rattle.std.proofs.Common.{arith}
use Rattle.std.proofs.lemmas.Bool.{le-leb, leb-true}
use Rattle.bike_http_connection.proofs.Awaiting.{all_there, settled_with, settled_without}
use Rattle.bike_http_connection.proofs.gathering.Gathering.is_settled.Goals as goal

pub returns-in-Body-clause-settled : goal.returns-in-Body-clause-settled
returns-in-Body-clause-settled c holds =
    let it = c.look.new.self in
    settled_with c.in-Body.end it.bytes.items (it.awaits.1 c.in-Body.end _ c.in-Body.is)
    (omega (arith, leb-true c.in-Body.end c.len.result holds, c.len.ensures, it.bytes.ok.0))

pub returns-in-Body-clause-whole : goal.returns-in-Body-clause-whole
returns-in-Body-clause-whole c whole =
    let it = c.look.new.self in
    let there = all_there c.in-Body.end it.bytes.items (it.awaits.1 c.in-Body.end _ c.in-Body.is) whole in
    le-leb c.in-Body.end c.len.result (omega (arith, there, c.len.ensures, it.bytes.ok.0))

pub returns-in-Unreadable-clause-settled : goal.returns-in-Unreadable-clause-settled
returns-in-Unreadable-clause-settled c holds = let it = c.look.new.self in settled_without it.bytes.items (it.awaits.2 c.in-Unreadable.is)
