use Rattle.std.proofs.Common.{ap, ◌∙◌}
use Rattle.std.specs.Duration.{as_nanos}
use Rattle.bike_http_connection.specs.Connected.{Opened}
use Rattle.bike_http_connection.proofs.Beginning.{one_is}
use Rattle.bike_http_connection.proofs.connection.Connection.begin.Goals as goal

pub returns-clause-who : goal.returns-clause-who
returns-clause-who g c =
    one_is g.S.Socket.input g.S.Socket.coming g.S.Socket.taken c.new-peer.result c.add.new.self c.new-gathering.result.bytes.items c.args.came.now c.args.moment c.args.socket
    c.gathering.result.who (ap (λ (one : Opened). one.who) c.gathering.ensures) c.new-peer.ensures.moment c.new-peer.ensures.socket c.in_ok-add.ensures c.new-gathering.ensures

pub returns-clause-end : goal.returns-clause-end
returns-clause-end g c = ap (λ (one : Opened). as_nanos one.end) c.gathering.ensures ∙ c.new-peer.ensures.end
