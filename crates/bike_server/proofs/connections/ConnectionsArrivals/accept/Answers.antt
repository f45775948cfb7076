use Rattle.bike_server.proofs.Networks.{gives_one, gives_none}
use Rattle.bike_server.proofs.connections.ConnectionsArrivals.accept.Goals as goal

pub returns-in-Ok-Some : goal.returns-in-Ok-Some
returns-in-Ok-Some g c =
    rw (c.moment.ensures) (gives_one g.N.Socket.Socket.input g.N.Socket.Socket.coming g.N.Socket.Socket.taken g.N.Socket.Socket.is_known c.args.self.now c.next.new.self
    c.in-Ok-Some.exchange c.in-Ok-Some.answer (rw c.in-Ok-Some.field-0-is at c.in-Ok-Some.ensures.hands) (rw c.in-Ok-Some.field-0-is at c.in-Ok-Some.ensures.clients))

pub returns-in-Ok-None : goal.returns-in-Ok-None
returns-in-Ok-None g c =
    gives_none g.N.Socket.Socket.input g.N.Socket.Socket.coming g.N.Socket.Socket.taken g.N.Socket.Socket.is_known c.args.self.now c.next.new.self
    (rw c.in-Ok-None.field-0-is at c.in-Ok-None.ensures.clients)
