use Rattle.std.proofs.Common.{refl, ap}
use Rattle.bike_http_connection.specs.Connected.{Opened}
use Rattle.bike_http_connections.specs.declared.limits.TheConstants.{MOST_OPEN}
use Rattle.bike_http_connections.specs.Table.{clients_of}
use Rattle.bike_http_connections.proofs.Losing.{back_again, loses_none}
use Rattle.bike_http_connections.proofs.Giving.{gives_taken}
use Rattle.bike_http_connections.proofs.Staying.{but_one, back_as_before}
use Rattle.bike_http_connections.proofs.open.Open.take_request.Goals as goal

pub returns-then-may_be_feed-is_feed-clause-lost : goal.returns-then-may_be_feed-is_feed-clause-lost
returns-then-may_be_feed-is_feed-clause-lost g c =
    back_again (clients_of c.args.self.now) (clients_of c.remove.new.self) _ (clients_of c.put_back.new.self) c.in_ok-connection.connection.who _ refl refl
    c.in_ok-connection.ensures.taken c.put_back.ensures.kept

pub returns-then-may_be_feed-is_feed-clause-stay : goal.returns-then-may_be_feed-is_feed-clause-stay
returns-then-may_be_feed-is_feed-clause-stay g c few =
    back_as_before MOST_OPEN c.in_ok-connection.connection _ c.args.self.now.opened c.remove.new.self.opened c.put_back.new.self.opened
    c.in_ok-connection.ensures.whole refl few c.put_back.ensures.comes_in

pub returns-then-may_be_feed-is_feed-clause-others : goal.returns-then-may_be_feed-is_feed-clause-others
returns-then-may_be_feed-is_feed-clause-others g c =
    but_one c.in_ok-connection.connection c.args.self.now.opened c.remove.new.self.opened c.put_back.new.self.opened
    c.in_ok-connection.ensures.whole c.put_back.ensures.others

pub returns-in-Err-clause-lost : goal.returns-in-Err-clause-lost
returns-in-Err-clause-lost g c =
    back_again (clients_of c.args.self.now) (clients_of c.remove.new.self) _ (clients_of c.put_back-in-Err.new.self) c.in_ok-connection.connection.who _ refl (ap (λ (one : Opened). one.who) c.in-Err.ensures.kept)
    c.in_ok-connection.ensures.taken c.put_back-in-Err.ensures.kept

pub returns-in-Err-clause-stay : goal.returns-in-Err-clause-stay
returns-in-Err-clause-stay g c few =
    back_as_before MOST_OPEN c.in_ok-connection.connection _ c.args.self.now.opened c.remove.new.self.opened c.put_back-in-Err.new.self.opened
    c.in_ok-connection.ensures.whole c.in-Err.ensures.kept few c.put_back-in-Err.ensures.comes_in

pub returns-in-Err-clause-others : goal.returns-in-Err-clause-others
returns-in-Err-clause-others g c =
    but_one c.in_ok-connection.connection c.args.self.now.opened c.remove.new.self.opened c.put_back-in-Err.new.self.opened
    c.in_ok-connection.ensures.whole c.put_back-in-Err.ensures.others

pub returns-in-Ok-clause-taken : goal.returns-in-Ok-clause-taken
returns-in-Ok-clause-taken g c =
    gives_taken g.S.Socket.is_known g.S.Socket.input g.S.Socket.coming g.S.Socket.taken (clients_of c.args.self.now) (clients_of c.remove.new.self)
    c.in_ok-connection.connection.who c.in-Ok.exchange c.in_ok-connection.ensures.taken c.in-Ok.ensures.handed

pub returns-in-Ok-clause-others : goal.returns-in-Ok-clause-others
returns-in-Ok-clause-others g c =
    but_one c.in_ok-connection.connection c.args.self.now.opened c.remove.new.self.opened c.remove.new.self.opened
    c.in_ok-connection.ensures.whole (loses_none c.remove.new.self.opened)
