use Rattle.std.proofs.Common.{refl, ap}
use Rattle.bike_http_connection.specs.Connected.{Opened}
use Rattle.bike_http_connections.proofs.Losing.{back_again, ends_there}
use Rattle.bike_http_connections.specs.Table.{clients_of}
use Rattle.bike_http_connections.proofs.open.Open.close_one.Goals as goal

pub returns-then-is_answered : goal.returns-then-is_answered
returns-then-is_answered g c =
    back_again (clients_of c.args.self.now) (clients_of c.remove.new.self) _ (clients_of c.put_back.new.self) c.in-Some.connection.who _ refl (ap (λ (one : Opened). one.who) c.end_by.ensures.others)
    c.in-Some.ensures.taken c.put_back.ensures.kept

pub returns-else-is_answered : goal.returns-else-is_answered
returns-else-is_answered g c = ends_there (clients_of c.args.self.now) (clients_of c.remove.new.self) c.in-Some.connection.who c.in-Some.ensures.taken
