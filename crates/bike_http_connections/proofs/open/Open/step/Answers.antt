use Rattle.std.proofs.Common.{refl}
use Rattle.bike_http_connections.proofs.Losing.{back_again}
use Rattle.bike_http_connections.proofs.Staying.{but_one}
use Rattle.bike_http_connections.specs.Table.{clients_of}
use Rattle.bike_http_connections.proofs.open.Open.step.Goals as goal

pub returns-in-Some-clause-kept : goal.returns-in-Some-clause-kept
returns-in-Some-clause-kept g c known =
    back_again (clients_of c.args.self.now) (clients_of c.remove.new.self) _ (clients_of c.insert.new.self) c.in-Some.connection.who _ refl refl c.in-Some.ensures.taken (c.insert.ensures.kept known)

pub returns-in-Some-clause-others : goal.returns-in-Some-clause-others
returns-in-Some-clause-others g c =
    but_one c.in-Some.connection c.args.self.now.opened c.remove.new.self.opened c.insert.new.self.opened c.in-Some.ensures.whole c.insert.ensures.others
