use Rattle.bike_http_connection.specs.Asking.{Coming}
use Rattle.bike_server.specs.Answering.{Exchanges}
use Rattle.bike_server.proofs.InOrder.{gone_as}
use Rattle.bike_server.proofs.ServingLemmas.{exchanged}
use Rattle.bike_server.proofs.AnsweringLemmas.{exchanges}
use Rattle.bike_server.proofs.server.serve_arrival.Goals as goal

pub returns-clause-kept : goal.returns-clause-kept
returns-clause-kept g c clean s at =
    let it = c.serve_one-served.ensures in
    exchanged g.S.Store c.serve_one-served.new.desk c.args.desk.now s c.args.arrival.moment _ _ _ _ at it.rests (it.served clean s at)

pub returns-clause-served : goal.returns-clause-served
returns-clause-served g c clean s at read input comes asks none =
    let arrival = c.args.arrival in
    let it = c.serve_one-served.ensures in
    let coming : Coming = record { moment = arrival.moment; input = input } in
    gone_as (g.A.Arrivals.known c.args.arrivals.now) (g.A.Arrivals.known c.finish.new.self) (g.A.Arrivals.connected arrival.client) _ c.serve_one-served.result
    (Exchanges g.S.Store c.serve_one-served.new.desk s coming) c.finish.ensures
    (exchanges g.S.Store c.serve_one-served.new.desk s coming read asks c.args.desk.now _ _ _ _ comes none at it.rests (it.served clean s at))
