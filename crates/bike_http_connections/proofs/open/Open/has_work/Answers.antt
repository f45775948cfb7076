use Rattle.std.proofs.Common.{ℕ, ◌↔◌, IsTrue, subst}
use Rattle.bike_http_connections.specs.Ahead.{open_in}
use Rattle.bike_http_connections.specs.Turns.{nanos}
use Rattle.bike_http_connections.specs.Table.{Table, FitsFeed, HasWork}
use Rattle.bike_http_connections.proofs.Waiting.{has_work_is}
use Rattle.bike_http_connections.proofs.open.Open.has_work.Goals as goal

pub returns : goal.returns
returns g c =
    let it = c.self.inside in
    let table : Table = record {
      opened = open_in it.connections.slots;
      soonest = nanos it.deadlines.soonest;
      ready = it.queues.ready.items;
      feeds = it.queues.feeds.items;
      going = it.queues.going.items;
    } in
    subst (λ (t : Table). IsTrue c.has_work.result ↔ HasWork t) c.self.view_is
    (has_work_is table c.has_work.result c.fits_feed.result c.has_work.ensures
    (subst (λ (held : ℕ). IsTrue c.fits_feed.result ↔ FitsFeed held) c.self.invariant.counted c.fits_feed.ensures))
