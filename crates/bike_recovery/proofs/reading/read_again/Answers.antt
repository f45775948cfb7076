use Rattle.std.proofs.Common.{arith}
use Rattle.sqlite.specs.State.{HasCleanDisk}
use Rattle.bike_desk.specs.Desk.{desk_state}
use Rattle.bike_recovery.proofs.ReadingLemmas.{reads}
use Rattle.bike_recovery.proofs.reading.read_again.Goals as goal

pub returns-clause-reads : goal.returns-clause-reads
returns-clause-reads g c clean s at =
    let feed = c.write_feed-status.ensures in
    let early : HasCleanDisk (desk_state g.S.Store c.place-place.new.self) = omega (arith, clean, feed.desk.clean) in
    reads g.S.Store c.args.desk.now c.place-place.new.self c.write_feed-status.new.desk s _ _ _ _ c.place-place.result c.write_feed-status.result early clean at
    c.place-place.ensures.takes_none c.place-place.ensures.query feed.desk (feed.whole clean s) (feed.front clean s) feed.nothing
