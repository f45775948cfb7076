use Rattle.bike_http_connection.proofs.Awaiting.{none_yet, blank_none, no_feed_yet}
use Rattle.bike_http_connection.proofs.gathering.Gathering.new.Goals as goal

pub invariant_of-result : goal.invariant_of-result
invariant_of-result c =
    record { awaits = none_yet 0 c.new.result.items c.new.ensures.items; feeds = no_feed_yet 0 c.new.result.items; blank = λ still. blank_none c.new.result.items c.new.ensures.items }
