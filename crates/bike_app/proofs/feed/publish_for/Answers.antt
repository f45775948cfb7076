use Rattle.bike_app.proofs.FeedLemmas.{published_at}
use Rattle.bike_app.proofs.feed.publish_for.Goals as goal

pub returns-clause-told : goal.returns-clause-told
returns-clause-told g c clean s at =
    let written = c.write_feed-published in
    rw c.told.ensures (published_at g.S.Store _ _ s c.args.feed c.args.moment _ _ clean at written.result written.ensures.desk (written.ensures.whole clean s at) (written.ensures.front clean s at))

pub returns-clause-left : goal.returns-clause-left
returns-clause-left g c clean s at = c.write_feed-published.ensures.desk.left clean s at
