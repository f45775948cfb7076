use Rattle.bike_feeds.proofs.DeskLemmas.{no_want}
use Rattle.bike_feeds.proofs.FeedLemmas.{leaves_unasked, nothing_begun, on_err, publish_missing, publish_leaves, publish_whole, publish_front}
use Rattle.bike_feeds.proofs.feed.write_feed.Goals as goal

pub returns-in_err-system-clause-front : goal.returns-in_err-system-clause-front
returns-in_err-system-clause-front g c clean s at = on_err _ (nothing_begun s c.args.feed c.args.moment (g.W.Write.contents c.args.out.now))

pub returns-in_err-system-clause-desk : goal.returns-in_err-system-clause-desk
returns-in_err-system-clause-desk g c = leaves_unasked g.S.Store c.in_err-system.field-0.0 _ c.from_residual.ensures.1 c.in_err-system.ensures.query

pub returns-in_err-system-clause-takes_none : goal.returns-in_err-system-clause-takes_none
returns-in_err-system-clause-takes_none g c = no_want c.in_err-system.field-0.0 _ c.from_residual.ensures.1 c.in_err-system.ensures.takes_none

pub returns-in_default-clause-desk : goal.returns-in_default-clause-desk
returns-in_default-clause-desk g c = publish_missing g.S.Store _ c.in_ok-system.ensures.query c.in_default.is

pub returns-in_default-clause-front : goal.returns-in_default-clause-front
returns-in_default-clause-front g c clean s at = nothing_begun s c.args.feed c.args.moment (g.W.Write.contents c.args.out.now)

pub returns-clause-takes_none : goal.returns-clause-takes_none
returns-clause-takes_none g c = c.write_of_system.ensures.takes_none

pub returns-clause-desk : goal.returns-clause-desk
returns-clause-desk g c = publish_leaves g.S.Store _ c.in_ok-system.ensures.query c.write_of_system.ensures

pub returns-clause-whole : goal.returns-clause-whole
returns-clause-whole g c = publish_whole g.S.Store _ c.in_ok-system.ensures.query _ c.in-Some.is c.args.feed c.args.moment _ c.write_of_system.ensures

pub returns-clause-front : goal.returns-clause-front
returns-clause-front g c = publish_front g.S.Store _ c.in_ok-system.ensures.query _ c.in-Some.is c.args.feed c.args.moment _ c.write_of_system.ensures
