use Rattle.bike_app.proofs.feed.publish_at.Goals as goal

pub returns-in-Some-clause-told : goal.returns-in-Some-clause-told
returns-in-Some-clause-told g c clean s at = rw c.in-Some.is (c.publish_for.ensures.told clean s at)
