use Rattle.bike_feed_texts.proofs.Objects.{member_last}
use Rattle.bike_feed_texts.proofs.station.region_member.Goals as goal

pub returns-in-Some-clause-wrote : goal.returns-in-Some-clause-wrote
returns-in-Some-clause-wrote g c = rw c.in-Some.is (member_last (rw c.as_str.ensures.text at c.text_member.ensures.wrote))
