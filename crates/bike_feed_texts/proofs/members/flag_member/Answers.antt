use Rattle.bike_feed_texts.proofs.Objects.{name_then}
use Rattle.bike_feed_texts.proofs.members.flag_member.Goals as goal

pub returns-clause-wrote : goal.returns-clause-wrote
returns-clause-wrote g c = name_then c.member.ensures.wrote c.member.ensures.place.0 c.flag.ensures.wrote
