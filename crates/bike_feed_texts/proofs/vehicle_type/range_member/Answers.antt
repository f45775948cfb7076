use Rattle.bike_feed_texts.proofs.Objects.{member_last}
use Rattle.bike_feed_texts.proofs.vehicle_type.range_member.Goals as goal

pub returns-in-ElectricAssist-clause-wrote : goal.returns-in-ElectricAssist-clause-wrote
returns-in-ElectricAssist-clause-wrote g c = rw c.in-ElectricAssist.is (member_last c.whole_member.ensures.wrote)
