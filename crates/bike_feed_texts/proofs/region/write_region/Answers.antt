use Rattle.bike_feed_texts.proofs.Objects.{object_then, member_then, member_last}
use Rattle.bike_feed_texts.proofs.region.write_region.Goals as goal

pub returns-clause-wrote : goal.returns-clause-wrote
returns-clause-wrote g c =
    object_then c.begin_object.ensures.wrote c.begin_object.ensures.place.0
    (member_then (rw (c.as_str.ensures.text, c.region_id.ensures) at c.text_member.ensures.wrote) c.text_member.ensures.place.0 (member_last (rw c.name.ensures at c.localized_member.ensures.wrote)))
    c.end_object.ensures.wrote
