use Rattle.bike_feed_texts.proofs.Objects.{object_then, member_then, member_last}
use Rattle.bike_feed_texts.proofs.members.write_translation.Goals as goal

pub returns-clause-wrote : goal.returns-clause-wrote
returns-clause-wrote g c =
    object_then c.begin_object.ensures.wrote c.begin_object.ensures.place.0
    (member_then (rw c.as_str.ensures.text at c.text_member.ensures.wrote) c.text_member.ensures.place.0
    (member_last (rw c.as_str-2.ensures.text at c.text_member-2.ensures.wrote)))
    c.end_object.ensures.wrote
