use Rattle.bike_feed_texts.proofs.Objects.{object_then, member_then, member_last, members_then}
use Rattle.bike_feed_texts.proofs.vehicle_type.write_type.Goals as goal

pub returns-clause-wrote : goal.returns-clause-wrote
returns-clause-wrote g c =
    object_then c.begin_object.ensures.wrote c.begin_object.ensures.place.0
    (member_then (rw (c.as_str.ensures.text, c.type_id.ensures) at c.text_member.ensures.wrote) c.text_member.ensures.place.0
    (member_then (rw (c.as_str-2.ensures, c.form.ensures) at c.text_member-2.ensures.wrote) c.text_member-2.ensures.place.0
    (member_then (rw (c.as_str-3.ensures, c.propulsion-propulsion.ensures) at c.text_member-3.ensures.wrote) c.text_member-3.ensures.place.0
    (members_then _ _
    (rw (c.get.ensures.value, c.max_range.ensures.value, c.propulsion-propulsion.ensures) at c.range_member.ensures.wrote) c.text_member-3.ensures.place.0 c.range_member.ensures.place.0
    (member_then (rw c.name.ensures at c.localized_member.ensures.wrote) c.localized_member.ensures.place.0
    (member_last (rw (c.as_str-4.ensures.text, c.plan_id.ensures) at c.text_member-4.ensures.wrote)))))))
    c.end_object.ensures.wrote
