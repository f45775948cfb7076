use Rattle.bike_feed_texts.proofs.Objects.{object_then, member_then, member_last, members_then}
use Rattle.bike_feed_texts.proofs.station.write_station.Goals as goal

pub returns-clause-wrote : goal.returns-clause-wrote
returns-clause-wrote g c =
    object_then c.begin_object.ensures.wrote c.begin_object.ensures.place.0
    (member_then (rw (c.as_str.ensures.text, c.station_id.ensures) at c.text_member.ensures.wrote) c.text_member.ensures.place.0
    (member_then (rw (c.name.ensures) at c.localized_member.ensures.wrote) c.localized_member.ensures.place.0
    (member_then (rw (c.lat.ensures.value) at c.micro_member.ensures.wrote) c.micro_member.ensures.place.0
    (member_then (rw (c.lon.ensures) at c.micro_member-2.ensures.wrote) c.micro_member-2.ensures.place.0
    (members_then _ _ c.region_member.ensures.wrote c.micro_member-2.ensures.place.0 c.region_member.ensures.place.0
    (member_last (rw (c.get.ensures.value, c.docks.ensures) at c.whole_member.ensures.wrote)))))))
    c.end_object.ensures.wrote
