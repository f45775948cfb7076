use Rattle.bike_feed_texts.specs.Elements.{counts_members, report_members}
use Rattle.bike_feed_texts.specs.Writing.{counts_row, report_row}
use Rattle.bike_feed_texts.proofs.Objects.{object_then, member_then, members_then}
use Rattle.bike_feed_texts.proofs.status.write_status.Goals as goal

pub returns-clause-wrote : goal.returns-clause-wrote
returns-clause-wrote g c =
    object_then c.begin_object.ensures.wrote c.begin_object.ensures.place.0
    (member_then (rw (c.as_str.ensures.text, c.station_id.ensures) at c.text_member.ensures.wrote) c.text_member.ensures.place.0
    (members_then (counts_members (counts_row c.args.counts.now)) (report_members
    (report_row c.args.station.now)) c.counts_members.ensures.wrote c.text_member.ensures.place.0 c.counts_members.ensures.place.0 c.report_members.ensures.wrote))
    c.end_object.ensures.wrote
