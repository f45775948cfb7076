use Rattle.bike_feed_texts.proofs.Objects.{member_then, member_last}
use Rattle.bike_feed_texts.proofs.status.report_members.Goals as goal

pub returns-clause-wrote : goal.returns-clause-wrote
returns-clause-wrote g c =
    member_then c.flag_member.ensures.wrote c.flag_member.ensures.place.0
    (member_then (rw (c.while_installed.ensures) at c.flag_member-2.ensures.wrote) c.flag_member-2.ensures.place.0
    (member_then (rw (c.while_installed-2.ensures) at c.flag_member-3.ensures.wrote) c.flag_member-3.ensures.place.0
    (member_last c.moment_member.ensures.wrote)))
